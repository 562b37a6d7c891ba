use Rattle.std.proofs.Common.{◌≡◌, ◌++◌, List, length}
use Rattle.boot_log.specs.declared.header.DeclaredAlgorithm.{DeclaredAlgorithm}
use Rattle.boot_log.specs.Names.{IsLog, LogEvent, log_bytes}
use Rattle.boot_texts.specs.declared.differences.Difference.{Difference}
use Rattle.boot_texts.specs.Differences.{AreOfRegisters, difference_lines}
use Rattle.boot_texts.proofs.differences.append_registers.Given as goal

-- The lines are those of the registers so far.
abbrev pub invariant-loop-register : goal.invariant-loop-register
invariant-loop-register l =
    (table rows : List DeclaredAlgorithm) (events others : List LogEvent) → IsLog (log_bytes l.log) table events → IsLog (log_bytes l.before) rows others
    → (differences : List Difference) × (length differences ≡ l.register) × AreOfRegisters l.matched events others 0 differences
    × (l.lines.items ≡ l.fn.lines.items ++ difference_lines l.form events others differences)

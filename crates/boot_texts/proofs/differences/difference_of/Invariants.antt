use Rattle.std.proofs.Common.{List, take}
use Rattle.std.specs.List.{AllByRecursion}
use Rattle.pcr_banks.specs.Names.{all_algs}
use Rattle.boot_log.specs.declared.header.DeclaredAlgorithm.{DeclaredAlgorithm}
use Rattle.boot_log.specs.Names.{IsLog, LogEvent, log_bytes}
use Rattle.boot_texts.specs.Differences.{IsAlikeIn}
use Rattle.boot_texts.proofs.differences.difference_of.Given as goal

-- In none of the banks so far that answer do the boots differ.
abbrev pub invariant-loop-alg : goal.invariant-loop-alg
invariant-loop-alg l =
    (table rows : List DeclaredAlgorithm) (events others : List LogEvent) → IsLog (log_bytes l.log) table events → IsLog (log_bytes l.before) rows others
    → AllByRecursion (IsAlikeIn l.matched l.register events others) (take l.alg-index all_algs)

use Rattle.std.proofs.Common.{List, take}
use Rattle.std.specs.List.{AllByRecursion}
use Rattle.pcr_banks.specs.Names.{all_algs}
use Rattle.boot_log.specs.declared.header.DeclaredAlgorithm.{DeclaredAlgorithm}
use Rattle.boot_log.specs.Names.{IsLog, LogEvent, log_bytes}
use Rattle.boot_answers.specs.parts.FirmwareVersion.{Agrees}
use Rattle.boot_answers.proofs.versions.all_agree.Given as goal

abbrev pub invariant-loop-alg : goal.invariant-loop-alg
invariant-loop-alg l =
    (table : List DeclaredAlgorithm) (events : List LogEvent) → IsLog (log_bytes l.log) table events
    → AllByRecursion (Agrees l.matched events) (take l.alg-index all_algs)

use Rattle.std.proofs.Common.{◌≤◌, take}
use Rattle.pcr_values.specs.Names.{every_register}
use Rattle.boot_verdict.specs.Names.{expected_of_rows, is_missing}
use Rattle.rendering.proofs.SummaryLaws.{HasCounted}
use Rattle.rendering.proofs.summary.missing_in.Given as goal

abbrev pub invariant-loop-number : goal.invariant-loop-number
invariant-loop-number l =
    HasCounted (λ register. is_missing l.required (expected_of_rows l.rows) register.0 register.1) (take l.number every_register) l.first l.count
    × (l.count ≤ l.number)

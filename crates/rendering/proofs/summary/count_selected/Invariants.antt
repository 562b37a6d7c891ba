use Rattle.std.proofs.Common.{◌≡◌, ◌≤◌, length, map, take}
use Rattle.std.specs.List.{filter}
use Rattle.pcr_values.specs.Names.{every_register}
use Rattle.tpm_quotes.specs.Spelling.{selects}
use Rattle.attestations.specs.Quoted.{bank_selection_of}
use Rattle.rendering.proofs.summary.count_selected.Given as goal

abbrev pub invariant-loop-number : goal.invariant-loop-number
invariant-loop-number l =
    (l.count ≡ length (filter (λ register. selects (map bank_selection_of l.selections) register.0 register.1) (take l.number every_register)))
    × (l.count ≤ l.number)

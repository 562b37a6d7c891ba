use Rattle.std.proofs.Common.{◌≡◌, map, take}
use Rattle.tpm_quotes.specs.Spelling.{selection_of}
use Rattle.attestations.specs.Quoted.{bank_selection_of}
use Rattle.attestations.proofs.report.selected_of.Given as goal

abbrev pub invariant-loop-selection : goal.invariant-loop-selection
invariant-loop-selection l =
    map bank_selection_of l.selected.items ≡ map selection_of (take l.selection-index l.selections)

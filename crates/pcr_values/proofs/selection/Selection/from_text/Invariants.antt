use Rattle.std.proofs.Common.{◌≡◌, None}
use Rattle.pcr_values.specs.Names.{bank_after}
use Rattle.pcr_values.proofs.SelectionLaws.{ReadsParts}
use Rattle.pcr_values.proofs.StatedLaws.{left_count}
use Rattle.pcr_values.proofs.selection.Selection.from_text.Given as goal

abbrev pub invariant-loop-rest : goal.invariant-loop-rest
invariant-loop-rest l = ReadsParts l.fn.text l.ranges.items l.rest × (l.bank ≡ bank_after None l.ranges.items)

abbrev pub decreases-loop-rest : goal.decreases-loop-rest
decreases-loop-rest l = left_count l.rest

use Rattle.cells.proofs.CellLaws.{in_object_at, joined}
use Rattle.boot_texts.proofs.claims.show_claim.Goals as goal

pub returns : goal.returns
returns c = in_object_at c.in_ok-object.ensures (joined c.in_ok-number.ensures c.in_ok-show_said.ensures) c.end.ensures

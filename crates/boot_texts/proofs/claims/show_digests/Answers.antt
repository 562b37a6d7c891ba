use Rattle.cells.proofs.CellLaws.{in_object_at}
use Rattle.boot_texts.proofs.claims.show_digests.Goals as goal

pub returns : goal.returns
returns c = in_object_at c.in_ok-object.ensures c.in_ok-show_stated.ensures c.end.ensures

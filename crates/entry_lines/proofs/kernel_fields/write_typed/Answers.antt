use Rattle.cells.proofs.WrittenLaws.{joined}
use Rattle.entry_lines.proofs.kernel_fields.write_typed.Goals as goal

pub returns : goal.returns
returns c = joined (rw c.name.ensures at c.in_ok-write_text.ensures) c.in_ok-write_digest.ensures

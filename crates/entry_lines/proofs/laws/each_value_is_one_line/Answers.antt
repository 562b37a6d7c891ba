use Rattle.std.proofs.Common.{refl}
use Rattle.cells.proofs.LineLaws.{one_line}
use Rattle.entry_lines.proofs.EntryLaws.{entry_line}
use Rattle.entry_lines.proofs.laws.each_value_is_one_line.Goals as goal

pub returns : goal.returns
returns c = record { entry = entry_line; entry_count = λ entries fits. one_line _ ((entries, fits, refl), tt) }

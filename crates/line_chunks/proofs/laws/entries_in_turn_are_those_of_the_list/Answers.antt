use Rattle.std.proofs.Common.{[]}
use Rattle.line_chunks.specs.Pieces.{entries_of, start}
use Rattle.line_chunks.proofs.EntryLaws.{no_entries_before}
use Rattle.line_chunks.proofs.PieceLaws.{in_turn}
use Rattle.line_chunks.proofs.laws.entries_in_turn_are_those_of_the_list.Goals as goal

pub returns : goal.returns
returns c = λ form list pieces end turn. in_turn (entries_of form list) start end [] pieces turn (no_entries_before form list)

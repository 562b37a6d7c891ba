use Rattle.std.proofs.Common.{[], refl, inl}
use Rattle.line_chunks.specs.Pieces.{events_of, start}
use Rattle.line_chunks.proofs.PieceLaws.{in_turn}
use Rattle.line_chunks.proofs.laws.events_in_turn_are_those_of_the_log.Goals as goal

pub returns : goal.returns
returns c = λ matched log pieces end turn. in_turn (events_of matched log) start end [] pieces turn (inl (refl, refl))

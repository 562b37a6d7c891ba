use Rattle.std.proofs.Common.{refl, inl}
use Rattle.line_chunks.specs.Pieces.{events_of, start}
use Rattle.line_chunks.proofs.PieceLaws.{to_a_fault, to_the_last}
use Rattle.line_chunks.proofs.laws.events_to_the_end_are_what_is_shown.Goals as goal

pub returns-clause-all : goal.returns-clause-all
returns-clause-all c = λ matched log pieces position piece. to_the_last (events_of matched log) start position pieces piece (inl (refl, refl))

pub returns-clause-fault : goal.returns-clause-fault
returns-clause-fault c =
    λ matched log pieces end fault line status. to_a_fault (events_of matched log) start end pieces fault line status (inl (refl, refl))

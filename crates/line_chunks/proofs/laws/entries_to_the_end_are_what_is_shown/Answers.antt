use Rattle.line_chunks.specs.Pieces.{entries_of, start}
use Rattle.line_chunks.proofs.EntryLaws.{no_entries_before}
use Rattle.line_chunks.proofs.PieceLaws.{to_a_fault, to_the_last}
use Rattle.line_chunks.proofs.laws.entries_to_the_end_are_what_is_shown.Goals as goal

pub returns-clause-all : goal.returns-clause-all
returns-clause-all c =
    λ form list pieces position piece. to_the_last (entries_of form list) start position pieces piece (no_entries_before form list)

pub returns-clause-fault : goal.returns-clause-fault
returns-clause-fault c =
    λ form list pieces end fault line status. to_a_fault (entries_of form list) start end pieces fault line status (no_entries_before form list)

use Rattle.std.proofs.Common.{map}
use Rattle.measure_book.specs.Names.{book_outcome_of}
use Rattle.measuring.specs.Measuring.{AreDone}
use Rattle.measuring.proofs.file_book.first_refusal.Given as goal

-- No outcome before this one is a refusal.
abbrev pub invariant-loop-job : goal.invariant-loop-job
invariant-loop-job l = AreDone (map book_outcome_of l.outcomes) l.job

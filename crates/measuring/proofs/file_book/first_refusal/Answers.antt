use Rattle.std.proofs.Common.{length, refl, arith}
use Rattle.std.proofs.lemmas.List.{length-map}
use Rattle.std.proofs.lemmas.Option.{slice_get_read}
use Rattle.measure_book.specs.Names.{book_outcome_of}
use Rattle.measuring.proofs.MeasuringLaws.{one_more_done}
use Rattle.measuring.proofs.file_book.first_refusal.Goals as goal

pub loop-job-preserved : goal.loop-job-preserved
loop-job-preserved c =
    let at = slice_get_read c.args.outcomes.now (length c.args.outcomes.now) c.loop-job.job c.index-outcomes-job.result refl c.loop-job-test.true
    c.index-outcomes-job.is in
    one_more_done c.args.outcomes.now c.loop-job.job c.index-outcomes-job.result c.in_default.field-0 at c.in_default.is c.loop-job.invariant

pub returns-clause-none : goal.returns-clause-none
returns-clause-none c = λ job reason below has.
    c.loop-job.invariant job reason (omega (arith, length-map c.args.outcomes.now book_outcome_of)) has

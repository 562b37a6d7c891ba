use Rattle.std.proofs.lemmas.Result.{err_from_is_err_and}
use Rattle.measuring.proofs.MeasuringLaws.{not_recorded, set_out}
use Rattle.measuring.proofs.file_book.measure_over.Goals as goal

pub returns-in_err-book-clause-fault : goal.returns-in_err-book-clause-fault
returns-in_err-book-clause-fault g c =
    let p = err_from_is_err_and c.from_residual.result c.from_residual.ensures.1 in
    let read = c.requires.read in
    rw (p.1, p.2) (not_recorded _ _ _ _ _ _ _
    (set_out _ c.args.request.now read.0 read.1 read.2 c.registers.result (c.registers.ensures read.0 read.1 read.2)) c.in_err-book.ensures.fault)

pub returns-clause-measured : goal.returns-clause-measured
returns-clause-measured g c =
    let read = c.requires.read in
    record {
      origin = _;
      set_out = set_out _ c.args.request.now read.0 read.1 read.2 c.registers.result (c.registers.ensures read.0 read.1 read.2);
      reset_is = c.reset_registers.ensures read.0 read.1 read.2;
      measured = c.in_ok-book.ensures.measured;
    }

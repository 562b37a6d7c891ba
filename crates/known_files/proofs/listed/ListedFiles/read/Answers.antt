use Rattle.std.proofs.Common.{Err, ap}
use Rattle.std.proofs.lemmas.Result.{err_from_is_err_and}
use Rattle.known_files.specs.declared.fault.KnownFault.{KnownFault}
use Rattle.known_files.specs.declared.fault.KnownFault.TheVariants.{Memory}
use Rattle.known_files.proofs.ListedLaws.{begins_here, fault_is, holds_more, reads_more}
use Rattle.known_files.proofs.listed.ListedFiles.read.Goals as goal

pub returns-in_err-take_line-clause-err : goal.returns-in_err-take_line-clause-err
returns-in_err-take_line-clause-err c =
    let p = err_from_is_err_and c.from_residual.result c.from_residual.ensures.1 in
    rw p.1 (holds_more c.take_line.new.self c.loop-rest.invariant c.in_err-take_line.ensures.err)

pub returns-in_err-take_line-clause-memory : goal.returns-in_err-take_line-clause-memory
returns-in_err-take_line-clause-memory c =
    let p = err_from_is_err_and c.from_residual.result c.from_residual.ensures.1 in
    λ memory.
    let same = fault_is c.from_residual.result p.0 c.in_err-take_line.field-0.0 Memory p.1 p.2 memory in
    begins_here c.line_at.result.1.now c.loop-rest.invariant c.line_at.ensures.line
    (c.in_err-take_line.ensures.memory (ap (λ (f : KnownFault). Err f) same))

pub loop-rest-preserved : goal.loop-rest-preserved
loop-rest-preserved c =
    reads_more c.line_at.result.1.now c.loop-rest.invariant c.line_at.ensures.line c.line_at.ensures.shorter
    c.in_ok-take_line.ensures.ok.0 c.in_ok-take_line.ensures.ok.1

use Rattle.std.proofs.Common.{inr}
use Rattle.std.proofs.lemmas.Result.{err_from_is_err_and}
use Rattle.ima_verify_c.proofs.BootLaws.{or_memory}
use Rattle.ima_verify_c.proofs.boot.booted.Goals as goal

pub returns-in_err-log-clause-fault : goal.returns-in_err-log-clause-fault
returns-in_err-log-clause-fault c =
    let p = err_from_is_err_and c.from_residual.result c.from_residual.ensures.1 in rw (p.1, p.2) (inr c.in_err-log.ensures.fault)

pub returns-clause-shown : goal.returns-clause-shown
returns-clause-shown c = rw (← c.in_ok-log.ensures.log, ← c.bytes.ensures) c.boot_on.ensures.shown

pub returns-clause-fault : goal.returns-clause-fault
returns-clause-fault c =
    or_memory _ c.boot_on.result (rw (c.bytes.ensures, c.in_ok-log.ensures.log) at c.boot_on.ensures.fault)

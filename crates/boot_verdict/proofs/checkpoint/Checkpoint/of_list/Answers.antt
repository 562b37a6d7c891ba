use Rattle.std.proofs.Common.{refl}
use Rattle.std.proofs.lemmas.Result.{err_from_is_err_and}
use Rattle.boot_verdict.proofs.checkpoint.Checkpoint.of_list.Goals as goal

pub returns-in_err-replay-clause-known : goal.returns-in_err-replay-clause-known
returns-in_err-replay-clause-known c =
    let p = err_from_is_err_and c.from_residual.result c.from_residual.ensures.1 in rw p.1 tt

pub returns-in_err-replay-clause-fault : goal.returns-in_err-replay-clause-fault
returns-in_err-replay-clause-fault c =
    let p = err_from_is_err_and c.from_residual.result c.from_residual.ensures.1 in rw (p.1, p.2) c.in_err-replay.ensures.fault

pub returns-clause-known : goal.returns-clause-known
returns-clause-known c =
    (c.after.ensures.known c.args.list.now c.in_ok-replay.ensures.replays refl).0

use Rattle.std.proofs.Common.{List, ◌++◌, arith, subst, sym}
use Rattle.std.proofs.lemmas.Result.{err_from_is_err_and}
use Rattle.std.proofs.lemmas.List.{length-append}
use Rattle.ima_list.specs.Names.{ListEntry}
use Rattle.boot_verdict.specs.Names.{AreTracked}
use Rattle.boot_verdict.proofs.checkpoint.Checkpoint.go_on.Goals as goal

pub returns-in_err-count-clause-known : goal.returns-in_err-count-clause-known
returns-in_err-count-clause-known g c =
    let p = err_from_is_err_and c.from_residual.result c.from_residual.ensures.1 in rw p.1 tt

pub returns-in_err-count-clause-watched : goal.returns-in_err-count-clause-watched
returns-in_err-count-clause-watched g c =
    let p = err_from_is_err_and c.from_residual.result c.from_residual.ensures.1 in rw p.1 tt

pub returns-in_err-count-clause-fault : goal.returns-in_err-count-clause-fault
returns-in_err-count-clause-fault g c =
    let p = err_from_is_err_and c.from_residual.result c.from_residual.ensures.1 in
    rw (p.1, p.2) (λ list is. (c.in_err-count.ensures.fault c.args.self.now.before list (c.replay-replay.ensures.replays list is).0).0)

pub returns-clause-known : goal.returns-clause-known
returns-clause-known g c =
    λ list is.
    let both = c.in_ok-count.ensures.replays c.args.self.now.before list (c.replay-replay.ensures.replays list is).0 in
    record {
      more = both.0.more;
      came = both.0.came;
      checkpoint = (c.after-next.ensures.known (list ++ both.0.more) both.0.all (omega (arith, is.size, both.1, length-append list both.0.more))).0;
    }

pub returns-clause-watched : goal.returns-clause-watched
returns-clause-watched g c =
    λ start list is tracked.
    let all = c.replay-replay.ensures.replays list is in
    let both = c.in_ok-count.ensures.replays c.args.self.now.before list all.0 in
    let next = c.after-next.ensures.known (list ++ both.0.more) both.0.all (omega (arith, is.size, both.1, length-append list both.0.more)) in
    let IsAfter = g.W.Tracker.is_after in
    record {
      more = both.0.more;
      came = both.0.came;
      checkpoint = next.0;
      tracked = subst (λ (l : List ListEntry). AreTracked IsAfter start l c.replay_more.new.watch) (sym next.1)
          (both.2 start (subst (λ (l : List ListEntry). AreTracked IsAfter start l c.args.watch) (sym all.1) tracked));
    }

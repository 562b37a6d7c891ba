use Rattle.std.proofs.lemmas.Result.{err_from_is_err_and}
use Rattle.growing_lists.specs.Goals.{goal_data}
use Rattle.growing_lists.proofs.ConfirmLaws.{prefix_taken, refused_by, takes_unconfirmed, watches_more, watches_prefix}
use Rattle.growing_lists.proofs.session.Session.confirm.Goals as goal

pub returns-in_err-search-clause-fault : goal.returns-in_err-search-clause-fault
returns-in_err-search-clause-fault g c =
    let p = err_from_is_err_and c.from_residual.result c.from_residual.ensures.1 in
    rw (p.1, p.2) (λ log list has. c.in_err-search.ensures.fault list has.checkpoint)

pub returns-in_err-search-clause-unconfirmed : goal.returns-in_err-search-clause-unconfirmed
returns-in_err-search-clause-unconfirmed g c =
    let p = err_from_is_err_and c.from_residual.result c.from_residual.ensures.1 in
    rw (p.1, p.2) (λ log list has. c.in_err-search.ensures.other log list _ _ _ (goal_data c.args.goal) _)

pub returns-in_err-self-clause-fault : goal.returns-in_err-self-clause-fault
returns-in_err-self-clause-fault g c =
    let p = err_from_is_err_and c.from_residual-in_err-self.result c.from_residual-in_err-self.ensures.1 in
    let wrong = c.in_err-self.ensures.fault in
    rw (p.1, p.2, wrong.2) (λ log list has.
    (refused_by c.args.self.now log list has _ _ _ (goal_data c.args.goal) c.in_ok-search.search (c.in_ok-search.ensures.found list has.checkpoint)
    wrong.0 wrong.1 c.in_default.is).0)

pub returns-in_err-self-clause-unconfirmed : goal.returns-in_err-self-clause-unconfirmed
returns-in_err-self-clause-unconfirmed g c =
    let p = err_from_is_err_and c.from_residual-in_err-self.result c.from_residual-in_err-self.ensures.1 in
    let wrong = c.in_err-self.ensures.fault in
    rw (p.1, p.2, wrong.2) (λ log list has.
    (refused_by c.args.self.now log list has _ _ _ (goal_data c.args.goal) c.in_ok-search.search (c.in_ok-search.ensures.found list has.checkpoint)
    wrong.0 wrong.1 c.in_default.is).1)

pub returns-in_default-clause-none : goal.returns-in_default-clause-none
returns-in_default-clause-none g c =
    λ log list has.
    takes_unconfirmed c.args.self.now log list has _ _ _ (goal_data c.args.goal) c.in_ok-search.search (c.in_ok-search.ensures.found list has.checkpoint)
    c.in_ok-self.field-0 c.in_ok-self.ensures.whole c.in_default.is

pub returns-clause-prefix : goal.returns-clause-prefix
returns-clause-prefix g c =
    rw c.wrong_with.ensures (λ log list has.
    prefix_taken c.args.self.now log list has _ _ _ (goal_data c.args.goal) c.in_ok-search.search (c.in_ok-search.ensures.found list has.checkpoint)
    c.in-Some.prefix c.in-Some.is)

pub returns-in_default-clause-watched : goal.returns-in_default-clause-watched
returns-in_default-clause-watched g c =
    λ start log list has tracked.
    watches_more g.W.Tracker.is_after start c.args.self.now log list has _ _ _ (goal_data c.args.goal) c.in_ok-search.search _
    (c.in_ok-search.ensures.watched start list has.checkpoint tracked) c.in_ok-self.field-0 c.in_ok-self.ensures.whole

pub returns-clause-watched : goal.returns-clause-watched
returns-clause-watched g c =
    rw c.wrong_with.ensures (λ start log list has tracked.
    watches_prefix g.W.Tracker.is_after start c.args.self.now log list has _ _ _ (goal_data c.args.goal) c.in_ok-search.search _
    (c.in_ok-search.ensures.watched start list has.checkpoint tracked) c.in-Some.prefix c.in-Some.is)

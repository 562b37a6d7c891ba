use Rattle.std.proofs.Common.{List, Err, arith, ap, subst, ◌∙◌}
use Rattle.std.proofs.lemmas.Result.{err_from_is_err_and}
use Rattle.ima_list.specs.Names.{ListEntry}
use Rattle.boot_verdict.specs.Names.{AreTracked}
use Rattle.boot_verdict.proofs.ReplayLaws.{one_list}
use Rattle.growing_lists.specs.parts.Confirming.{search_before}
use Rattle.growing_lists.proofs.PrefixLaws.{searches_part, searches_whole, watches_part, watches_whole}
use Rattle.growing_lists.proofs.confirmation.search_list.Goals as goal
use Rattle.growing_lists.proofs.confirmation.search_list.Goals.{in-Ok, in-Err+in_ok-unconfirmed_of-in-Err}

pub returns-in_err-unconfirmed_of-in-Err-clause-fault : goal.returns-in_err-unconfirmed_of-in-Err-clause-fault
returns-in_err-unconfirmed_of-in-Err-clause-fault g c =
    let p = err_from_is_err_and c.from_residual.result c.from_residual.ensures.1 in
    let known = c.args.known.now in
    rw (p.1, p.2, ← c.room.ensures.room, ← c.in_err-unconfirmed_of-in-Err.ensures.same) (λ list is.
    ((rw c.in-Err.is at c.replay_more.ensures.fault) (search_before known c.args.goal) list
    (c.searching-replay.ensures.replays list is (omega (arith, c.room.ensures.bytes)))).0)

pub returns-clause-found : goal.returns-clause-found
returns-clause-found g c =
    let known = c.args.known.now in
    rw (← c.room.ensures.room) (λ list is.
    let all = c.searching-replay.ensures.replays list is (omega (arith, c.room.ensures.bytes)) in
    let start = search_before known c.args.goal in
    elim c.match-replay_more.branch [
      | in-Ok w ↦
          rw (w.whole-is, w.whole_after.ensures) (searches_whole known c.args.goal list _ _ c.room.result c.replay_more.new.self c.prefix_in.result is
          c.room.ensures.bytes c.prefix_in.ensures.counted c.prefix_in.ensures.prefix
          ((rw w.in-Ok.is at c.replay_more.ensures.replays) start list all).0)
      | in-Err+in_ok-unconfirmed_of-in-Err w ↦
          let wrong = w.in_ok-unconfirmed_of-in-Err.ensures.wrong in
          let why = (rw (w.in-Err.is ∙ ap Err wrong) at c.replay_more.ensures.fault) start list all in
          rw w.whole-is (searches_part known c.args.goal list _ _ c.room.result c.replay_more.new.self c.prefix_in.result is
          c.room.ensures.bytes c.prefix_in.ensures.counted c.prefix_in.ensures.prefix g.W.Tracker.is_after all.entries _ _ _ why.0 why.1)
    ])

pub returns-clause-watched : goal.returns-clause-watched
returns-clause-watched g c =
    let known = c.args.known.now in
    rw (← c.room.ensures.room) (λ start list is tracked.
    let all = c.searching-replay.ensures.replays list is (omega (arith, c.room.ensures.bytes)) in
    let before = search_before known c.args.goal in
    let known_tracked = subst (λ (l : List ListEntry). AreTracked g.W.Tracker.is_after start l c.args.watch.now) (one_list is.list_is all.reading) tracked in
    elim c.match-replay_more.branch [
      | in-Ok w ↦
          let more = (rw w.in-Ok.is at c.replay_more.ensures.replays) before list all in
          rw (w.whole-is, w.whole_after.ensures) (watches_whole known c.args.goal list _ _ c.room.result c.replay_more.new.self c.prefix_in.result is
          c.room.ensures.bytes c.prefix_in.ensures.counted c.prefix_in.ensures.prefix g.W.Tracker.is_after start _ _ all.entries known_tracked more.0 more.2)
      | in-Err+in_ok-unconfirmed_of-in-Err w ↦
          let wrong = w.in_ok-unconfirmed_of-in-Err.ensures.wrong in
          let why = (rw (w.in-Err.is ∙ ap Err wrong) at c.replay_more.ensures.fault) before list all in
          rw w.whole-is (watches_part known c.args.goal list _ _ c.room.result c.replay_more.new.self c.prefix_in.result is
          c.room.ensures.bytes c.prefix_in.ensures.counted c.prefix_in.ensures.prefix g.W.Tracker.is_after start _ _ all.entries known_tracked _ why.0 why.1)
    ])

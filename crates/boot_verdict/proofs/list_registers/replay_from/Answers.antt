use Rattle.std.proofs.Common.{[], refl, inl, inr}
use Rattle.std.proofs.lemmas.Result.{err_from_is_err_and}
use Rattle.boot_verdict.proofs.ReplayLaws.{list_not_read, same_entries}
use Rattle.boot_verdict.proofs.list_registers.replay_from.Goals as goal

pub returns-in_err-known-clause-only : goal.returns-in_err-known-clause-only
returns-in_err-known-clause-only g c =
    let p = err_from_is_err_and c.from_residual.result c.from_residual.ensures.1 in
    λ entries holds.
    rw (p.1, p.2) (elim (list_not_read _ holds c.in_err-known.field-0.0
    (c.in_err-known.ensures.fault [] c.before_list.ensures.checkpoint)) [
      | inl source ↦ inl (rw source refl)
      | inr memory ↦ inr (inl (rw memory refl))
    ])

pub returns-in_err-known-clause-fault : goal.returns-in_err-known-clause-fault
returns-in_err-known-clause-fault g c =
    let p = err_from_is_err_and c.from_residual.result c.from_residual.ensures.1 in
    rw (p.1, p.2) (c.in_err-known.ensures.fault [] c.before_list.ensures.checkpoint)

pub returns-clause-registers : goal.returns-clause-registers
returns-clause-registers g c =
    let goes = c.in_ok-known.ensures.known [] c.before_list.ensures.checkpoint in
    let is = goes.checkpoint in
    record {
      list = goes.more;
      entries = is.entries;
      came = goes.came;
      list_is = is.list_is;
      genuine = is.genuine;
      replay = record {
        start = c.in_ok-known.known.before;
        reset = rw (c.in_ok-known.ensures.before, c.before_list.ensures.before) c.list_start.ensures;
        replayed = is.replayed;
      };
    }

pub returns-clause-only : goal.returns-clause-only
returns-clause-only g c =
    let goes = c.in_ok-known.ensures.known [] c.before_list.ensures.checkpoint in
    let is = goes.checkpoint in
    λ entries holds.
    let same = same_entries _ holds goes.more is.entries goes.came is.list_is in
    inr (inr (record {
      start = c.in_ok-known.known.before;
      reset = rw (c.in_ok-known.ensures.before, c.before_list.ensures.before) c.list_start.ensures;
      replayed = rw same is.replayed;
    }))

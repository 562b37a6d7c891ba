use Rattle.std.proofs.Common.{◌∙◌, Ok, List, [], ap, refl, subst, sym, inl, inr}
use Rattle.std.proofs.lemmas.Result.{err_from_is_err_and}
use Rattle.ima_list.specs.Names.{ListEntry}
use Rattle.boot_verdict.specs.Names.{AreTracked, HaveSame, list_verdict_on}
use Rattle.boot_verdict.proofs.ListVerdictLaws.{list_verdict_same}
use Rattle.boot_verdict.proofs.ReplayLaws.{list_not_read, none_listed, same_entries}
use Rattle.boot_verdict.proofs.list_verifier.verify_list_from.Goals as goal

pub returns-in_err-known-clause-report : goal.returns-in_err-known-clause-report
returns-in_err-known-clause-report g c =
    let p = err_from_is_err_and c.from_residual.result c.from_residual.ensures.1 in rw p.1 tt

pub returns-in_err-known-clause-only : goal.returns-in_err-known-clause-only
returns-in_err-known-clause-only g c =
    let p = err_from_is_err_and c.from_residual.result c.from_residual.ensures.1 in
    λ entries holds.
    rw (p.1, p.2) (elim (list_not_read _ holds c.in_err-known.field-0.0
    (c.in_err-known.ensures.fault [] c.before_list-first.ensures.checkpoint)) [
      | inl source ↦ inl (rw source refl)
      | inr memory ↦ inr (inl memory)
    ])

pub returns-in_err-known-clause-fault : goal.returns-in_err-known-clause-fault
returns-in_err-known-clause-fault g c =
    let p = err_from_is_err_and c.from_residual.result c.from_residual.ensures.1 in
    rw (p.1, p.2) (c.in_err-known.ensures.fault [] c.before_list-first.ensures.checkpoint)

pub returns-in_err-rows_on-clause-report : goal.returns-in_err-rows_on-clause-report
returns-in_err-rows_on-clause-report g c =
    let p = err_from_is_err_and c.from_residual-in_err-rows_on.result c.from_residual-in_err-rows_on.ensures.1 in rw p.1 tt

pub returns-clause-report : goal.returns-clause-report
returns-clause-report g c =
    let goes = c.in_ok-known.ensures.known [] c.before_list-first.ensures.checkpoint in
    let is = goes.checkpoint in
    let kept : HaveSame c.args.expected.now c.in_ok-known.known.before c.list_start.result = rw (c.in_ok-known.ensures.before, c.before_list-first.ensures.before) c.banks_for.ensures.asked in
    record {
      list = goes.more;
      came = goes.came;
      verdict_is = record {
        entries = is.entries;
        list_is = is.list_is;
        genuine = is.genuine;
        verdict_is = list_verdict_same c.list_start.result c.in_ok-known.known.before c.in_ok-known.known.after is.entries c.args.expected.now _ _ _ c.list_start.ensures kept is.replayed is.count is.stray
            c.in_ok-rows_on.ensures;
      };
    }

pub returns-clause-watched : goal.returns-clause-watched
returns-clause-watched g c =
    λ first tracked.
    let known = c.before_list-first.ensures.checkpoint in
    let IsAfter = g.W.Tracker.is_after in
    let goes = c.in_ok-known.ensures.watched first [] known
    (subst (λ (l : List ListEntry). AreTracked IsAfter first l c.args.watch) (sym (none_listed known.list_is)) tracked) in
    let is = goes.checkpoint in
    let kept : HaveSame c.args.expected.now c.in_ok-known.known.before c.list_start.result = rw (c.in_ok-known.ensures.before, c.before_list-first.ensures.before) c.banks_for.ensures.asked in
    record {
      list = goes.more;
      came = goes.came;
      verdict_is = record {
        entries = is.entries;
        list_is = is.list_is;
        genuine = is.genuine;
        verdict_is = list_verdict_same c.list_start.result c.in_ok-known.known.before c.in_ok-known.known.after is.entries c.args.expected.now _ _ _ c.list_start.ensures kept is.replayed is.count is.stray
            c.in_ok-rows_on.ensures;
      };
      tracked = goes.tracked;
    }

pub returns-in_err-known-clause-watched : goal.returns-in_err-known-clause-watched
returns-in_err-known-clause-watched g c =
    let p = err_from_is_err_and c.from_residual.result c.from_residual.ensures.1 in rw p.1 tt

pub returns-in_err-rows_on-clause-watched : goal.returns-in_err-rows_on-clause-watched
returns-in_err-rows_on-clause-watched g c =
    let p = err_from_is_err_and c.from_residual-in_err-rows_on.result c.from_residual-in_err-rows_on.ensures.1 in rw p.1 tt

pub returns-clause-only : goal.returns-clause-only
returns-clause-only g c =
    let goes = c.in_ok-known.ensures.known [] c.before_list-first.ensures.checkpoint in
    let is = goes.checkpoint in
    let kept : HaveSame c.args.expected.now c.in_ok-known.known.before c.list_start.result = rw (c.in_ok-known.ensures.before, c.before_list-first.ensures.before) c.banks_for.ensures.asked in
    λ entries holds.
    let same = same_entries _ holds goes.more is.entries goes.came is.list_is in
    inr (ap Ok (ap (λ (l : List ListEntry). list_verdict_on l c.args.expected.now) same
    ∙ sym (list_verdict_same c.list_start.result c.in_ok-known.known.before c.in_ok-known.known.after is.entries c.args.expected.now _ _ _ c.list_start.ensures kept is.replayed is.count is.stray
    c.in_ok-rows_on.ensures)))

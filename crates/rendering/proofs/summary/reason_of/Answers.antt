use Rattle.std.proofs.Common.{◌≡◌, Bool, Some, None, rules, tests, refl, sym}
use Rattle.std.specs.Prelude.{find}
use Rattle.std.proofs.lemmas.Iterator.{YieldsList-from_slice}
use Rattle.std.proofs.lemmas.Iterator.Search.{find_from_yields_List}
use Rattle.rendering.specs.declared.summary.Reason.{Reason}
use Rattle.rendering.proofs.summary.reason_of.Goals as goal

pub returns-in_err-first : goal.returns-in_err-first
returns-in_err-first c =
    let found = find_from_yields_List (λ (reason : Bool × Reason). reason.0) _ _ c.find.result c.find.ensures.ran
    (YieldsList-from_slice c.args.reasons.now cc) (λ x b q k. search (rules, tests)) in
    let none : find (λ (reason : Bool × Reason). reason.0) c.args.reasons.now ≡ None = sym (rw c.in_err-first.was at found) in
    rw (c.from_residual.ensures, c.if-is_success.false, none) refl

pub returns : goal.returns
returns c =
    let found = find_from_yields_List (λ (reason : Bool × Reason). reason.0) _ _ c.find.result c.find.ensures.ran
    (YieldsList-from_slice c.args.reasons.now cc) (λ x b q k. search (rules, tests)) in
    let some : find (λ (reason : Bool × Reason). reason.0) c.args.reasons.now ≡ Some c.in_ok-first.first.now = sym (rw c.in_ok-first.was at found) in
    rw (c.if-is_success.false, some) refl

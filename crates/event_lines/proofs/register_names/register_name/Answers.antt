use Rattle.std.proofs.Common.{◌≡◌, ℕ, List, Some, None, eqb, refl, sym, rules, tests, Bor, map}
use Rattle.std.specs.Prelude.{find}
use Rattle.std.proofs.lemmas.Iterator.{YieldsList-from_slice}
use Rattle.std.proofs.lemmas.Iterator.Search.{find_from_yields_List}
use Rattle.event_lines.specs.RegisterNames.{register_names}
use Rattle.event_lines.proofs.RegisterNameLaws.{no_name, some_name}
use Rattle.event_lines.proofs.register_names.register_name.Goals as goal

pub returns-in_err-named : goal.returns-in_err-named
returns-in_err-named c =
    let rows = c.iter.result.rest.now in
    let all : map (λ (named : ℕ × Bor (List ℕ)). (named.0, named.1.now)) rows ≡ register_names = rw c.iter.ensures.rest refl in
    let found = find_from_yields_List (λ (named : ℕ × Bor (List ℕ)). eqb named.0 c.args.register) _ _ c.find.result c.find.ensures.ran
    (YieldsList-from_slice rows cc) (λ x b q k. search (rules, tests)) in
    let none : find (λ (named : ℕ × Bor (List ℕ)). eqb named.0 c.args.register) rows ≡ None = sym (rw c.in_err-named.was at found) in
    rw c.from_residual.ensures (sym (no_name rows c.args.register all none))

pub returns : goal.returns
returns c =
    let rows = c.iter.result.rest.now in
    let all : map (λ (named : ℕ × Bor (List ℕ)). (named.0, named.1.now)) rows ≡ register_names = rw c.iter.ensures.rest refl in
    let found = find_from_yields_List (λ (named : ℕ × Bor (List ℕ)). eqb named.0 c.args.register) _ _ c.find.result c.find.ensures.ran
    (YieldsList-from_slice rows cc) (λ x b q k. search (rules, tests)) in
    let some : find (λ (named : ℕ × Bor (List ℕ)). eqb named.0 c.args.register) rows ≡ Some c.in_ok-named.named.now =
    sym (rw c.in_ok-named.was at found) in
    sym (some_name rows c.args.register c.in_ok-named.named.now all some)

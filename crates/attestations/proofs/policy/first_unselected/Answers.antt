use Rattle.std.proofs.Common.{◌≡◌, ℕ, Option, Some, None, refl, rules, tests, sym, ap}
use Rattle.std.specs.Prelude.{find, is_some, option_map}
use Rattle.std.proofs.lemmas.Iterator.{YieldsList-from_slice}
use Rattle.std.proofs.lemmas.Iterator.Search.{find_from_yields_List}
use Rattle.pcr_banks.specs.declared.alg.Alg.{Alg}
use Rattle.pcr_banks.specs.Names.{all_algs}
use Rattle.tpm_quotes.specs.Spelling.{quote_of}
use Rattle.attestations.specs.Policies.{unselected_in}
use Rattle.attestations.proofs.policy.first_unselected.Goals as goal

pub returns-in_err-alg : goal.returns-in_err-alg
returns-in_err-alg c =
    let found = find_from_yields_List (λ (alg : Alg). is_some (unselected_in c.args.required.now (quote_of c.args.quote.now).selections alg))
    _ _ c.find.result c.find.ensures.ran (YieldsList-from_slice all_algs cc) (λ x b q k. search (rules, tests)) in
    let none : find (λ (alg : Alg). is_some (unselected_in c.args.required.now (quote_of c.args.quote.now).selections alg)) all_algs ≡ None =
    sym (rw c.in_err-alg.was at found) in
    rw (c.from_residual.ensures, none) refl

pub returns-in_err-register : goal.returns-in_err-register
returns-in_err-register c =
    let found = find_from_yields_List (λ (alg : Alg). is_some (unselected_in c.args.required.now (quote_of c.args.quote.now).selections alg))
    _ _ c.find.result c.find.ensures.ran (YieldsList-from_slice all_algs cc) (λ x b q k. search (rules, tests)) in
    let some : find (λ (alg : Alg). is_some (unselected_in c.args.required.now (quote_of c.args.quote.now).selections alg)) all_algs
    ≡ Some c.in_ok-alg.alg.now = sym (rw c.in_ok-alg.was at found) in
    rw (c.from_residual-in_err-register.ensures, some)
    (ap (λ (o : Option ℕ). option_map (λ register. (c.in_ok-alg.alg.now, register)) o) c.in_err-register.ensures)

pub returns : goal.returns
returns c =
    let found = find_from_yields_List (λ (alg : Alg). is_some (unselected_in c.args.required.now (quote_of c.args.quote.now).selections alg))
    _ _ c.find.result c.find.ensures.ran (YieldsList-from_slice all_algs cc) (λ x b q k. search (rules, tests)) in
    let some : find (λ (alg : Alg). is_some (unselected_in c.args.required.now (quote_of c.args.quote.now).selections alg)) all_algs
    ≡ Some c.in_ok-alg.alg.now = sym (rw c.in_ok-alg.was at found) in
    rw some (ap (λ (o : Option ℕ). option_map (λ register. (c.in_ok-alg.alg.now, register)) o) c.in_ok-register.ensures)

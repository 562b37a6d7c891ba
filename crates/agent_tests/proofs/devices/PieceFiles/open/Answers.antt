use Rattle.std.proofs.Common.{◌≡◌, ℕ, List, Bool, true, false, Option, Some, None, Bor, refl, sym, ◌∙◌, rules, tests}
use Rattle.std.specs.Prelude.{bytes_eq, cond, find, is_some, option_map}
use Rattle.std.proofs.lemmas.Iterator.{YieldsList-from_slice}
use Rattle.std.proofs.lemmas.Iterator.Search.{find_from_yields_List}
use Rattle.agent_tests.proofs.devices.PieceFiles.open.Goals as goal
use Rattle.agent_tests.proofs.devices.PieceFiles.open.Goals.{then-eq, else-eq}

-- The file that was found is opened, with a device if it is the one that is to fail.
opened : {D : Type 0} (fails : Bool) (found : Option (Bor (List ℕ) × Bor (List ℕ))) (file : Bor (List ℕ) × Bor (List ℕ))
    (device : Option D) (rest : List ℕ) → found ≡ Some file → rest ≡ file.1.now → fails ≡ is_some device
    → cond (is_some device) None (Some rest) ≡ cond fails None (option_map (λ file. file.1.now) found)
opened fails found file device rest found-is rest-is fails-is = rw (found-is, rest-is, fails-is) refl

-- No file was found.
not_found : (fails : Bool) (found : Option (Bor (List ℕ) × Bor (List ℕ))) → found ≡ None
    → cond fails None (option_map (λ file. file.1.now) found) ≡ None
not_found true found is = refl
not_found false found is = rw is refl

pub returns-in_err-file-clause-none : goal.returns-in_err-file-clause-none
returns-in_err-file-clause-none c =
    let found = find_from_yields_List (λ (file : Bor (List ℕ) × Bor (List ℕ)). bytes_eq file.0.now c.args.name.now) _ _ c.find.result c.find.ensures.ran
    (YieldsList-from_slice c.args.self.now.files.now cc) (λ x b q k. search (rules, tests)) in
    rw c.from_residual.ensures (not_found (bytes_eq c.args.name.now c.args.self.now.failing.now) _ (sym (rw c.in_err-file.was at found)))

pub returns-clause-some : goal.returns-clause-some
returns-clause-some c =
    let found = find_from_yields_List (λ (file : Bor (List ℕ) × Bor (List ℕ)). bytes_eq file.0.now c.args.name.now) _ _ c.find.result c.find.ensures.ran
    (YieldsList-from_slice c.args.self.now.files.now cc) (λ x b q k. search (rules, tests)) in
    let fails : bytes_eq c.args.name.now c.args.self.now.failing.now ≡ is_some c.if-eq.device =
    elim c.if-eq.branch [ then-eq w ↦ rw w.device-is (sym c.eq.ensures ∙ w.if-eq.true) | else-eq w ↦ rw w.device-is (sym c.eq.ensures ∙ w.if-eq.false) ] in
    opened (bytes_eq c.args.name.now c.args.self.now.failing.now) _ c.in_ok-file.file.now c.if-eq.device _ (sym (rw c.in_ok-file.was at found)) c.new.ensures fails

-- Items one after another: what is taken is what was spelled, and what is spelled is taken.
use Rattle.std.proofs.Common.{◌≡◌, ℕ, zero, suc, ◌+◌, ◌≤◌, ◌<◌, Bool, true, false, eqb, cond, List, [], ◌∷◌, ◌++◌, length, Some, None, Result, Ok, Err, refl, sym, ap, ◌∙◌, arith}
use Rattle.std.proofs.lemmas.Bool.{eqb-true}
use Rattle.std.proofs.lemmas.List.{length-append}
use Rattle.byte_fields.specs.Formats.{Format}
use Rattle.byte_fields.specs.Items.{AreItems, BeginsWithNoItem}
use Rattle.byte_fields.proofs.Steps.{IsBytes, ok_not_err}
use Rattle.byte_fields.proofs.FormatLaws.{Exact, takes, again, IsBytes-behind}
use Rattle.event_data.specs.declared.content.Mismatch.{Mismatch}
use Rattle.event_data.specs.Names.{all_taken, taken_in, taken_within, with_more}
use Rattle.event_data.proofs.FormLaws.{AnyFault}

pub empty_fits : IsBytes []
empty_fits i = omega arith

same_more : {X : Type 0} (reading : Result (X × List ℕ) Mismatch) (f g : List ℕ → List X × List ℕ) (bytes : List ℕ)
    → ((x : X) (rest : List ℕ) → reading ≡ Ok (x, rest) → f rest ≡ g rest) → with_more reading f bytes ≡ with_more reading g bytes
same_more {X} (Ok x) f g bytes same = ap (λ (m : List X × List ℕ). (x.0 ∷ m.0, m.1)) (same x.0 x.1 refl)
same_more (Err fault) f g bytes same = refl

empty_is : (xs : List ℕ) → eqb (length xs) 0 ≡ true → xs ≡ []
empty_is [] e = refl
empty_is (x ∷ xs) e = let none : length (x ∷ xs) ≡ 0 = eqb-true (length (x ∷ xs)) 0 e in absurd (omega arith)

all_when : {X : Type 0} (b : Bool) (found xs : X) → cond b (Some found) None ≡ Some xs → (found ≡ xs) × (b ≡ true)
all_when true found xs e = (cc, refl)
all_when false found xs e = absurd cc

all_is : {X : Type 0} (taken : List X × List ℕ) (xs : List X) → all_taken taken ≡ Some xs → (taken.0 ≡ xs) × (taken.1 ≡ [])
all_is taken xs e =
    let all = all_when (eqb (length taken.1) 0) taken.0 xs e in
    (all.0, empty_is taken.1 all.1)

module _ {X : Type 0} {format : Format X Mismatch} (exact : Exact AnyFault format)
    (some : (x : X) → format.Is x → 0 < length (format.spell x)) where
  pub taken_shorter : (bytes : List ℕ) (x : X) (rest : List ℕ) → IsBytes bytes → format.at bytes ≡ Ok (x, rest)
      → length rest < length bytes
  taken_shorter bytes x rest fits e =
      let taken = takes exact bytes (x, rest) fits e in
      let size : length bytes ≡ length (format.spell x) + length rest = ap length taken.parts ∙ length-append (format.spell x) rest in
      omega (arith, size, some x taken.is)

  pub taken_fits : (bytes : List ℕ) (x : X) (rest : List ℕ) → IsBytes bytes → format.at bytes ≡ Ok (x, rest) → IsBytes rest
  taken_fits bytes x rest fits e =
      IsBytes-behind bytes (format.spell x) rest (takes exact bytes (x, rest) fits e).parts fits

  empty_gives : (reading : Result (X × List ℕ) Mismatch) (more : List ℕ → List X × List ℕ) → format.at [] ≡ reading
      → with_more reading more [] ≡ ([], [])
  empty_gives (Ok x) more e = absurd (omega (arith, taken_shorter [] x.0 x.1 empty_fits e))
  empty_gives (Err fault) more e = refl

  pub taken_none : (steps : ℕ) → taken_within format.at steps [] ≡ ([], [])
  unfolding taken_within
  taken_none zero = refl
  taken_none (suc steps) = empty_gives (format.at []) (λ rest. taken_within format.at steps rest) refl

  -- As many steps as bytes are enough: more change nothing.
  taken_enough : (steps more : ℕ) (bytes : List ℕ) → IsBytes bytes → length bytes ≤ steps → length bytes ≤ more
      → taken_within format.at steps bytes ≡ taken_within format.at more bytes
  unfolding taken_within
  taken_enough steps more [] fits s m = taken_none steps ∙ sym (taken_none more)
  taken_enough zero more (b ∷ bytes) fits s m = absurd (omega arith)
  taken_enough (suc steps) zero (b ∷ bytes) fits s m = absurd (omega arith)
  taken_enough (suc steps) (suc more) (b ∷ bytes) fits s m =
      same_more (format.at (b ∷ bytes)) (λ rest. taken_within format.at steps rest) (λ rest. taken_within format.at more rest) (b ∷ bytes)
      (λ x rest e.
      let less = taken_shorter (b ∷ bytes) x rest fits e in
      taken_enough steps more rest (taken_fits (b ∷ bytes) x rest fits e) (omega (arith, less)) (omega (arith, less)))

  pub taken_more : (bytes : List ℕ) (x : X) (rest : List ℕ) → IsBytes bytes → format.at bytes ≡ Ok (x, rest)
      → taken_in format.at bytes ≡ (x ∷ (taken_in format.at rest).0, (taken_in format.at rest).1)
  unfolding taken_within
  taken_more [] x rest fits e = absurd (omega (arith, taken_shorter [] x rest fits e))
  taken_more (b ∷ bytes) x rest fits e =
      let less = taken_shorter (b ∷ bytes) x rest fits e in
      rw e (ap (λ (m : List X × List ℕ). (x ∷ m.0, m.1))
      (taken_enough (length bytes) (length rest) rest (taken_fits (b ∷ bytes) x rest fits e) (omega (arith, less)) (omega arith)))

  pub taken_last : (bytes : List ℕ) (fault : Mismatch) → format.at bytes ≡ Err fault → taken_in format.at bytes ≡ ([], bytes)
  unfolding taken_within
  taken_last [] fault e = refl
  taken_last (b ∷ bytes) fault e = rw e refl

  module _ (Is : List ℕ → X → Type 0) (into : (x : X) → format.Is x → Is (format.spell x) x)
      (out : (prefix : List ℕ) (x : X) → Is prefix x → format.Is x × (prefix ≡ format.spell x)) where
    pub item_taken : (bytes : List ℕ) (x : X) (rest : List ℕ) → IsBytes bytes → format.at bytes ≡ Ok (x, rest)
        → (prefix : List ℕ) × (bytes ≡ prefix ++ rest) × Is prefix x
    item_taken bytes x rest fits e =
        let taken = takes exact bytes (x, rest) fits e in
        (format.spell x, taken.parts, into x taken.is)

    pub item_missing : (bytes : List ℕ) (fault : Mismatch) → format.at bytes ≡ Err fault → BeginsWithNoItem Is bytes
    item_missing bytes fault e x prefix rest parts is =
        let own = out prefix x is in
        ok_not_err (x, rest) fault
        (sym (again exact x rest own.0) ∙ ap format.at (sym (parts ∙ ap (λ (prefix : List ℕ). prefix ++ rest) own.1)) ∙ e)

    first_are : (reading : Result (X × List ℕ) Mismatch) (more : List ℕ → List X × List ℕ) (bytes : List ℕ) → IsBytes bytes
        → format.at bytes ≡ reading
        → ((x : X) (rest : List ℕ) → format.at bytes ≡ Ok (x, rest) → (more rest).1 ≡ [] → AreItems Is rest (more rest).0)
        → (with_more reading more bytes).1 ≡ [] → AreItems Is bytes (with_more reading more bytes).0
    first_are (Ok x) more bytes fits e others none =
        let taken = takes exact bytes x fits e in
        (format.spell x.0, x.1, taken.parts, into x.0 taken.is, others x.0 x.1 e none)
    first_are (Err fault) more bytes fits e others none = none

    -- What is taken is what was spelled.
    taken_are : (steps : ℕ) (bytes : List ℕ) → IsBytes bytes → length bytes ≤ steps
        → (taken_within format.at steps bytes).1 ≡ [] → AreItems Is bytes (taken_within format.at steps bytes).0
    unfolding taken_within
    taken_are zero bytes fits few none = none
    taken_are (suc steps) bytes fits few none =
        first_are (format.at bytes) (λ rest. taken_within format.at steps rest) bytes fits refl
        (λ x rest e nothing.
        taken_are steps rest (taken_fits bytes x rest fits e) (omega (arith, taken_shorter bytes x rest fits e)) nothing) none

    -- What is spelled is taken.
    are_taken : (xs : List X) (bytes : List ℕ) → IsBytes bytes → AreItems Is bytes xs → taken_in format.at bytes ≡ (xs, [])
    are_taken [] bytes fits e = ap (λ (b : List ℕ). taken_in format.at b) e ∙ taken_none 0
    are_taken (x ∷ xs) bytes fits are =
        let rest = are.1 in
        let is = out are.0 x are.3 in
        let read : format.at bytes ≡ Ok (x, rest) =
        ap format.at (are.2 ∙ ap (λ (prefix : List ℕ). prefix ++ rest) is.1) ∙ again exact x rest is.0 in
        taken_more bytes x rest fits read
        ∙ ap (λ (m : List X × List ℕ). (x ∷ m.0, m.1)) (are_taken xs rest (taken_fits bytes x rest fits read) are.4)

    pub all_takes : (bytes : List ℕ) (xs : List X) → IsBytes bytes → all_taken (taken_in format.at bytes) ≡ Some xs → AreItems Is bytes xs
    all_takes bytes xs fits e =
        let all = all_is (taken_in format.at bytes) xs e in
        rw (← all.0) (taken_are (length bytes) bytes fits (omega arith) all.1)

    pub all_again : (bytes : List ℕ) (xs : List X) → IsBytes bytes → AreItems Is bytes xs → all_taken (taken_in format.at bytes) ≡ Some xs
    all_again bytes xs fits are = rw (are_taken xs bytes fits are) refl

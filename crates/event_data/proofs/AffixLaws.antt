-- Prefixes and suffixes.
use Rattle.std.proofs.Common.{◌≡◌, ℕ, ◌-◌, ◌+◌, Bool, true, false, cond, List, ◌++◌, length, take, drop, Option, Some, None, refl, sym, ap, ap₂, ◌∙◌, arith, bytes_eq, length-append, take_at, drop_at}
use Rattle.std.specs.Prelude.{IfSome, IfNone}
use Rattle.std.specs.Option.{MatchOption}
use Rattle.std.proofs.lemmas.Slice.Eq.{bytes_eq-Decides}
use Rattle.event_data.specs.Names.{after_in, before_in}
use Rattle.event_data.proofs.Finding.{Finds, some_is}

pub if_found : {A : Type 0} (found : Option A) (P : Type 0) (Q : A → Type 0) → MatchOption found P Q → IfSome found Q
if_found None P Q cases = tt
if_found (Some x) P Q cases = cases

pub if_absent : {A : Type 0} (found : Option A) (P : Type 0) (Q : A → Type 0) → MatchOption found P Q → IfNone found P
if_absent None P Q cases = cases
if_absent (Some x) P Q cases = tt

-- A test that gave a value.
pub tested : {X : Type 0} (b : Bool) (x y : X) → cond b (Some x) None ≡ Some y → (b ≡ true) × (x ≡ y)
tested true x y e = (refl, some_is x y e)
tested false x y e = absurd cc

pub passed : {X : Type 0} (b : Bool) (x : X) → b ≡ true → cond b (Some x) None ≡ Some x
passed b x e = rw e refl

prefix_there : (bytes prefix suffix : List ℕ) → bytes ≡ prefix ++ suffix → take (length bytes - length suffix) bytes ≡ prefix
prefix_there bytes prefix suffix e =
    let size : length bytes ≡ length prefix + length suffix = ap length e ∙ length-append prefix suffix in
    let less : length bytes - length suffix ≡ length prefix = omega (arith, size) in
    ap₂ take less e ∙ take_at prefix suffix (length prefix) refl

pub before_finds : (suffix bytes : List ℕ) → Finds (λ prefix. bytes ≡ prefix ++ suffix) (before_in suffix bytes)
before_finds suffix bytes =
    let prefix = take (length bytes - length suffix) bytes in
    let decides = bytes_eq-Decides (prefix ++ suffix) bytes in
    record {
      is = λ x e.
          let test = tested (bytes_eq (prefix ++ suffix) bytes) prefix x e in
          sym (decides.0 test.0) ∙ ap (λ (f : List ℕ). f ++ suffix) test.1;
      only = λ x e.
          let same = prefix_there bytes x suffix e in
          passed (bytes_eq (prefix ++ suffix) bytes) prefix (decides.1 (ap (λ (f : List ℕ). f ++ suffix) same ∙ sym e))
          ∙ ap (λ (f : List ℕ). Some f) same;
    }

pub after_finds : (prefix bytes : List ℕ) → Finds (λ rest. bytes ≡ prefix ++ rest) (after_in prefix bytes)
after_finds prefix bytes =
    let rest = drop (length prefix) bytes in
    let decides = bytes_eq-Decides (prefix ++ rest) bytes in
    record {
      is = λ x e.
          let test = tested (bytes_eq (prefix ++ rest) bytes) rest x e in
          sym (decides.0 test.0) ∙ ap (λ (r : List ℕ). prefix ++ r) test.1;
      only = λ x e.
          let same = ap (drop (length prefix)) e ∙ drop_at prefix x (length prefix) refl in
          passed (bytes_eq (prefix ++ rest) bytes) rest (decides.1 (ap (λ (r : List ℕ). prefix ++ r) same ∙ sym e))
          ∙ ap (λ (r : List ℕ). Some r) same;
    }

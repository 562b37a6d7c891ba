-- Digests and their digits, and what one of the algorithms fits.
use Rattle.std.proofs.Common.{rules, ◌≡◌, ◌↔◌, ℕ, ◌*◌, ◌<◌, ◌⊎◌, Bool, true, false, cond, List, [], ◌∷◌, length, Option, Some, None, Result, Ok, Err, refl, sym, ap, ◌∙◌, arith, inl, inr}
use Rattle.std.specs.Prelude.{find, ◌==◌, slice_get, option_map, IsSome, IfSome}
use Rattle.std.specs.List.{AllByRecursion, AllPass, filter_map, cons_option}
use Rattle.std.specs.Result.{result_ok}
use Rattle.hex.specs.Hex.{decode_of, is_hex_digit}
use Rattle.hex.specs.declared.error.FromHexError.{FromHexError}
use Rattle.hex.proofs.HexLemmas.{decode_of-ok}
use Rattle.pcr_banks.specs.declared.alg.Alg.{Alg}
use Rattle.pcr_banks.specs.declared.digest.Digest.{Digest}
use Rattle.pcr_banks.specs.Names.{alg_of, all_algs, bytes_of, digest_of, size_of}
use Rattle.pcr_banks.proofs.AlgLaws.{every_alg}
use Rattle.pcr_banks.proofs.SetLaws.{digest_again}
use Rattle.pcr_values.proofs.ExpectedLaws.{Lacks}

-- ---- options and results

abbrev pub the_some : {A : Type 0} → A → Option A
the_some x = Some x

pub some_is : {A : Type 0} (x y : A) → the_some x ≡ the_some y → x ≡ y
some_is x y e = cc

pub chosen : {A : Type 0} (b : Bool) (o : Option A) (x : A) → cond b o None ≡ Some x → (b ≡ true) × (o ≡ Some x)
chosen true o x e = (refl, e)
chosen false o x e = absurd cc

pub mapped : {A B E : Type 0} (f : A → B) (r : Result A E) (y : B) → option_map f (result_ok r) ≡ Some y → (x : A) × (r ≡ Ok x) × (f x ≡ y)
mapped f (Ok x) y e = (x, refl, some_is (f x) y e)
mapped f (Err d) y e = absurd cc

-- ---- algorithms and digests

abbrev alg_sized : ℕ → List Alg → Option Alg
alg_sized size algs = find (λ alg. size_of alg == size) algs

found_sized : (alg : Alg) → alg_sized (size_of alg) all_algs ≡ Some alg
found_sized = every_alg _ (search rules)

pub same_size_is : (a b : Alg) → size_of a ≡ size_of b → a ≡ b
same_size_is a b e =
    some_is a b (sym (found_sized a) ∙ ap (λ (size : ℕ). alg_sized size all_algs) e ∙ found_sized b)

pub some_bytes : (alg : Alg) → 0 < size_of alg
some_bytes = every_alg _ (search (rules, arith))

pub alg_made : (alg : Alg) (bytes : List ℕ) → alg_of (digest_of alg bytes) ≡ alg
alg_made alg bytes = every_alg (λ a. alg_of (digest_of a bytes) ≡ a) (refl, (refl, (refl, (refl, tt)))) alg

pub bytes_made : (alg : Alg) (bytes : List ℕ) → bytes_of (digest_of alg bytes) ≡ bytes
bytes_made alg bytes = every_alg (λ a. bytes_of (digest_of a bytes) ≡ bytes) (refl, (refl, (refl, (refl, tt)))) alg

-- ---- digits

pub hex_not : (byte : ℕ) → is_hex_digit byte ≡ true → (byte ≡ 32 → ⊥) × (byte ≡ 92 → ⊥)
hex_not byte e = (
  λ is. absurd (let wrong : is_hex_digit 32 ≡ true = ap is_hex_digit (sym is) ∙ e in cc),
  λ is. absurd (let wrong : is_hex_digit 92 ≡ true = ap is_hex_digit (sym is) ∙ e in cc),
)

pub digits_lack : (digits : List ℕ) → AllByRecursion (λ x. is_hex_digit x ≡ true) digits → Lacks 32 digits
digits_lack [] all = tt
digits_lack (first ∷ digits) all = ((hex_not first all.0).0, digits_lack digits all.1)

-- What a text decodes to as a digest, as `Digest::from_hex` has it.
pub hex_digest : (alg : Alg) (digits : List ℕ) (result : Option Digest) → length digits ≡ 2 * size_of alg
    → IsSome result ↔ ((length digits ≡ 2 * size_of alg) × AllPass is_hex_digit digits)
    → IfSome result (λ digest. (alg_of digest ≡ alg) × (decode_of digits ≡ Ok (bytes_of digest)))
    → result ≡ option_map (digest_of alg) (result_ok (decode_of digits))
hex_digest alg digits (Some digest) size found value =
    sym (ap (λ r. option_map (digest_of alg) (result_ok r)) value.1
    ∙ ap (λ (a : Alg). the_some (digest_of a (bytes_of digest))) (sym value.0) ∙ ap (λ d. the_some d) (digest_again digest))
hex_digest alg digits None size found value = none_decoded (decode_of digits) refl
  where
    none_decoded : (r : Result (List ℕ) FromHexError) → decode_of digits ≡ r → None ≡ option_map (digest_of alg) (result_ok r)
    none_decoded (Err e) is = refl
    none_decoded (Ok bytes) is = absurd (let bad = found.1 (size, (decode_of-ok digits bytes is).1) in cc)

-- ---- by the first algorithm that fits

found_at : {A : Type 0} (o : Option A) (others : List A) (x : A) → slice_get (cons_option o others) 0 ≡ Some x
    → (o ≡ Some x) ⊎ (slice_get others 0 ≡ Some x)
found_at None others x e = inr e
found_at (Some y) others x e = inl e

pub found_by : {A : Type 0} (by : Alg → Option A) (algs : List Alg) (x : A) → slice_get (filter_map by algs) 0 ≡ Some x
    → (alg : Alg) × (by alg ≡ Some x)
found_by by [] x e = absurd cc
found_by by (alg ∷ algs) x e =
    elim (found_at (by alg) (filter_map by algs) x e) [
      | inl here ↦ (alg, here)
      | inr there ↦ found_by by algs x there
    ]

none_at : {A : Type 0} (o : Option A) (others : List A) → slice_get (cons_option o others) 0 ≡ None
    → (o ≡ None) × (slice_get others 0 ≡ None)
none_at None others e = (refl, e)
none_at (Some y) others e = absurd cc

none_by : {A : Type 0} (by : Alg → Option A) (algs : List Alg) → slice_get (filter_map by algs) 0 ≡ None
    → AllByRecursion (λ alg. by alg ≡ None) algs
none_by by [] e = tt
none_by by (alg ∷ algs) e = let two = none_at (by alg) (filter_map by algs) e in (two.0, none_by by algs two.1)

-- What one algorithm finds is found, where no two find what differs.
pub first_is : {A : Type 0} (by : Alg → Option A) → ((a b : Alg) (x y : A) → by a ≡ Some x → by b ≡ Some y → x ≡ y)
    → (alg : Alg) (x : A) → by alg ≡ Some x → (o : Option A) → slice_get (filter_map by all_algs) 0 ≡ o → o ≡ Some x
first_is by one alg x is None e = absurd (
    let none = every_alg (λ a. by a ≡ None) (none_by by all_algs e) alg in
    let bad : None ≡ Some x = sym none ∙ is in cc)
first_is by one alg x is (Some y) e =
    let other = found_by by all_algs y e in ap (λ d. the_some d) (one other.0 alg y x other.1 is)

-- Fields of a public area, and the key itself: what is read is what was spelled, and what is spelled is read.
use Rattle.std.proofs.Common.{◌≡◌, ℕ, ◌*◌, ◌^◌, ◌<◌, ◌≤◌, ◌⊎◌, Bool, true, false, eqb, leb, ltb, not, ◌&&◌, ◌||◌, List, [], length, Some, Result, Ok, Err, refl, sym, ap, arith, inl, inr, lit<}
use Rattle.std.specs.Prelude.{ok_or, IfErr, slice_index, ◌∷◌}
use Rattle.std.proofs.lemmas.Bool.{eqb-true, eq-eqb, leb-true, le-leb, le-ltb, ltb-false, not-false}
use Rattle.byte_fields.proofs.Steps.{ok_or_ok}
use Rattle.byte_fields.proofs.FormatLaws.{Exact, big16_exact, big32_exact, passes, sized_by_exact, followed_exact, unless_exact, mapped_exact, viewed_exact}
use Rattle.tpm_quotes.specs.Spelling.{sized16}
use Rattle.tpm_keys.specs.declared.fault.KeyFault.{KeyFault}
use Rattle.tpm_keys.specs.declared.fault.KeyFault.TheVariants.{Truncated, OtherExponent, UnknownCurve, KeyDerivation, KeySize}
use Rattle.tpm_keys.specs.declared.kinds.Curve.{Curve}
use Rattle.tpm_keys.specs.declared.kinds.Curve.TheVariants.{P256, P384, P521}
use Rattle.tpm_keys.specs.declared.kinds.KeyType.{KeyType}
use Rattle.tpm_keys.specs.declared.kinds.KeyType.TheVariants.{Rsa, Ecc}
use Rattle.tpm_keys.specs.Kinds.{coordinate_size, curve_id, curve_with}
use Rattle.tpm_keys.specs.Spelling.{AreNumbers, KeyNumbers, RsaNumbers, EccNumbers, null_id, numbers_spelling, type_of}
use Rattle.tpm_keys.specs.Reading.{coordinate, curve, ecc_numbers, exponent, has_bits, no_derivation, numbers, rsa_numbers, sized}
use Rattle.tpm_keys.proofs.TableLaws.{found_id}

-- Any fault may come.
abbrev pub AnyFault : KeyFault → Type 0
AnyFault fault = Unit {0}

pub any_refusal : {X : Type 0} (r : Result X KeyFault) → IfErr r AnyFault
any_refusal (Ok x) = tt
any_refusal (Err fault) = tt

pub sized_is_exact : Exact AnyFault sized
unfolding sized
sized_is_exact = sized_by_exact Truncated tt (big16_exact {P = AnyFault} Truncated tt)

pub is_sized : (xs : List ℕ) → length xs < 2 ^ 16 → sized.Is xs
unfolding sized
is_sized xs lt = ((lt, refl), refl)

pub sized_fits : (xs : List ℕ) → sized.Is xs → length xs < 2 ^ 16
unfolding sized
sized_fits xs is = is.0.0

pub sized_spelled : (xs : List ℕ) → sized.spell xs ≡ sized16 xs
unfolding sized
sized_spelled xs = refl

-- ---- tests

both : (x y : Bool) → (x && y) ≡ true → (x ≡ true) × (y ≡ true)
both true y e = (refl, e)
both false y e = absurd cc

one : (x y : Bool) → (x || y) ≡ true → (x ≡ true) ⊎ (y ≡ true)
one true y e = inl refl
one false y e = inr e

-- ---- an RSA key

exponent_exact : Exact AnyFault exponent
unfolding exponent
exponent_exact = unless_exact _ OtherExponent tt (big32_exact {P = AnyFault} Truncated tt)

exponent_told : (e : ℕ) → exponent.Is e → (e ≡ 0) ⊎ (e ≡ 65537)
unfolding exponent
exponent_told e is =
    elim (one (eqb e 0) (eqb e 65537) (not-false (eqb e 0 || eqb e 65537) (passes (not (eqb e 0 || eqb e 65537)) OtherExponent e e is.1))) [
      | inl a ↦ inl (eqb-true e 0 a)
      | inr b ↦ inr (eqb-true e 65537 b)
    ]

is_exponent : (e : ℕ) → (e ≡ 0) ⊎ (e ≡ 65537) → exponent.Is e
unfolding exponent
is_exponent e (inl a) = rw a (lit< tt, refl)
is_exponent e (inr b) = rw b (lit< tt, refl)

-- A modulus that has so many bits.
bits_told : (bits : ℕ) (xs : List ℕ) → not (has_bits bits xs) ≡ false → (8 * length xs ≡ bits) × (128 ≤ slice_index xs 0)
bits_told bits xs e =
    let test = both (eqb (8 * length xs) bits) (leb 128 (slice_index xs 0)) (not-false (has_bits bits xs) e) in
    (eqb-true (8 * length xs) bits test.0, leb-true 128 (slice_index xs 0) test.1)

has_its_bits : (xs : List ℕ) → 128 ≤ slice_index xs 0 → has_bits (8 * length xs) xs ≡ true
has_its_bits xs first = rw (eq-eqb (8 * length xs) (8 * length xs) refl, le-leb 128 (slice_index xs 0) first) refl

rsa_exact : Exact AnyFault rsa_numbers
unfolding rsa_numbers
rsa_exact =
    mapped_exact (λ x is. ap (λ (n : ℕ). (n, x.1)) (bits_told x.0 x.1.1 (passes _ KeySize x.1.1 x.1.1 is.1.1.1)).0)
    (followed_exact (big16_exact Truncated tt) (λ bits. followed_exact exponent_exact (λ e. unless_exact _ KeySize tt sized_is_exact)))

-- ---- a key of an elliptic curve

told_curve : (id : ℕ) (c : Curve) → curve_with id ≡ Some c → id ≡ curve_id c
told_curve id c e = sym (found_id curve_id (P256 ∷ P384 ∷ P521 ∷ []) id c e)

curve_exact : Exact AnyFault curve
unfolding curve
curve_exact =
    viewed_exact (λ id c is e. told_curve id c (ok_or_ok (curve_with id) UnknownCurve c e)) (λ id. any_refusal (ok_or (curve_with id) UnknownCurve))
    (big16_exact {P = AnyFault} Truncated tt)

is_curve : (c : Curve) → curve.Is c
unfolding curve
is_curve P256 = (lit< tt, refl)
is_curve P384 = (lit< tt, refl)
is_curve P521 = (lit< tt, refl)

no_derivation_exact : Exact AnyFault no_derivation
unfolding no_derivation
no_derivation_exact = unless_exact _ KeyDerivation tt (big16_exact {P = AnyFault} Truncated tt)

no_derivation_told : (n : ℕ) → no_derivation.Is n → null_id ≡ n
unfolding no_derivation
no_derivation_told n is = sym (eqb-true n null_id (not-false (eqb n null_id) (passes (not (eqb n null_id)) KeyDerivation n n is.1)))

is_no_derivation : no_derivation.Is null_id
unfolding no_derivation
is_no_derivation = (lit< tt, refl)

coordinate_exact : (c : Curve) → Exact AnyFault (coordinate c)
unfolding coordinate
coordinate_exact c = unless_exact _ KeySize tt sized_is_exact

coordinate_fits : (c : Curve) (xs : List ℕ) → (coordinate c).Is xs → length xs ≤ coordinate_size c
unfolding coordinate
coordinate_fits c xs is =
    ltb-false (coordinate_size c) (length xs) (passes (ltb (coordinate_size c) (length xs)) KeySize xs xs is.1)

coordinate_small : (c : Curve) → coordinate_size c < 2 ^ 16
coordinate_small P256 = lit< tt
coordinate_small P384 = lit< tt
coordinate_small P521 = lit< tt

is_coordinate : (c : Curve) (xs : List ℕ) → length xs ≤ coordinate_size c → (coordinate c).Is xs
unfolding coordinate
is_coordinate c xs le =
    (is_sized xs (omega (arith, le, coordinate_small c)), rw (le-ltb (coordinate_size c) (length xs) le) refl)

ecc_exact : Exact AnyFault ecc_numbers
unfolding ecc_numbers
ecc_exact =
    mapped_exact (λ x is. ap (λ (n : ℕ). (x.0, (n, x.1.1))) (no_derivation_told x.1.0 is.1.0))
    (followed_exact curve_exact (λ c. followed_exact no_derivation_exact (λ n. followed_exact (coordinate_exact c) (λ x. coordinate_exact c))))

-- ---- either

pub numbers_exact : (t : KeyType) → Exact AnyFault (numbers t)
numbers_exact Rsa = rsa_exact
numbers_exact Ecc = ecc_exact

abbrev the_numbers : KeyNumbers → Result KeyNumbers KeyFault
the_numbers n = Ok n

not_ecc : (e : ℕ) (m : List ℕ) (c : Curve) (x y : List ℕ) → the_numbers (RsaNumbers e m) ≡ Ok (EccNumbers c x y) → ⊥
not_ecc e m c x y same = cc

not_rsa : (e : ℕ) (m : List ℕ) (c : Curve) (x y : List ℕ) → the_numbers (EccNumbers c x y) ≡ Ok (RsaNumbers e m) → ⊥
not_rsa e m c x y same = cc

-- The numbers are of a key of the type by which they were read.
pub type_told : (t : KeyType) (n : KeyNumbers) → (numbers t).Is n → type_of n ≡ t
unfolding rsa_numbers ecc_numbers
type_told Rsa (RsaNumbers e m) is = refl
type_told Rsa (EccNumbers c x y) is = absurd (not_ecc 0 [] c x y is.1)
type_told Ecc (RsaNumbers e m) is = absurd (not_rsa e m P256 [] [] is.1)
type_told Ecc (EccNumbers c x y) is = refl

pub numbers_are : (n : KeyNumbers) → (numbers (type_of n)).Is n → AreNumbers n
unfolding rsa_numbers ecc_numbers
numbers_are (RsaNumbers e m) is = (
  exponent_told e is.0.1.0,
  is.0.0,
  (bits_told (8 * length m) m (passes _ KeySize m m is.0.1.1.1)).1,
)
numbers_are (EccNumbers c x y) is = (coordinate_fits c x is.0.1.1.0, coordinate_fits c y is.0.1.1.1)

pub are_numbers : (n : KeyNumbers) → AreNumbers n → (numbers (type_of n)).Is n
unfolding rsa_numbers ecc_numbers
are_numbers (RsaNumbers e m) are =
    ((are.1, (is_exponent e are.0, (is_sized m (omega (arith, are.1)), rw (has_its_bits m are.2) refl))), refl)
are_numbers (EccNumbers c x y) are =
    ((is_curve c, (is_no_derivation, (is_coordinate c x are.0, is_coordinate c y are.1))), refl)

pub numbers_spelled : (n : KeyNumbers) → (numbers (type_of n)).spell n ≡ numbers_spelling n
unfolding rsa_numbers ecc_numbers exponent curve no_derivation coordinate
numbers_spelled (RsaNumbers e m) = rw (sized_spelled m) refl
numbers_spelled (EccNumbers c x y) = rw (sized_spelled x, sized_spelled y) refl

-- How long the numbers of signatures by ECDSA are.
use Rattle.std.proofs.Common.{◌≡◌, ℕ, suc, ◌+◌, ◌*◌, ◌^◌, ◌<◌, ◌≤◌, Bool, true, false, cond, List, [], ◌∷◌, ◌++◌, length, length-append, ap, arith, lit<, pow-suc, mul-le-mul_right, inl, inr}
use Rattle.std.specs.Prelude.{nat_lt, slice_index}
use Rattle.std.specs.Int.Digits.{number_from_digits_after}
use Rattle.std.proofs.Math.Nat.{pow-le-pow_right, pow-zero}
use Rattle.std.proofs.lemmas.Bool.{cases_lt, lt-ltb}
use Rattle.limb_numbers.specs.Bytes.{number_of}
use Rattle.ecdsa_signatures.specs.declared.curves.Curve.{Curve}
use Rattle.ecdsa_signatures.specs.declared.curves.Curve.TheVariants.{P256, P384}
use Rattle.ecdsa_signatures.specs.Curves.{parameters_of}
use Rattle.signature_hashes.specs.declared.hashes.Hash.{Hash}
use Rattle.tpm_keys.specs.KeyInfo.{der, integer}
use Rattle.signed_messages.specs.Keys.{EccKey}
use Rattle.signed_messages.specs.Signing.{IsValidEcdsa}
use Rattle.signed_messages.specs.parts.PlainReading.{content_of}

-- What stands before digits counts for as much as they have places.
at_least : (v : ℕ) (bs : List ℕ) → v * 256 ^ length bs ≤ number_from_digits_after 256 v bs
at_least v [] = omega (arith, ap (λ t. v * t) (pow-zero 256))
at_least v (b ∷ bs) =
    let next : v * 256 ^ suc (length bs) ≡ v * (256 ^ length bs * 256) = ap (λ t. v * t) (pow-suc 256 (length bs)) in
    omega (arith, next, at_least (v * 256 + b) bs)

first_counts : (b : ℕ) (bs : List ℕ) → 0 < b → 256 ^ length bs ≤ number_of (b ∷ bs)
first_counts b bs lt =
    let one : 1 * 256 ^ length bs ≤ (0 * 256 + b) * 256 ^ length bs = mul-le-mul_right (256 ^ length bs) (omega arith) in
    omega (arith, one, at_least (0 * 256 + b) bs)

-- A number below 256 ^ 48 has at most 48 bytes, if the first is not 0.
few : (n : List ℕ) → 0 < slice_index n 0 → number_of n < 256 ^ 48 → length n ≤ 48
few [] first below = omega arith
few (b ∷ bs) first below =
    elim (cases_lt (length bs) 48) [
      | inl lt ↦ omega (arith, lt)
      | inr le ↦
          let high : 256 ^ 48 ≤ 256 ^ length bs = pow-le-pow_right (lit< tt) le in
          absurd (omega (arith, high, first_counts b bs first, below))
    ]

order_below : (c : Curve) → (parameters_of c).order < 256 ^ 48
order_below P256 = lit< tt
order_below P384 = lit< tt

content_length : (n : List ℕ) (low : Bool) → length (cond low n (0 ∷ n)) ≤ length n + 1
content_length n true = omega arith
content_length n false = omega arith

der_size : (tag : ℕ) (xs : List ℕ) → length xs < 0x80 → length (der tag xs) ≡ 2 + length xs
der_size tag xs lt = rw (lt-ltb (length xs) 0x80 lt) (omega arith)

integer_short : (n : List ℕ) → length n ≤ 48 → length (integer n) ≤ 51
integer_short n le =
    let content : length (content_of n) ≤ length n + 1 = content_length n (nat_lt (slice_index n 0) 0x80) in
    omega (arith, content, le, der_size 0x02 (content_of n) (omega (arith, content, le)))

pub numbers_short : (key : EccKey) (hash : Hash) (message r s : List ℕ) → IsValidEcdsa key hash message r s → 0 < slice_index r 0
    → 0 < slice_index s 0 → length (integer r ++ integer s) < 0x80
numbers_short key hash message r s valid r_first s_first =
    let bound = order_below key.curve in
    let r_few = few r r_first (omega (arith, bound, valid.1.r_below)) in
    let s_few = few s s_first (omega (arith, bound, valid.1.s_below)) in
    omega (arith, length-append (integer r) (integer s), integer_short r r_few, integer_short s s_few)

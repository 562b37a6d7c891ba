-- Signatures by ECDSA alone: what is read is what was spelled, and what is spelled is read.
use Rattle.std.proofs.Common.{◌≡◌, ℕ, zero, suc, ◌+◌, ◌^◌, ◌<◌, ◌≤◌, Bool, true, false, cond, eqb, ltb, List, [], ◌∷◌, ◌++◌, length, length-append, Result, Ok, Err, refl, sym, ap, ap₂, ◌∙◌, arith, lit<}
use Rattle.std.specs.Prelude.{not, slice_index, IfOk, IfErr}
use Rattle.std.proofs.lemmas.Bool.{eqb-true, lt-ltb, le-ltb, ltb-true, ltb-false}
use Rattle.byte_fields.specs.Reading.{Reads}
use Rattle.byte_fields.proofs.Steps.{IsBytes, bind_ok, guard_ok, ok_is, test_ok}
use Rattle.byte_fields.proofs.FormatLaws.{Exact, IsBytes-behind, byte_exact, followed_exact, mapped_exact, passes, sized_by_exact, unless_exact, viewed_exact, whole_again, whole_takes}
use Rattle.byte_fields.specs.Formats.{whole}
use Rattle.pcr_banks.specs.declared.alg.Alg.{Alg}
use Rattle.tpm_keys.specs.KeyInfo.{der, der_length, integer, sequence}
use Rattle.tpm_signatures.specs.Spelling.{IsSignature, TpmNumbers, RsassaNumber, RsapssNumber, EcdsaNumbers, TpmSignature, signature_spelling}
use Rattle.signed_messages.specs.declared.plain.PlainFault.{PlainFault}
use Rattle.signed_messages.specs.declared.plain.PlainFault.TheVariants.{NotPlain}
use Rattle.signed_messages.specs.Plain.{IsPlain}
use Rattle.signed_messages.specs.parts.PlainReading.{behind_zero, content, content_of, number, number_with, numbers, numbers_in, plain_in, size, sized, tag}

abbrev AnyFault : PlainFault → Type 0
AnyFault fault = Unit {0}

any_refusal : {X : Type 0} (r : Result X PlainFault) → IfErr r AnyFault
any_refusal (Ok x) = tt
any_refusal (Err fault) = tt

-- ---- values

negated : (b : Bool) → not b ≡ false → b ≡ true
negated true e = refl
negated false e = absurd cc

tag_exact : (wanted : ℕ) → Exact AnyFault (tag wanted)
unfolding tag
tag_exact wanted = unless_exact (λ id. not (eqb id wanted)) NotPlain tt (byte_exact {P = AnyFault} NotPlain tt)

tag_is : (wanted id : ℕ) → (tag wanted).Is id → id ≡ wanted
unfolding tag
tag_is wanted id is = eqb-true id wanted (negated (eqb id wanted) (passes (not (eqb id wanted)) NotPlain id id is.1))

size_exact : Exact AnyFault size
unfolding size
size_exact = unless_exact (λ count. ltb 0x7F count) NotPlain tt (byte_exact {P = AnyFault} NotPlain tt)

sized_is_exact : Exact AnyFault sized
unfolding sized
sized_is_exact = sized_by_exact NotPlain tt size_exact

content_exact : (wanted : ℕ) → Exact AnyFault (content wanted)
unfolding content
content_exact wanted =
    mapped_exact (λ x is. ap (λ (id : ℕ). (id, x.1)) (sym (tag_is wanted x.0 is.0))) (followed_exact (tag_exact wanted) (λ id. sized_is_exact))

-- The content of a value has a length below 128.
content_short : (wanted : ℕ) (xs : List ℕ) → (content wanted).Is xs → length xs < 0x80
unfolding content sized size
content_short wanted xs is =
    let below : length xs ≤ 0x7F = ltb-false 0x7F (length xs) (passes (ltb 0x7F (length xs)) NotPlain (length xs) (length xs) is.0.1.0.0.1) in
    omega (arith, below)

content_is : (wanted : ℕ) (xs : List ℕ) → wanted < 2 ^ 8 → eqb wanted wanted ≡ true → length xs < 0x80 → (content wanted).Is xs
unfolding content sized size tag
content_is wanted xs fits same lt =
    let below : length xs ≤ 0x7F = omega (arith, lt) in
    let byte : length xs < 2 ^ 8 = omega (arith, lt) in
    (((fits, rw same refl), (((byte, rw (le-ltb 0x7F (length xs) below) refl), refl), refl)), refl)

content_spelled : (wanted : ℕ) (xs : List ℕ) → length xs < 0x80 → (content wanted).spell xs ≡ der wanted xs
unfolding content sized size tag
content_spelled wanted xs lt = rw (lt-ltb (length xs) 0x80 lt) refl

-- A value is longer than its content.
der_longer : (wanted : ℕ) (xs : List ℕ) → length xs ≤ length (der wanted xs)
der_longer wanted xs = omega (arith, length-append (der_length (length xs)) xs)

-- ---- numbers

-- A content from 128 on spells the number behind a zero.
behind_sound : (xs n : List ℕ) → behind_zero xs ≡ Ok n → 0 ∷ xs ≡ content_of n
unfolding behind_zero
behind_sound [] n e = absurd cc
behind_sound (b ∷ xs) n e =
    let test = test_ok (ltb 0x7F b) NotPlain (Ok (b ∷ xs)) n e in
    let high : 0x80 ≤ b = omega (arith, ltb-true 0x7F b test.0) in
    rw (← ok_is (b ∷ xs) n test.1, le-ltb b 0x80 high) refl

positive_suc : (b : ℕ) → ltb 0 (suc b) ≡ true
positive_suc b = lt-ltb 0 (suc b) (omega arith)

number_sound : (xs n : List ℕ) → number_with xs ≡ Ok n → xs ≡ content_of n
unfolding number_with
number_sound [] n e = absurd cc
number_sound (zero ∷ xs) n e = behind_sound xs n e
number_sound (suc b ∷ xs) n e =
    let test = guard_ok (ltb 0x7F (suc b)) NotPlain (Ok (suc b ∷ xs)) n (rw (positive_suc b) at e) in
    let low : suc b < 0x80 = omega (arith, ltb-false 0x7F (suc b) test.0) in
    rw (← ok_is (suc b ∷ xs) n test.1, lt-ltb (suc b) 0x80 low) refl

number_exact : Exact AnyFault number
unfolding number
number_exact = viewed_exact (λ xs n is e. number_sound xs n e) (λ xs. any_refusal (number_with xs)) (content_exact 0x02)

numbers_exact : Exact AnyFault numbers
numbers_exact = followed_exact number_exact (λ r. number_exact)

-- The first byte of a number that is read is not 0.
behind_first : (xs n : List ℕ) → behind_zero xs ≡ Ok n → 0 < slice_index n 0
unfolding behind_zero
behind_first [] n e = absurd cc
behind_first (b ∷ xs) n e =
    let test = test_ok (ltb 0x7F b) NotPlain (Ok (b ∷ xs)) n e in
    rw (← ok_is (b ∷ xs) n test.1) (omega (arith, ltb-true 0x7F b test.0))

number_first : (xs n : List ℕ) → number_with xs ≡ Ok n → 0 < slice_index n 0
unfolding number_with
number_first [] n e = absurd cc
number_first (zero ∷ xs) n e = behind_first xs n e
number_first (suc b ∷ xs) n e =
    let test = guard_ok (ltb 0x7F (suc b)) NotPlain (Ok (suc b ∷ xs)) n (rw (positive_suc b) at e) in
    rw (← ok_is (suc b ∷ xs) n test.1) (omega arith)

number_so : (b : ℕ) (xs : List ℕ) (low : Bool) → ltb (suc b) 0x80 ≡ low
    → number_with (cond low (suc b ∷ xs) (0 ∷ suc b ∷ xs)) ≡ Ok (suc b ∷ xs)
unfolding number_with behind_zero
number_so b xs true e =
    let low : suc b ≤ 0x7F = omega (arith, ltb-true (suc b) 0x80 e) in
    rw (positive_suc b, le-ltb 0x7F (suc b) low) refl
number_so b xs false e =
    let high : 0x7F < suc b = omega (arith, ltb-false (suc b) 0x80 e) in
    rw (lt-ltb 0x7F (suc b) high) refl

-- A number whose first byte is not 0 is read.
number_back : (n : List ℕ) → 0 < slice_index n 0 → number_with (content_of n) ≡ Ok n
number_back [] first = absurd (omega arith)
number_back (zero ∷ xs) first = absurd (omega arith)
number_back (suc b ∷ xs) first = number_so b xs (ltb (suc b) 0x80) refl

number_is : (n : List ℕ) → 0 < slice_index n 0 → length (content_of n) < 0x80 → number.Is n
unfolding number
number_is n first short = (content_is 0x02 (content_of n) (lit< tt) refl short, number_back n first)

number_spelled : (n : List ℕ) → length (content_of n) < 0x80 → number.spell n ≡ integer n
unfolding number
number_spelled n short = content_spelled 0x02 (content_of n) short

number_short : (n : List ℕ) → number.Is n → length (content_of n) < 0x80
unfolding number
number_short n is = content_short 0x02 (content_of n) is.0

number_has_first : (n : List ℕ) → number.Is n → 0 < slice_index n 0
unfolding number
number_has_first n is = number_first (content_of n) n is.1

-- ---- the signature

plain_is : (bytes : List ℕ) (x : List ℕ × List ℕ) → IsBytes bytes → plain_in bytes ≡ Ok x → IsPlain bytes x.0 x.1
unfolding plain_in numbers_in
plain_is bytes x fits e =
    let step = bind_ok (whole NotPlain (content 0x30) bytes) (λ framed. whole NotPlain numbers framed) x e in
    let framed = step.0 in
    let frame = whole_takes NotPlain (content_exact 0x30) bytes framed fits step.1 in
    let short = content_short 0x30 framed frame.0 in
    let parts = frame.1 ∙ content_spelled 0x30 framed short in
    let framed_fits = IsBytes-behind bytes (0x30 ∷ der_length (length framed)) framed parts fits in
    let inner = whole_takes NotPlain numbers_exact framed x framed_fits step.2 in
    let spelled : framed ≡ integer x.0 ++ integer x.1 = inner.1 ∙ ap₂ (λ (r s : List ℕ). r ++ s) (number_spelled x.0 (number_short x.0 inner.0.0)) (number_spelled x.1 (number_short x.1 inner.0.1)) in
    record {
      r_first = number_has_first x.0 inner.0.0;
      s_first = number_has_first x.1 inner.0.1;
      short = omega (arith, short, ap (λ (xs : List ℕ). length xs) spelled);
      spelled = parts ∙ ap (λ (xs : List ℕ). sequence xs) spelled;
    }

is_plain : (bytes r s : List ℕ) → IsPlain bytes r s → plain_in bytes ≡ Ok (r, s)
unfolding plain_in numbers_in
is_plain bytes r s is =
    let framed = integer r ++ integer s in
    let size : length framed ≡ length (integer r) + length (integer s) = length-append (integer r) (integer s) in
    let r_short : length (content_of r) < 0x80 = omega (arith, size, is.short, der_longer 0x02 (content_of r)) in
    let s_short : length (content_of s) < 0x80 = omega (arith, size, is.short, der_longer 0x02 (content_of s)) in
    let frame = whole_again NotPlain (content_exact 0x30) bytes framed (content_is 0x30 framed (lit< tt) refl is.short)
    (is.spelled ∙ sym (content_spelled 0x30 framed is.short)) in
    let inner = whole_again NotPlain numbers_exact framed (r, s) (number_is r is.r_first r_short, number_is s is.s_first s_short)
    (sym (ap₂ (λ (x y : List ℕ). x ++ y) (number_spelled r r_short) (number_spelled s s_short))) in
    rw (frame, inner) refl

-- The bytes are the numbers of one signature.
pub one_plain : (bytes r s : List ℕ) (x : List ℕ × List ℕ) → IsPlain bytes r s → IsPlain bytes x.0 x.1 → (r, s) ≡ x
one_plain bytes r s x is also = ok_is (r, s) x (sym (is_plain bytes r s is) ∙ is_plain bytes x.0 x.1 also)

-- ---- what the reader gives

module _ {X : Type 0} (view : X → List ℕ × List ℕ) (bytes : List ℕ) where
  pub found : (r : Result X PlainFault) → IsBytes bytes → Reads view r (plain_in bytes) → IfOk r (λ x. IsPlain bytes (view x).0 (view x).1)
  found (Ok x) fits e = plain_is bytes (view x) fits e
  found (Err fault) fits e = tt

  pub given : (r : Result X PlainFault) (first second : List ℕ) → Reads view r (plain_in bytes) → IsPlain bytes first second
      → Reads {Y = List ℕ × List ℕ} view r (Ok (first, second))
  given (Ok x) first second e is = sym (is_plain bytes first second is) ∙ e
  given (Err fault) first second e is = sym (is_plain bytes first second is) ∙ e

-- ---- no signature that a TPM states

stated_first : (hash : Alg) (n : TpmNumbers) → slice_index (signature_spelling (record { hash = hash; numbers = n })) 0 ≡ 0
stated_first hash (RsassaNumber n) = refl
stated_first hash (RsapssNumber n) = refl
stated_first hash (EcdsaNumbers r s) = refl

-- The numbers alone begin with the tag of a sequence, and a signature that a TPM states with a zero.
pub not_stated : (bytes r s : List ℕ) (signature : TpmSignature) → IsPlain bytes r s → IsSignature bytes signature → ⊥
not_stated bytes r s signature is states =
    let first : slice_index bytes 0 ≡ 0x30 = ap (λ (xs : List ℕ). slice_index xs 0) is.spelled in
    let other : slice_index bytes 0 ≡ 0 = ap (λ (xs : List ℕ). slice_index xs 0) states.spelled ∙ stated_first signature.hash signature.numbers in
    absurd (omega (arith, first, other))

abbrev the_plain : List ℕ × List ℕ → Result (List ℕ × List ℕ) PlainFault
the_plain x = Ok x

-- What is read has no fault.
pub plain_has_no_fault : (x : List ℕ × List ℕ) (fault : PlainFault) → the_plain x ≡ Err fault → ⊥
plain_has_no_fault x fault e = cc

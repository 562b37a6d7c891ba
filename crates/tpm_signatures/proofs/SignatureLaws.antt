-- Signatures: what is read is what was spelled, and what is spelled is read.
use Rattle.std.proofs.Common.{◌≡◌, ℕ, ◌^◌, ◌<◌, List, [], ◌∷◌, ◌++◌, length, Some, Result, Ok, Err, refl, sym, ap, ◌∙◌, lit<}
use Rattle.std.specs.Prelude.{ok_or, IfOk, IfErr}
use Rattle.std.specs.Int.{w16, to_be_bytes}
use Rattle.std.specs.Result.{result_err}
use Rattle.byte_fields.specs.Reading.{Reads}
use Rattle.byte_fields.proofs.Steps.{IsBytes, ok_is, ok_or_ok}
use Rattle.byte_fields.proofs.FormatLaws.{Exact, big16_exact, sized_by_exact, followed_exact, mapped_exact, viewed_exact, whole_again, whole_takes}
use Rattle.pcr_banks.specs.declared.alg.Alg.{Alg}
use Rattle.pcr_banks.specs.declared.alg.Alg.TheVariants.{Sha1, Sha256, Sha384, Sha512}
use Rattle.pcr_banks.specs.Hashing.{algorithm_with, all_algs, tpm_id_of}
use Rattle.tpm_signatures.specs.declared.fault.SignatureFault.{SignatureFault}
use Rattle.tpm_signatures.specs.declared.fault.SignatureFault.TheVariants.{Truncated, UnknownScheme, UnknownHash, Trailing}
use Rattle.tpm_signatures.specs.declared.reader.Signature.{Signature}
use Rattle.tpm_signatures.specs.declared.scheme.Scheme.{Scheme}
use Rattle.tpm_signatures.specs.declared.scheme.Scheme.TheVariants.{Rsassa, Rsapss, Ecdsa}
use Rattle.tpm_signatures.specs.Spelling.{AreNumbers, IsSignature, TpmNumbers, RsassaNumber, RsapssNumber, EcdsaNumbers, TpmSignature, numbers_spelling, scheme_id, scheme_of, scheme_with, signature_of, signature_spelling, sized16}
use Rattle.tpm_signatures.specs.Reading.{ecdsa, hash, numbers, rsapss, rsassa, scheme, signature, signature_fault, signature_in, sized}
use Rattle.tpm_signatures.proofs.TableLaws.{found_id}

-- Any fault may come.
abbrev AnyFault : SignatureFault → Type 0
AnyFault fault = Unit {0}

any_refusal : {X : Type 0} (r : Result X SignatureFault) → IfErr r AnyFault
any_refusal (Ok x) = tt
any_refusal (Err fault) = tt

sized_is_exact : Exact AnyFault sized
unfolding sized
sized_is_exact = sized_by_exact Truncated tt (big16_exact {P = AnyFault} Truncated tt)

is_sized : (xs : List ℕ) → length xs < 2 ^ 16 → sized.Is xs
unfolding sized
is_sized xs lt = ((lt, refl), refl)

sized_fits : (xs : List ℕ) → sized.Is xs → length xs < 2 ^ 16
unfolding sized
sized_fits xs is = is.0.0

sized_spelled : (xs : List ℕ) → sized.spell xs ≡ sized16 xs
unfolding sized
sized_spelled xs = refl

-- ---- the scheme and the hash

told_scheme : (id : ℕ) (k : Scheme) → scheme_with id ≡ Some k → id ≡ scheme_id k
told_scheme id k e = sym (found_id scheme_id (Rsassa ∷ Rsapss ∷ Ecdsa ∷ []) id k e)

scheme_exact : Exact AnyFault scheme
unfolding scheme
scheme_exact =
    viewed_exact (λ id k is e. told_scheme id k (ok_or_ok (scheme_with id) UnknownScheme k e)) (λ id. any_refusal (ok_or (scheme_with id) UnknownScheme))
    (big16_exact {P = AnyFault} Truncated tt)

is_scheme : (k : Scheme) → scheme.Is k
unfolding scheme
is_scheme Rsassa = (lit< tt, refl)
is_scheme Rsapss = (lit< tt, refl)
is_scheme Ecdsa = (lit< tt, refl)

told_hash : (id : ℕ) (alg : Alg) → algorithm_with id ≡ Some alg → id ≡ tpm_id_of alg
told_hash id alg e = sym (found_id tpm_id_of all_algs id alg e)

hash_exact : Exact AnyFault hash
unfolding hash
hash_exact =
    viewed_exact (λ id alg is e. told_hash id alg (ok_or_ok (algorithm_with id) UnknownHash alg e)) (λ id. any_refusal (ok_or (algorithm_with id) UnknownHash))
    (big16_exact {P = AnyFault} Truncated tt)

is_hash : (alg : Alg) → hash.Is alg
unfolding hash
is_hash Sha1 = (lit< tt, refl)
is_hash Sha256 = (lit< tt, refl)
is_hash Sha384 = (lit< tt, refl)
is_hash Sha512 = (lit< tt, refl)

-- ---- the numbers

numbers_exact : (k : Scheme) → Exact AnyFault (numbers k)
unfolding rsassa rsapss ecdsa
numbers_exact Rsassa = mapped_exact (λ x is. refl) sized_is_exact
numbers_exact Rsapss = mapped_exact (λ x is. refl) sized_is_exact
numbers_exact Ecdsa = mapped_exact (λ x is. refl) (followed_exact sized_is_exact (λ r. sized_is_exact))

abbrev the_numbers : TpmNumbers → Result TpmNumbers SignatureFault
the_numbers n = Ok n

same_numbers : (m n : TpmNumbers) → the_numbers m ≡ the_numbers n → m ≡ n
same_numbers m n e = cc

-- The numbers are of a signature by the scheme by which they were read.
scheme_told : (k : Scheme) (n : TpmNumbers) → (numbers k).Is n → scheme_of n ≡ k
unfolding rsassa rsapss ecdsa
scheme_told Rsassa n is = sym (ap scheme_of (same_numbers _ n is.1))
scheme_told Rsapss n is = sym (ap scheme_of (same_numbers _ n is.1))
scheme_told Ecdsa n is = sym (ap scheme_of (same_numbers _ n is.1))

numbers_are : (n : TpmNumbers) → (numbers (scheme_of n)).Is n → AreNumbers n
unfolding rsassa rsapss ecdsa
numbers_are (RsassaNumber number) is = sized_fits number is.0
numbers_are (RsapssNumber number) is = sized_fits number is.0
numbers_are (EcdsaNumbers r s) is = (sized_fits r is.0.0, sized_fits s is.0.1)

are_numbers : (n : TpmNumbers) → AreNumbers n → (numbers (scheme_of n)).Is n
unfolding rsassa rsapss ecdsa
are_numbers (RsassaNumber number) are = (is_sized number are, refl)
are_numbers (RsapssNumber number) are = (is_sized number are, refl)
are_numbers (EcdsaNumbers r s) are = ((is_sized r are.0, is_sized s are.1), refl)

numbers_spelled : (n : TpmNumbers) → (numbers (scheme_of n)).spell n ≡ numbers_spelling n
unfolding rsassa rsapss ecdsa
numbers_spelled (RsassaNumber number) = sized_spelled number
numbers_spelled (RsapssNumber number) = sized_spelled number
numbers_spelled (EcdsaNumbers r s) = rw (sized_spelled r, sized_spelled s) refl

-- ---- the signature

signature_exact : Exact AnyFault signature
unfolding signature
signature_exact =
    mapped_exact (λ x is. ap (λ (k : Scheme). (k, x.1)) (scheme_told x.0 x.1.1 is.1.1))
    (followed_exact scheme_exact (λ k. followed_exact hash_exact (λ h. numbers_exact k)))

spelled : (s : TpmSignature) → signature.spell s ≡ signature_spelling s
unfolding signature scheme hash
spelled s =
    ap (λ (xs : List ℕ). to_be_bytes w16 (scheme_id (scheme_of s.numbers)) ++ (to_be_bytes w16 (tpm_id_of s.hash) ++ xs)) (numbers_spelled s.numbers)

signature_is : (bytes : List ℕ) (s : TpmSignature) → IsBytes bytes → signature_in bytes ≡ Ok s → IsSignature bytes s
unfolding signature_in signature
signature_is bytes s fits e =
    let taken = whole_takes Trailing signature_exact bytes s fits e in
    record { numbers_are = numbers_are s.numbers taken.0.0.1.1; spelled = taken.1 ∙ spelled s }

is_signature : (bytes : List ℕ) (s : TpmSignature) → IsSignature bytes s → signature_in bytes ≡ Ok s
unfolding signature_in signature
is_signature bytes s is =
    whole_again Trailing signature_exact bytes s
    ((is_scheme (scheme_of s.numbers), (is_hash s.hash, are_numbers s.numbers is.numbers_are)), refl) (is.spelled ∙ sym (spelled s))

-- A signature has one reading.
pub one_reading : (bytes : List ℕ) (first second : TpmSignature) → IsSignature bytes first → IsSignature bytes second → first ≡ second
one_reading bytes first second is also = ok_is first second (sym (is_signature bytes first is) ∙ is_signature bytes second also)

-- ---- what the reader gives

pub found : (bytes : List ℕ) (r : Result Signature SignatureFault) → IsBytes bytes → Reads signature_of r (signature_in bytes)
    → IfOk r (λ s. IsSignature bytes (signature_of s))
found bytes (Ok s) fits e = signature_is bytes (signature_of s) fits e
found bytes (Err fault) fits e = tt

pub refused : (bytes : List ℕ) (r : Result Signature SignatureFault) → Reads signature_of r (signature_in bytes)
    → IfErr r (λ fault. signature_fault bytes ≡ Some fault)
refused bytes (Ok s) e = tt
refused bytes (Err fault) e = ap result_err e

pub given : (bytes : List ℕ) (r : Result Signature SignatureFault) (s : TpmSignature) → Reads signature_of r (signature_in bytes) → IsSignature bytes s
    → Reads signature_of r (Ok s)
given bytes (Ok x) s e is = sym (is_signature bytes s is) ∙ e
given bytes (Err fault) s e is = sym (is_signature bytes s is) ∙ e

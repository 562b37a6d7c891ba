-- Reading a signature from left to right, up to the first fault.
use Rattle.std.specs.Prelude.{ℕ, List, [], Option, Result, ok_or}
use Rattle.std.specs.Int.{w16}
use Rattle.std.specs.Result.{result_err}
use Rattle.byte_fields.specs.Formats.{Format, big_number, ◌followed_by◌, viewed, mapped, sized_by, whole}
use Rattle.pcr_banks.specs.declared.alg.Alg.{Alg}
use Rattle.pcr_banks.specs.Hashing.{algorithm_with, tpm_id_of}
use Rattle.tpm_signatures.specs.declared.fault.SignatureFault.{SignatureFault}
use Rattle.tpm_signatures.specs.declared.fault.SignatureFault.TheVariants.{Truncated, UnknownScheme, UnknownHash, Trailing}
use Rattle.tpm_signatures.specs.declared.scheme.Scheme.{Scheme}
use Rattle.tpm_signatures.specs.declared.scheme.Scheme.TheVariants.{Rsassa, Rsapss, Ecdsa}
use Rattle.tpm_signatures.specs.Spelling.{TpmNumbers, RsassaNumber, RsapssNumber, EcdsaNumbers, TpmSignature, scheme_id, scheme_of, scheme_with}

-- Bytes that are prefixed by their number, in two bytes.
unfoldable pub sized : Format (List ℕ) SignatureFault
sized = sized_by (big_number Truncated w16) Truncated

unfoldable pub scheme : Format Scheme SignatureFault
scheme = viewed (λ id. ok_or (scheme_with id) UnknownScheme) scheme_id (big_number Truncated w16)

unfoldable pub hash : Format Alg SignatureFault
hash = viewed (λ id. ok_or (algorithm_with id) UnknownHash) tpm_id_of (big_number Truncated w16)

-- ---- the numbers

-- The parts of numbers by each scheme; none of those by another.
abbrev pub rsassa_part : TpmNumbers → List ℕ
rsassa_part (RsassaNumber number) = number
rsassa_part numbers = []

abbrev pub rsapss_part : TpmNumbers → List ℕ
rsapss_part (RsapssNumber number) = number
rsapss_part numbers = []

abbrev pub ecdsa_parts : TpmNumbers → List ℕ × List ℕ
ecdsa_parts (EcdsaNumbers r s) = (r, s)
ecdsa_parts numbers = ([], [])

unfoldable pub rsassa : Format TpmNumbers SignatureFault
rsassa = mapped RsassaNumber rsassa_part sized

unfoldable pub rsapss : Format TpmNumbers SignatureFault
rsapss = mapped RsapssNumber rsapss_part sized

unfoldable pub ecdsa : Format TpmNumbers SignatureFault
ecdsa = mapped (λ x. EcdsaNumbers x.0 x.1) ecdsa_parts (sized followed_by λ r. sized)

abbrev pub numbers : Scheme → Format TpmNumbers SignatureFault
numbers Rsassa = rsassa
numbers Rsapss = rsapss
numbers Ecdsa = ecdsa

-- ---- the signature

unfoldable pub signature : Format TpmSignature SignatureFault
signature =
    mapped (λ x. record { hash = x.1.0; numbers = x.1.1 }) (λ s. (scheme_of s.numbers, (s.hash, s.numbers)))
    (scheme followed_by λ k. hash followed_by λ h. numbers k)

-- What all of the bytes state, or their first fault.
unfoldable pub signature_in : List ℕ → Result TpmSignature SignatureFault
signature_in bytes = whole Trailing signature bytes

abbrev pub signature_fault : List ℕ → Option SignatureFault
signature_fault bytes = result_err (signature_in bytes)

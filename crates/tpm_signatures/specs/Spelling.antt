-- What a signature of a TPM is: a relation between bytes and what they state (TPM 2.0 Library, part 2, TPMT_SIGNATURE). All numbers are big
-- endian.
use Rattle.std.specs.Prelude.{◌≡◌, ℕ, ◌^◌, ◌<◌, ◌==◌, List, [], ◌∷◌, ◌++◌, length, find, Option}
use Rattle.std.specs.Int.{w16, to_be_bytes}
use Rattle.pcr_banks.specs.declared.alg.Alg.{Alg}
use Rattle.pcr_banks.specs.Hashing.{tpm_id_of}
use Rattle.tpm_signatures.specs.declared.reader.Signature.{Signature}
use Rattle.tpm_signatures.specs.declared.reader.SignatureNumbers.{SignatureNumbers}
use Rattle.tpm_signatures.specs.declared.reader.SignatureNumbers.TheVariants as code
use Rattle.tpm_signatures.specs.declared.scheme.Scheme.{Scheme}
use Rattle.tpm_signatures.specs.declared.scheme.Scheme.TheVariants.{Rsassa, Rsapss, Ecdsa}

-- Bytes that are prefixed by their number, in two bytes (part 2, the TPM2B types).
abbrev pub sized16 : List ℕ → List ℕ
sized16 bytes = to_be_bytes w16 (length bytes) ++ bytes

-- ---- the scheme

-- The number of each (TCG Algorithm Registry, 'TPM_ALG_ID').
abbrev pub scheme_id : Scheme → ℕ
scheme_id Rsassa = 0x0014
scheme_id Rsapss = 0x0016
scheme_id Ecdsa = 0x0018

-- The scheme with this number.
abbrev pub scheme_with : ℕ → Option Scheme
scheme_with id = find (λ scheme. scheme_id scheme == id) (Rsassa ∷ Rsapss ∷ Ecdsa ∷ [])

-- ---- the numbers

-- The number of a signature by an RSA key, by RSASSA-PKCS1-v1_5 or by RSASSA-PSS; or the numbers r and s of one by ECDSA.
pub data TpmNumbers : Type 0 where
  RsassaNumber : List ℕ → TpmNumbers
  RsapssNumber : List ℕ → TpmNumbers
  EcdsaNumbers : List ℕ → List ℕ → TpmNumbers

abbrev pub scheme_of : TpmNumbers → Scheme
scheme_of (RsassaNumber number) = Rsassa
scheme_of (RsapssNumber number) = Rsapss
scheme_of (EcdsaNumbers r s) = Ecdsa

-- Their spelling (part 2, TPMS_SIGNATURE_RSA and TPMS_SIGNATURE_ECC, after the hash).
abbrev pub numbers_spelling : TpmNumbers → List ℕ
numbers_spelling (RsassaNumber number) = sized16 number
numbers_spelling (RsapssNumber number) = sized16 number
numbers_spelling (EcdsaNumbers r s) = sized16 r ++ sized16 s

-- Their lengths fit their fields.
abbrev pub AreNumbers : TpmNumbers → Type 0
AreNumbers (RsassaNumber number) = length number < 2 ^ 16
AreNumbers (RsapssNumber number) = length number < 2 ^ 16
AreNumbers (EcdsaNumbers r s) = (length r < 2 ^ 16) × (length s < 2 ^ 16)

-- ---- the signature

-- What a signature states: the hash of the message, and the numbers, which show the scheme.
pub record TpmSignature : Type 0 where
  pub hash : Alg
  pub numbers : TpmNumbers

-- How it is spelled (part 2, TPMT_SIGNATURE): the scheme, the hash, the numbers.
abbrev pub signature_spelling : TpmSignature → List ℕ
signature_spelling signature =
    to_be_bytes w16 (scheme_id (scheme_of signature.numbers)) ++ (to_be_bytes w16 (tpm_id_of signature.hash) ++ numbers_spelling signature.numbers)

-- The bytes are a signature that states this, and nothing else.
pub record IsSignature (bytes : List ℕ) (signature : TpmSignature) : Type 0 where
  pub numbers_are : AreNumbers signature.numbers
  pub spelled : bytes ≡ signature_spelling signature

-- ---- what contracts see of the code's values

abbrev pub numbers_of : SignatureNumbers → TpmNumbers
numbers_of (code.Rsassa number) = RsassaNumber number.now
numbers_of (code.Rsapss number) = RsapssNumber number.now
numbers_of (code.Ecdsa r s) = EcdsaNumbers r.now s.now

abbrev pub signature_of : Signature → TpmSignature
signature_of signature = record { hash = signature.hash; numbers = numbers_of signature.numbers }

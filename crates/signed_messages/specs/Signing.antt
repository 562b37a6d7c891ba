-- When a message is signed by a key.
use Rattle.std.specs.Prelude.{◌≡◌, ℕ, ◌⊎◌, List, Option, Some, None}
use Rattle.pcr_banks.specs.declared.alg.Alg.{Alg}
use Rattle.pcr_banks.specs.declared.alg.Alg.TheVariants as algs
use Rattle.signature_hashes.specs.declared.hashes.Hash.{Hash}
use Rattle.signature_hashes.specs.declared.hashes.Hash.TheVariants as hashes
use Rattle.rsa_signatures.specs.Pkcs1.{IsModulus, IsSigned}
use Rattle.rsa_signatures.specs.Pss.{IsFullModulus, IsSignedPss}
use Rattle.limb_numbers.specs.Bytes.{number_of}
use Rattle.ecdsa_signatures.specs.Curves.{parameters_of}
use Rattle.ecdsa_signatures.specs.Signing.{IsPublicKey}
use Rattle.ecdsa_signatures.specs.Signing as ecdsa
use Rattle.tpm_signatures.specs.Spelling.{IsSignature, TpmNumbers, RsassaNumber, RsapssNumber, EcdsaNumbers, TpmSignature}
use Rattle.signed_messages.specs.declared.key.RsaScheme.{RsaScheme}
use Rattle.signed_messages.specs.declared.key.RsaScheme.TheVariants.{Pkcs1, Pss}
use Rattle.signed_messages.specs.declared.key.SigningScheme.{SigningScheme}
use Rattle.signed_messages.specs.Keys.{EccKey, MessageKey, ByRsa, ByEcc, RsaKey}
use Rattle.signed_messages.specs.Plain.{IsPlain}

abbrev pub alg_of : Hash → Alg
alg_of hashes.Sha256 = algs.Sha256
alg_of hashes.Sha384 = algs.Sha384
alg_of hashes.Sha512 = algs.Sha512

-- ---- by an RSA key

-- The number is a signature of the message (RFC 8017, sections 8.2.2 and 8.1.2).
abbrev pub IsValid : RsaScheme → Hash → List ℕ → List ℕ → List ℕ → Type 0
IsValid Pkcs1 hash modulus message number = IsModulus modulus × IsSigned hash modulus message number
IsValid Pss hash modulus message number = IsFullModulus modulus × IsSignedPss hash modulus message number

-- The key takes signatures by this scheme: it is the key's, or nothing is known of that.
abbrev pub Takes : Option SigningScheme → SigningScheme → Type 0
Takes None scheme = Unit {0}
Takes (Some its) scheme = its ≡ scheme

abbrev pub numbers_by : RsaScheme → List ℕ → TpmNumbers
numbers_by Pkcs1 number = RsassaNumber number
numbers_by Pss number = RsapssNumber number

-- What a TPM states of a signature by this scheme with this number.
abbrev pub stated : SigningScheme → List ℕ → TpmSignature
stated scheme number = record { hash = alg_of scheme.hash; numbers = numbers_by scheme.kind number }

-- The bytes are a signature by this scheme with this number: the number alone, or as a TPM states it.
abbrev pub IsSpelled : SigningScheme → List ℕ → List ℕ → Type 0
IsSpelled scheme number bytes = (bytes ≡ number) ⊎ IsSignature bytes (stated scheme number)

-- The bytes are a signature of the message by this RSA key.
pub record IsSignedByRsa (key : RsaKey) (message bytes : List ℕ) : Type 0 where
  pub scheme : SigningScheme
  pub number : List ℕ
  pub taken : Takes key.scheme scheme
  pub spelled : IsSpelled scheme number bytes
  pub valid : IsValid scheme.kind scheme.hash key.modulus message number

-- ---- by a key on a curve

-- The numbers r and s are a signature of the message (FIPS 186-5, section 6.4.2).
abbrev pub IsValidEcdsa : EccKey → Hash → List ℕ → List ℕ → List ℕ → Type 0
IsValidEcdsa key hash message r s =
    IsPublicKey (parameters_of key.curve) (number_of key.x) (number_of key.y)
    × ecdsa.IsSigned (parameters_of key.curve) hash (number_of key.x) (number_of key.y) message (number_of r) (number_of s)

-- The key takes signatures with this hash: it is the key's, or nothing is known of that.
abbrev pub TakesEcdsa : Option Hash → Hash → Type 0
TakesEcdsa None hash = Unit {0}
TakesEcdsa (Some its) hash = its ≡ hash

-- What a TPM states of a signature by ECDSA with these numbers.
abbrev pub stated_ecdsa : Hash → List ℕ → List ℕ → TpmSignature
stated_ecdsa hash r s = record { hash = alg_of hash; numbers = EcdsaNumbers r s }

-- The bytes are a signature by ECDSA with these numbers: the numbers alone, or as a TPM states it.
abbrev pub IsSpelledEcdsa : Hash → List ℕ → List ℕ → List ℕ → Type 0
IsSpelledEcdsa hash r s bytes = IsPlain bytes r s ⊎ IsSignature bytes (stated_ecdsa hash r s)

-- The bytes are a signature of the message by this key on a curve.
pub record IsSignedByEcc (key : EccKey) (message bytes : List ℕ) : Type 0 where
  pub hash : Hash
  pub r : List ℕ
  pub s : List ℕ
  pub taken : TakesEcdsa key.hash hash
  pub spelled : IsSpelledEcdsa hash r s bytes
  pub valid : IsValidEcdsa key hash message r s

-- ---- by either

-- The bytes are a signature of the message by this key.
abbrev pub IsSignedBy : MessageKey → List ℕ → List ℕ → Type 0
IsSignedBy (ByRsa key) message bytes = IsSignedByRsa key message bytes
IsSignedBy (ByEcc key) message bytes = IsSignedByEcc key message bytes

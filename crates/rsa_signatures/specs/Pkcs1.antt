-- RSASSA-PKCS1-v1_5 (RFC 8017).
use Rattle.std.specs.Prelude.{◌≡◌, ℕ, ◌-◌, ◌<◌, ◌≤◌, List, [], ◌∷◌, ◌++◌, length, replicate, slice_index}
use Rattle.signature_hashes.specs.declared.hashes.Hash.{Hash}
use Rattle.signature_hashes.specs.declared.hashes.Hash.TheVariants.{Sha256, Sha384, Sha512}
use Rattle.signature_hashes.specs.Hashes.{digest_of}
use Rattle.limb_numbers.specs.Bytes.{number_of}
use Rattle.rsa_signatures.specs.Recovery.{recovered}

-- A modulus of 256 to 512 bytes, the first of them not 0: 2,041 to 4,096 bits.
pub record IsModulus (modulus : List ℕ) : Type 0 where
  pub enough : 256 ≤ length modulus
  pub few : length modulus ≤ 512
  pub first : 0 < slice_index modulus 0

-- What comes before the digest in the DER of a DigestInfo, whose algorithm has NULL as its parameters (section 9.2, note 1).
abbrev pub digest_prefix : Hash → List ℕ
digest_prefix Sha256 = 0x30 ∷ 0x31 ∷ 0x30 ∷ 0x0D ∷ 0x06 ∷ 0x09 ∷ 0x60 ∷ 0x86 ∷ 0x48 ∷ 0x01 ∷ 0x65 ∷ 0x03 ∷ 0x04 ∷ 0x02 ∷ 0x01 ∷ 0x05 ∷ 0x00 ∷ 0x04 ∷ 0x20 ∷ []
digest_prefix Sha384 = 0x30 ∷ 0x41 ∷ 0x30 ∷ 0x0D ∷ 0x06 ∷ 0x09 ∷ 0x60 ∷ 0x86 ∷ 0x48 ∷ 0x01 ∷ 0x65 ∷ 0x03 ∷ 0x04 ∷ 0x02 ∷ 0x02 ∷ 0x05 ∷ 0x00 ∷ 0x04 ∷ 0x30 ∷ []
digest_prefix Sha512 = 0x30 ∷ 0x51 ∷ 0x30 ∷ 0x0D ∷ 0x06 ∷ 0x09 ∷ 0x60 ∷ 0x86 ∷ 0x48 ∷ 0x01 ∷ 0x65 ∷ 0x03 ∷ 0x04 ∷ 0x02 ∷ 0x03 ∷ 0x05 ∷ 0x00 ∷ 0x04 ∷ 0x40 ∷ []

-- A DigestInfo padded to `size` bytes, at least 11 more than it has (section 9.2, EMSA-PKCS1-v1_5).
abbrev pub padded : ℕ → List ℕ → List ℕ
padded size info = 0x00 ∷ 0x01 ∷ (replicate (size - length info - 3) 0xFF ++ (0x00 ∷ info))

-- The signature gives the padded digest.
pub record Opens (hash : Hash) (digest modulus signature : List ℕ) : Type 0 where
  pub below : number_of signature < number_of modulus
  pub encoding : recovered modulus signature ≡ padded (length modulus) (digest_prefix hash ++ digest)

-- The signature of the message is valid (section 8.2.2, RSASSA-PKCS1-V1_5-VERIFY).
pub record IsSigned (hash : Hash) (modulus message signature : List ℕ) : Type 0 where
  pub size : length signature ≡ length modulus
  pub opens : Opens hash (digest_of hash message) modulus signature

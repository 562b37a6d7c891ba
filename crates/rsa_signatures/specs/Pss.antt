-- RSASSA-PSS with MGF1, both by one hash function (RFC 8017).
use Rattle.std.specs.Prelude.{ℕ, ◌+◌, ◌-◌, ◌/◌, ◌%◌, ◌≡◌, ◌<◌, ◌≤◌, ◌==◌, Bool, not, Option, Some, None, List, [], ◌∷◌, ◌++◌, length, take, replicate, position, slice_index, slice_set, slice_range, bit_xor}
use Rattle.std.specs.Int.{w32, to_be_bytes}
use Rattle.signature_hashes.specs.declared.hashes.Hash.{Hash}
use Rattle.signature_hashes.specs.Hashes.{digest_of, digest_size}
use Rattle.limb_numbers.specs.Bytes.{number_of}
use Rattle.rsa_signatures.specs.Recovery.{recovered}

-- A modulus of 256 to 512 bytes whose first bit is set: 2,048, 2,056 .. 4,096 bits.
pub record IsFullModulus (modulus : List ℕ) : Type 0 where
  pub enough : 256 ≤ length modulus
  pub few : length modulus ≤ 512
  pub first : 128 ≤ slice_index modulus 0

-- ---- the mask

-- Block `counter` of the mask that MGF1 makes of a seed (appendix B.2.1).
unfoldable pub mask_block : Hash → List ℕ → ℕ → List ℕ
mask_block hash seed counter = digest_of hash (seed ++ to_be_bytes w32 counter)

-- Byte `place` of the mask.
abbrev pub mask_byte : Hash → List ℕ → ℕ → ℕ
mask_byte hash seed place = slice_index (mask_block hash seed (place / digest_size hash)) (place % digest_size hash)

-- Masked bytes without their mask, from this place on (section 9.1.2, steps 7 and 8).
unfoldable pub unmasked : Hash → List ℕ → ℕ → List ℕ → List ℕ
unmasked hash seed place [] = []
unmasked hash seed place (byte ∷ bytes) = bit_xor byte (mask_byte hash seed place) ∷ unmasked hash seed (place + 1) bytes

-- Bytes whose first bit is made 0 (step 9).
abbrev pub without_first_bit : List ℕ → List ℕ
without_first_bit bytes = slice_set bytes 0 (slice_index bytes 0 % 128)

-- ---- the salt

abbrev pub is_set : ℕ → Bool
is_set byte = not (byte == 0)

-- What the first byte of a data block that is not 0, at this place, says: it is 1, and with the salt after it the digest is the expected one
-- (steps 10 to 14).
abbrev pub IsSalted : Hash → List ℕ → List ℕ → List ℕ → Option ℕ → Type 0
IsSalted hash digest expected block None = ⊥
IsSalted hash digest expected block (Some place) =
    (slice_index block place ≡ 1)
    × (expected ≡ digest_of hash (replicate 8 0 ++ digest ++ slice_range block (place + 1) (length block)))

-- ---- the signature

-- These bytes, by a key whose modulus is full, are consistent with a message of this digest and a salt of any length (section 9.1.2,
-- EMSA-PSS-VERIFY). The first bit alone is not used.
pub record IsEncoded (hash : Hash) (digest encoded : List ℕ) : Type 0 where
  pub last : slice_index encoded (length encoded - 1) ≡ 0xBC
  pub first : slice_index encoded 0 < 128
  pub salted :
      let size = length encoded - digest_size hash - 1 in
      let expected = slice_range encoded size (length encoded - 1) in
      let block = without_first_bit (unmasked hash expected 0 (take size encoded)) in
      IsSalted hash digest expected block (position is_set block)

-- The signature gives a message that is encoded with this digest.
pub record OpensPss (hash : Hash) (digest modulus signature : List ℕ) : Type 0 where
  pub below : number_of signature < number_of modulus
  pub encoding : IsEncoded hash digest (recovered modulus signature)

-- The signature of the message is valid (section 8.1.2, RSASSA-PSS-VERIFY).
pub record IsSignedPss (hash : Hash) (modulus message signature : List ℕ) : Type 0 where
  pub size : length signature ≡ length modulus
  pub opens : OpensPss hash (digest_of hash message) modulus signature

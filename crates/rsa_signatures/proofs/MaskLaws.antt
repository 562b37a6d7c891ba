-- The mask of an encoded message, byte by byte.
use Rattle.std.proofs.Common.{◌≡◌, ℕ, suc, zero, ◌+◌, ◌/◌, ◌%◌, ◌<◌, List, [], ◌∷◌, ◌++◌, length, get_or, bit_xor, refl, sym, ap, ◌∙◌, append-nil, add-zero, arith}
use Rattle.std.specs.Int.{w32, to_be_bytes}
use Rattle.signature_hashes.specs.declared.hashes.Hash.{Hash}
use Rattle.signature_hashes.specs.declared.hashes.Hash.TheVariants.{Sha256, Sha384, Sha512}
use Rattle.signature_hashes.specs.Hashes.{digest_of, digest_size}
use Rattle.rsa_signatures.specs.Pss.{mask_block, mask_byte, unmasked}

-- The digest of the seed and a counter is the counter's block.
pub block_is : (hash : Hash) (seed counter digest : List ℕ) (place size : ℕ) → size ≡ digest_size hash → counter ≡ to_be_bytes w32 (place / size)
    → digest ≡ digest_of hash (seed ++ counter ++ []) → digest ≡ mask_block hash seed (place / digest_size hash)
unfolding mask_block
block_is hash seed counter digest place size s b d =
    d
    ∙ ap (λ x. digest_of hash x) (append-nil (seed ++ counter))
    ∙ ap (λ x. digest_of hash (seed ++ x)) (b ∙ ap (λ x. to_be_bytes w32 (place / x)) s)

-- Within a block the next place has the same block.
pub same_block : (hash : Hash) (place : ℕ) → 0 < (place + 1) % digest_size hash → (place + 1) / digest_size hash ≡ place / digest_size hash
same_block Sha256 place h = omega arith
same_block Sha384 place h = omega arith
same_block Sha512 place h = omega arith

pub get_or-unmasked : (hash : Hash) (seed : List ℕ) (place : ℕ) (xs : List ℕ) (i : ℕ) → i < length xs
    → get_or (unmasked hash seed place xs) i 0 ≡ bit_xor (get_or xs i 0) (mask_byte hash seed (place + i))
unfolding unmasked
get_or-unmasked hash seed place [] i h = absurd (omega arith)
get_or-unmasked hash seed place (x ∷ xs) zero h = ap (λ t. bit_xor x (mask_byte hash seed t)) (sym (add-zero place))
get_or-unmasked hash seed place (x ∷ xs) (suc i) h =
    let e : place + 1 + i ≡ place + suc i = omega arith in
    get_or-unmasked hash seed (place + 1) xs i (omega arith) ∙ ap (λ t. bit_xor (get_or xs i 0) (mask_byte hash seed t)) e

pub length-unmasked : (hash : Hash) (seed : List ℕ) (place : ℕ) (xs : List ℕ) → length (unmasked hash seed place xs) ≡ length xs
unfolding unmasked
length-unmasked hash seed place [] = refl
length-unmasked hash seed place (x ∷ xs) = ap suc (length-unmasked hash seed (place + 1) xs)

-- The registers: their reset values, and what an extend does to them.
use Rattle.std.specs.Prelude.{◌≡◌, ℕ, ◌-◌, ◌&&◌, Bool, if◌then◌else◌, ◌==◌, nat_lt, nat_le, List, [], ◌∷◌, ◌++◌, replicate, slice_get, fold, Option, Some, None, is_some, option_map, option_and_then}
use Rattle.pcr_banks.specs.declared.alg.Alg.{Alg}
use Rattle.pcr_banks.specs.declared.alg.Alg.TheVariants.{Sha1, Sha256, Sha384, Sha512}
use Rattle.pcr_banks.specs.declared.banks.Banks.{Banks}
use Rattle.pcr_banks.specs.declared.sets.AlgSet.{AlgSet}
use Rattle.pcr_banks.specs.declared.sets.PerBank.{PerBank}
use Rattle.pcr_banks.specs.Hashing.{hash_of, size_of}
use Rattle.pcr_banks.specs.Sets.{has_alg, digest_in}

-- How many registers a bank has, numbered from 0 (PC Client Platform TPM Profile, 'PCR Attributes').
abbrev pub register_count : ℕ
register_count = 24

-- The reset value of a register of `size` bytes, after a start from the locality: PCR 0 is zero but for its last byte, which is
-- the locality; PCR 17 to 22, which a dynamic launch resets, have all bits set; all others are zero (PC Client Platform TPM
-- Profile, 'PCR Initial and Reset Values'; for PCR 0 also the PC Client Platform Firmware Profile, 'Startup Locality Event').
abbrev pub reset_bytes : ℕ → ℕ → ℕ → List ℕ
reset_bytes size register locality =
    if register == 0 then replicate (size - 1) 0 ++ locality ∷ []
    else if nat_le 17 register && nat_le register 22 then replicate size 255
    else replicate size 0

-- The reset value of a register of the algorithm's bank, after a start from the locality.
abbrev pub reset_value : Alg → ℕ → ℕ → List ℕ
reset_value alg register locality = reset_bytes (size_of alg) register locality

-- The value after an extend: the hash of the old value followed by the digest
-- (TPM 2.0 Library, part 1, 'Extend of a PCR').
abbrev pub extended_value : Alg → List ℕ → List ℕ → List ℕ
extended_value alg old digest = hash_of alg (old ++ digest)

-- The registers of the algorithm's bank, where it is active.
abbrev pub bank_of : Banks → Alg → Option (List (List ℕ))
bank_of banks Sha1 = banks.sha1
bank_of banks Sha256 = banks.sha256
bank_of banks Sha384 = banks.sha384
bank_of banks Sha512 = banks.sha512

abbrev pub is_active : Banks → Alg → Bool
is_active banks alg = is_some (bank_of banks alg)

-- The value of a bank's register, where both exist.
abbrev pub in_bank : Option (List (List ℕ)) → ℕ → Option (List ℕ)
in_bank bank register =
    if nat_lt register register_count then option_and_then (λ registers. slice_get registers register) bank
    else None

-- The value of a register, where its bank is active and the register exists.
abbrev pub value_at : Banks → Alg → ℕ → Option (List ℕ)
value_at banks alg register = in_bank (bank_of banks alg) register

-- The active banks are those of these algorithms, and each register has its reset value after a start from the locality.
pub record IsReset (algs : AlgSet) (locality : ℕ) (banks : Banks) : Type 0 where
  pub active : (a : Alg) → is_active banks a ≡ has_alg algs a
  pub values : (a : Alg) (r : ℕ) → value_at banks a r
      ≡ (if has_alg algs a && nat_lt r register_count then Some (reset_value a r locality) else None)

-- The value after an extend by the digest, or the old one where there is no digest.
abbrev pub extended_by : Alg → Option (List ℕ) → List ℕ → List ℕ
extended_by alg None old = old
extended_by alg (Some digest) old = extended_value alg old digest

-- One bank before and after an extend of a register by the digest: no other register changes.
pub record ExtendsBank (alg : Alg) (old new : Option (List (List ℕ))) (register : ℕ) (digest : Option (List ℕ)) : Type 0 where
  pub active : is_some new ≡ is_some old
  pub values : (r : ℕ) → in_bank new r
      ≡ (if r == register then option_map (extended_by alg digest) (in_bank old r) else in_bank old r)

-- All banks before and after an extend of a register, each by its digest among these.
pub record Extends (old new : Banks) (register : ℕ) (digests : PerBank) : Type 0 where
  pub banks : (a : Alg) → ExtendsBank a (bank_of old a) (bank_of new a) register (digest_in digests a)

-- The value, extended by each digest in order.
abbrev pub extended_by_all : Alg → List ℕ → List (List ℕ) → List ℕ
extended_by_all alg value digests = fold (extended_value alg) value digests

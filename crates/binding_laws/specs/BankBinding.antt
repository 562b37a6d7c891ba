-- What a register's value tells about the digests that it was extended by.
use Rattle.std.specs.Prelude.{◌≡◌, ◌⊎◌, ℕ, ◌<◌, List, ◌∷◌, ◌++◌, length}
use Rattle.pcr_banks.specs.declared.alg.Alg.{Alg}
use Rattle.pcr_banks.specs.Names.{extended_by_all, hash_of}

-- ---- bytes that break a hash

-- There are more byte strings than hashes, so some two always have the same hash. These two records therefore take as parameters
-- which byte strings they are about.

-- Two different byte strings with the same hash: the first is an `IsFirst`, the second an `IsSecond`.
pub record Collision (alg : Alg) (IsFirst IsSecond : List ℕ → Type 0) : Type 0 where
  pub first : List ℕ
  pub second : List ℕ
  pub first_kind : IsFirst first
  pub second_kind : IsSecond second
  pub different : first ≡ second → ⊥
  pub one_hash : hash_of alg first ≡ hash_of alg second

-- A byte string of this kind whose hash is this value.
pub record Preimage (alg : Alg) (IsKind : List ℕ → Type 0) (value : List ℕ) : Type 0 where
  pub bytes : List ℕ
  pub kind : IsKind bytes
  pub hash_is : hash_of alg bytes ≡ value

-- ---- the extends of a register

-- One of the extends, in order, of `value` by `digests` hashes these bytes: the value before it, followed by its digest.
pub record IsExtendInput (alg : Alg) (value : List ℕ) (digests : List (List ℕ)) (bytes : List ℕ) : Type 0 where
  pub before : List (List ℕ)
  pub digest : List ℕ
  pub after : List (List ℕ)
  pub parts : digests ≡ before ++ digest ∷ after
  pub joined : bytes ≡ extended_by_all alg value before ++ digest

-- Two runs of extends, from `value` by `digests` and from `other` by `others`, break the hash: something that one run hashes
-- collides with something that the other hashes; or, only where one list is longer, one of its extends hashes to the value from
-- which the other run starts.
abbrev pub ExtendsBreakHash : Alg → List ℕ → List (List ℕ) → List ℕ → List (List ℕ) → Type 0
ExtendsBreakHash alg value digests other others =
    Collision alg (IsExtendInput alg value digests) (IsExtendInput alg other others)
    ⊎ (((length others < length digests) × Preimage alg (IsExtendInput alg value digests) other)
    ⊎ ((length digests < length others) × Preimage alg (IsExtendInput alg other others) value))

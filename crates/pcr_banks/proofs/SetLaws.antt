-- Sets of algorithms, and digests by bank, are determined by what they have for each algorithm.
use Rattle.std.proofs.Common.{rules, ◌≡◌, ℕ, Bool, List, Option, Some, None, refl, sym, ap, ◌∙◌}
use Rattle.std.specs.Prelude.{option_map}
use Rattle.pcr_banks.specs.declared.alg.Alg.{Alg}
use Rattle.pcr_banks.specs.declared.alg.Alg.TheVariants.{Sha1, Sha256, Sha384, Sha512}
use Rattle.pcr_banks.specs.declared.sets.AlgSet.{AlgSet}
use Rattle.pcr_banks.specs.declared.sets.PerBank.{PerBank}
use Rattle.pcr_banks.specs.declared.digest.Digest.{Digest}
use Rattle.pcr_banks.specs.declared.digest.Digest.TheVariants as digests
use Rattle.pcr_banks.specs.Names.{alg_of, algs_where, bytes_of, digest_for, digest_in, digest_of, has_alg, per_bank}
use Rattle.pcr_banks.proofs.AlgLaws.{every_alg}

-- A set is determined by the algorithms that it has.
pub algs_are : (algs : AlgSet) (test : Alg → Bool) → ((alg : Alg) → has_alg algs alg ≡ test alg) → algs ≡ algs_where test
algs_are algs test same = rw (← same Sha1, ← same Sha256, ← same Sha384, ← same Sha512) refl

-- The set of the algorithms that pass a test has exactly these.
pub has_where : (test : Alg → Bool) (alg : Alg) → has_alg (algs_where test) alg ≡ test alg
has_where test = every_alg _ (search rules)

pub bytes_again : (alg : Alg) (bytes : List ℕ) → bytes_of (digest_of alg bytes) ≡ bytes
bytes_again = every_alg _ (search rules)

-- A digest is determined by its algorithm and its bytes.
pub digest_again : (digest : Digest) → digest_of (alg_of digest) (bytes_of digest) ≡ digest
digest_again (digests.Sha1 bytes) = refl
digest_again (digests.Sha256 bytes) = refl
digest_again (digests.Sha384 bytes) = refl
digest_again (digests.Sha512 bytes) = refl

pub same_bytes : (alg : Alg) (bytes : Option (List ℕ)) → option_map bytes_of (option_map (digest_of alg) bytes) ≡ bytes
same_bytes alg None = refl
same_bytes alg (Some bytes) = ap (λ (b : List ℕ). Some b) (bytes_again alg bytes)

-- Bytes, if any, are determined by the digest of an algorithm that has them.
same_by_digest : (alg : Alg) (first second : Option (List ℕ)) → option_map (digest_of alg) first ≡ option_map (digest_of alg) second
    → first ≡ second
same_by_digest alg first second same = sym (same_bytes alg first) ∙ ap (option_map bytes_of) same ∙ same_bytes alg second

-- The digests that a function gives, algorithm by algorithm.
pub digest_of_bank : (bytes : Alg → Option (List ℕ)) (alg : Alg) → digest_in (per_bank bytes) alg ≡ bytes alg
digest_of_bank bytes = every_alg _ (search rules)

-- Digests are those of a function where each has the bytes that the function gives.
bytes_are : (digests : PerBank) (bytes : Alg → Option (List ℕ)) → ((alg : Alg) → digest_in digests alg ≡ bytes alg)
    → digests ≡ per_bank bytes
bytes_are digests bytes same = rw (← same Sha1, ← same Sha256, ← same Sha384, ← same Sha512) refl

-- Digests are those of a function where each is what the function gives.
pub per_bank_is : (digests : PerBank) (bytes : Alg → Option (List ℕ))
    → ((alg : Alg) → digest_for digests alg ≡ option_map (digest_of alg) (bytes alg)) → digests ≡ per_bank bytes
per_bank_is digests bytes same = bytes_are digests bytes (λ alg. same_by_digest alg (digest_in digests alg) (bytes alg) (same alg))

-- Sets that have the same algorithms are the same.
pub same_algs : (first second : AlgSet) → ((alg : Alg) → has_alg first alg ≡ has_alg second alg) → first ≡ second
same_algs first second same = algs_are first (has_alg second) same

-- Digests that agree for each algorithm are the same.
pub same_digests : (first second : PerBank) → ((alg : Alg) → digest_for first alg ≡ digest_for second alg) → first ≡ second
same_digests first second same = per_bank_is first (digest_in second) same

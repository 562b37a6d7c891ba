-- Sets of algorithms, and at most one digest for each algorithm.
use Rattle.std.specs.Prelude.{ℕ, Bool, List, Option, option_map}
use Rattle.pcr_banks.specs.declared.alg.Alg.{Alg}
use Rattle.pcr_banks.specs.declared.alg.Alg.TheVariants.{Sha1, Sha256, Sha384, Sha512}
use Rattle.pcr_banks.specs.declared.digest.Digest.{Digest}
use Rattle.pcr_banks.specs.declared.sets.AlgSet.{AlgSet}
use Rattle.pcr_banks.specs.declared.sets.PerBank.{PerBank}
use Rattle.pcr_banks.specs.Digests.{digest_of}

-- Whether the set has the algorithm.
abbrev pub has_alg : AlgSet → Alg → Bool
has_alg set Sha1 = set.sha1
has_alg set Sha256 = set.sha256
has_alg set Sha384 = set.sha384
has_alg set Sha512 = set.sha512

-- The set of the algorithms that pass the test.
abbrev pub algs_where : (Alg → Bool) → AlgSet
algs_where test = record { sha1 = test Sha1; sha256 = test Sha256; sha384 = test Sha384; sha512 = test Sha512 }

-- The bytes of the algorithm's digest, where there is one.
abbrev pub digest_in : PerBank → Alg → Option (List ℕ)
digest_in digests Sha1 = digests.sha1
digest_in digests Sha256 = digests.sha256
digest_in digests Sha384 = digests.sha384
digest_in digests Sha512 = digests.sha512

-- The algorithm's digest, where there is one.
abbrev pub digest_for : PerBank → Alg → Option Digest
digest_for digests alg = option_map (digest_of alg) (digest_in digests alg)

-- For each algorithm the digest with the bytes that the function gives, where it gives any.
abbrev pub per_bank : (Alg → Option (List ℕ)) → PerBank
per_bank bytes = record { sha1 = bytes Sha1; sha256 = bytes Sha256; sha384 = bytes Sha384; sha512 = bytes Sha512 }

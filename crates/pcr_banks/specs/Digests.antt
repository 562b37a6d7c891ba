-- A digest: an algorithm, and as many bytes as its hash has.
use Rattle.std.specs.Prelude.{ℕ, List}
use Rattle.pcr_banks.specs.declared.alg.Alg.{Alg}
use Rattle.pcr_banks.specs.declared.alg.Alg.TheVariants as algs
use Rattle.pcr_banks.specs.declared.digest.Digest.{Digest}
use Rattle.pcr_banks.specs.declared.digest.Digest.TheVariants as digests

abbrev pub alg_of : Digest → Alg
alg_of (digests.Sha1 bytes) = algs.Sha1
alg_of (digests.Sha256 bytes) = algs.Sha256
alg_of (digests.Sha384 bytes) = algs.Sha384
alg_of (digests.Sha512 bytes) = algs.Sha512

abbrev pub bytes_of : Digest → List ℕ
bytes_of (digests.Sha1 bytes) = bytes
bytes_of (digests.Sha256 bytes) = bytes
bytes_of (digests.Sha384 bytes) = bytes
bytes_of (digests.Sha512 bytes) = bytes

-- The digest of this algorithm with these bytes.
abbrev pub digest_of : Alg → List ℕ → Digest
digest_of algs.Sha1 bytes = digests.Sha1 bytes
digest_of algs.Sha256 bytes = digests.Sha256 bytes
digest_of algs.Sha384 bytes = digests.Sha384 bytes
digest_of algs.Sha512 bytes = digests.Sha512 bytes

-- The hash functions of signatures (FIPS 180-4).
use Rattle.std.specs.Prelude.{ℕ, List}
use Rattle.sha2.specs.Sha256.{sha256}
use Rattle.sha2.specs.Sha512.{sha384, sha512}
use Rattle.signature_hashes.specs.declared.hashes.Hash.{Hash}
use Rattle.signature_hashes.specs.declared.hashes.Hash.TheVariants.{Sha256, Sha384, Sha512}

-- How many bytes a digest has.
abbrev pub digest_size : Hash → ℕ
digest_size Sha256 = 32
digest_size Sha384 = 48
digest_size Sha512 = 64

-- The digest of a message.
abbrev pub digest_of : Hash → List ℕ → List ℕ
digest_of Sha256 message = sha256 message
digest_of Sha384 message = sha384 message
digest_of Sha512 message = sha512 message

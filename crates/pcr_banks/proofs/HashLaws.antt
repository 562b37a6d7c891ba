-- A hash has as many bytes as its algorithm says.
use Rattle.std.proofs.Common.{rules, ◌≡◌, ℕ, List, length}
use Rattle.sha1.specs.Sha1 as sha1
use Rattle.sha2.specs.Sha256 as sha256
use Rattle.sha2.specs.Sha512 as sha512
use Rattle.pcr_banks.specs.declared.alg.Alg.{Alg}
use Rattle.pcr_banks.specs.Names.{hash_of, size_of}
use Rattle.pcr_banks.proofs.AlgLaws.{every_alg}

pub hash_size : (alg : Alg) (bytes : List ℕ) → length (hash_of alg bytes) ≡ size_of alg
unfolding sha1.sha1 sha1.digest_bytes sha256.sha256 sha256.digest_bytes sha512.sha384 sha512.sha512 sha512.digest_bytes
hash_size = every_alg _ (search rules)

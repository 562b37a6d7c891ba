-- What code holds of a value that may lack.
use Rattle.std.proofs.Common.{◌≡◌, ℕ, List, Option, Some, None, refl}
use Rattle.std.specs.Prelude.{option_map}
use Rattle.pcr_banks.specs.declared.alg.Alg.{Alg}
use Rattle.pcr_banks.specs.declared.alg.Alg.TheVariants as algs
use Rattle.pcr_banks.specs.declared.digest.Digest.{Digest}
use Rattle.pcr_banks.specs.declared.digest.Digest.TheVariants as digests
use Rattle.pcr_banks.specs.Names.{bytes_of, digest_of}

pub none_is : (alg : Alg) (value : Option (List ℕ)) → option_map (digest_of alg) value ≡ None → value ≡ None
none_is alg None is = refl
none_is alg (Some value) is = absurd (cc)

pub some_is : (alg : Alg) (value : Option (List ℕ)) (digest : Digest) → option_map (digest_of alg) value ≡ Some digest
    → value ≡ Some (bytes_of digest)
some_is algs.Sha1 (Some value) digest is = let same : digest ≡ digests.Sha1 value = cc in rw same refl
some_is algs.Sha256 (Some value) digest is = let same : digest ≡ digests.Sha256 value = cc in rw same refl
some_is algs.Sha384 (Some value) digest is = let same : digest ≡ digests.Sha384 value = cc in rw same refl
some_is algs.Sha512 (Some value) digest is = let same : digest ≡ digests.Sha512 value = cc in rw same refl
some_is alg None digest is = absurd (cc)

-- The hash algorithms of the banks: their hashes, their sizes, and how the TPM and texts name them.
use Rattle.std.specs.Prelude.{ℕ, Bool, ◌==◌, List, [], ◌∷◌, codes, find, Option}
use Rattle.sha1.specs.Sha1.{sha1}
use Rattle.sha2.specs.Sha256.{sha256}
use Rattle.sha2.specs.Sha512.{sha384, sha512}
use Rattle.pcr_banks.specs.declared.alg.Alg.{Alg}
use Rattle.pcr_banks.specs.declared.alg.Alg.TheVariants.{Sha1, Sha256, Sha384, Sha512}

-- The hash of the bytes by the algorithm (FIPS 180-4, sections 6.1, 6.2, 6.5 and 6.4).
abbrev pub hash_of : Alg → List ℕ → List ℕ
hash_of Sha1 bytes = sha1 bytes
hash_of Sha256 bytes = sha256 bytes
hash_of Sha384 bytes = sha384 bytes
hash_of Sha512 bytes = sha512 bytes

-- A row of the table of algorithms: the size of a hash in bytes (FIPS 180-4, section 1, figure 1: message digest size), the
-- TPM_ALG_ID (TCG Algorithm Registry, 'TPM_ALG_ID'), and the name in texts, in lower case as in the Linux kernel's crypto API.
pub record AlgRow : Type 0 where
  pub size : ℕ
  pub tpm_id : ℕ
  pub name : List ℕ

abbrev pub row_of : Alg → AlgRow
row_of Sha1 = record { size = 20; tpm_id = 0x0004; name = codes "sha1" }
row_of Sha256 = record { size = 32; tpm_id = 0x000B; name = codes "sha256" }
row_of Sha384 = record { size = 48; tpm_id = 0x000C; name = codes "sha384" }
row_of Sha512 = record { size = 64; tpm_id = 0x000D; name = codes "sha512" }

abbrev pub size_of : Alg → ℕ
size_of alg = (row_of alg).size

abbrev pub tpm_id_of : Alg → ℕ
tpm_id_of alg = (row_of alg).tpm_id

abbrev pub name_of : Alg → List ℕ
name_of alg = (row_of alg).name

-- All algorithms, in order.
abbrev pub all_algs : List Alg
all_algs = Sha1 ∷ Sha256 ∷ Sha384 ∷ Sha512 ∷ []

-- The known algorithm with this identifier.
abbrev pub algorithm_with : ℕ → Option Alg
algorithm_with id = find (λ alg. tpm_id_of alg == id) all_algs

-- Whether two algorithms are the same: they have the same identifier.
abbrev pub same_alg : Alg → Alg → Bool
same_alg a b = tpm_id_of a == tpm_id_of b

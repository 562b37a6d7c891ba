-- What `==` computes for algorithms, digests and banks: true exactly where the two are the same value
-- (`proofs/EqualityLaws.antt`).
use Rattle.std.specs.Prelude.{ℕ, Bool, List, Option, ◌&&◌, ◌==◌, bytes_eq}
use Rattle.std.specs.Option.{option_eq}
use Rattle.std.specs.Cmp.Lexicographic.{pointwise}
use denote.Enum.Bare.{sameb}
use Rattle.pcr_banks.specs.declared.alg.Alg.{Alg}
use Rattle.pcr_banks.specs.contracts.alg.Alg as algs
use Rattle.pcr_banks.specs.declared.digest.Digest.{Digest}
use Rattle.pcr_banks.specs.declared.banks.Banks.{Banks}
use Rattle.pcr_banks.specs.Hashing.{same_alg}
use Rattle.pcr_banks.specs.Digests.{alg_of, bytes_of}

-- Algorithms are equal where they are the same variant.
abbrev pub same_variant : Alg → Alg → Bool
same_variant x y = sameb algs.the_type x y

-- Digests are equal where their algorithms and their bytes are.
abbrev pub same_digest : Digest → Digest → Bool
same_digest x y = same_alg (alg_of x) (alg_of y) && bytes_eq (bytes_of x) (bytes_of y)

-- The registers of a bank are compared one after another, byte by byte.
abbrev pub same_registers : List (List ℕ) → List (List ℕ) → Bool
same_registers x y = pointwise (pointwise (λ a b. a == b)) x y

abbrev pub same_bank : Option (List (List ℕ)) → Option (List (List ℕ)) → Bool
same_bank x y = option_eq same_registers x y

-- Banks are compared algorithm by algorithm.
abbrev pub same_banks : Banks → Banks → Bool
same_banks x y =
    same_bank x.sha1 y.sha1 && (same_bank x.sha256 y.sha256 && (same_bank x.sha384 y.sha384 && same_bank x.sha512 y.sha512))

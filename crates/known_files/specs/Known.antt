-- Files that are known by their digests.
use Rattle.std.specs.Prelude.{◌≡◌, ℕ, List, [], ◌++◌, Bool, Some, length, bytes_eq, option_to_list}
use Rattle.std.specs.List.{list_any}
use Rattle.pcr_banks.specs.declared.alg.Alg.{Alg}
use Rattle.pcr_banks.specs.declared.alg.Alg.TheVariants.{Sha1, Sha256, Sha384, Sha512}
use Rattle.pcr_banks.specs.declared.digest.Digest.{Digest}
use Rattle.pcr_banks.specs.Names.{alg_of, bytes_of}
use Rattle.known_files.specs.declared.known.KnownFiles.{KnownFiles}
use Rattle.known_files.specs.declared.listed.ListedFiles.{ListedFiles}
use Rattle.known_files.specs.Listing.{bytes_by, is_listed, said_by}

-- ---- digests that are collected

-- The digests by an algorithm.
abbrev pub digests_in : ListedFiles → Alg → List (List ℕ)
digests_in files Sha1 = []
digests_in files Sha256 = files.sha256.items
digests_in files Sha384 = files.sha384.items
digests_in files Sha512 = files.sha512.items

-- Whether the digest is among them.
abbrev pub is_among : Digest → ListedFiles → Bool
is_among digest files = list_any (bytes_eq (bytes_of digest)) (digests_in files (alg_of digest))

-- The digests are those that the texts list.
abbrev pub HoldsAll : List (List ℕ) → ListedFiles → Type 0
HoldsAll texts files = (digest : Digest) → is_among digest files ≡ is_listed texts digest

-- Both have the same digests.
abbrev pub HoldsSame : ListedFiles → ListedFiles → Type 0
HoldsSame old new = (alg : Alg) → digests_in new alg ≡ digests_in old alg

-- ---- as texts are read

-- `new` is `old` with the digests of these lines.
abbrev pub AddsLines : ListedFiles → List (List ℕ) → ListedFiles → Type 0
AddsLines old lines new = (alg : Alg) → digests_in new alg ≡ digests_in old alg ++ said_by alg lines

-- `new` is `old` with further digests.
abbrev pub HoldsMore : ListedFiles → ListedFiles → Type 0
HoldsMore old new = (alg : Alg) → (more : List (List ℕ)) × (digests_in new alg ≡ digests_in old alg ++ more)

-- `new` is `old` with this digest.
abbrev pub AddsDigest : ListedFiles → Digest → ListedFiles → Type 0
AddsDigest old digest new = (alg : Alg) → digests_in new alg ≡ digests_in old alg ++ option_to_list (bytes_by alg (Some digest))

-- How many digests there are by each algorithm.
abbrev pub counts_of : ListedFiles → ℕ × ℕ × ℕ
counts_of files = (length files.sha256.items, length files.sha384.items, length files.sha512.items)

-- ---- files that are known

-- The digests by an algorithm, in order.
abbrev pub known_digests : KnownFiles → Alg → List (List ℕ)
known_digests known Sha1 = []
known_digests known Sha256 = known.sha256
known_digests known Sha384 = known.sha384
known_digests known Sha512 = known.sha512

-- Whether the digest is among them.
abbrev pub has : KnownFiles → Digest → Bool
has known digest = list_any (bytes_eq (bytes_of digest)) (known_digests known (alg_of digest))

-- The known files are those whose digests the texts list.
abbrev pub Knows : List (List ℕ) → KnownFiles → Type 0
Knows texts known = (digest : Digest) → has known digest ≡ is_listed texts digest

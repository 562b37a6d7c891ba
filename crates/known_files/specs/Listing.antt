-- Texts of lines that say digests, and what they list.
use Rattle.std.specs.Prelude.{◌≡◌, ◌⊎◌, ℕ, ◌+◌, ◌==◌, Bool, if◌then◌else◌, List, [], ◌∷◌, ◌++◌, length, bytes_eq, Option, Some, None}
use Rattle.std.specs.List.{AllByRecursion, filter_map, list_any}
use Rattle.pcr_banks.specs.declared.alg.Alg.{Alg}
use Rattle.pcr_banks.specs.declared.alg.Alg.TheVariants as algs
use Rattle.pcr_banks.specs.declared.digest.Digest.{Digest}
use Rattle.pcr_banks.specs.Names.{alg_of, bytes_of, same_alg}
use Rattle.known_files.specs.declared.fault.KnownFault.{KnownFault}
use Rattle.known_files.specs.declared.fault.KnownFault.TheVariants.{Malformed, Memory, WeakHash}
use Rattle.known_files.specs.DigestLines.{IsDigestLine, digest_on}

-- ---- lines

-- The lines, with this byte put before the first one.
abbrev pub onto_first : ℕ → List (List ℕ) → List (List ℕ)
onto_first byte [] = (byte ∷ []) ∷ []
onto_first byte (line ∷ lines) = (byte ∷ line) ∷ lines

-- The lines of a text, without their line feeds. The last may lack its own; an empty text has none.
abbrev pub lines_of : List ℕ → List (List ℕ)
lines_of [] = []
lines_of (byte ∷ text) = if byte == 10 then [] ∷ lines_of text else onto_first byte (lines_of text)

-- ---- what texts list

-- One of the lines says this digest.
abbrev pub OneSays : List (List ℕ) → Digest → Type 0
OneSays [] digest = ⊥
OneSays (line ∷ lines) digest = IsDigestLine line digest ⊎ OneSays lines digest

-- A line of the text says this digest.
abbrev pub Lists : List ℕ → Digest → Type 0
Lists text digest = OneSays (lines_of text) digest

-- One of the texts lists this digest.
abbrev pub IsListed : List (List ℕ) → Digest → Type 0
IsListed [] digest = ⊥
IsListed (text ∷ texts) digest = Lists text digest ⊎ IsListed texts digest

-- ---- the same as a test; that both agree is a clause of `KnownFiles::has`

-- The digest's bytes, if it is by this algorithm.
abbrev pub bytes_by : Alg → Option Digest → Option (List ℕ)
bytes_by alg None = None
bytes_by alg (Some digest) = if same_alg (alg_of digest) alg then Some (bytes_of digest) else None

-- What the lines say by this algorithm, in order.
abbrev pub said_by : Alg → List (List ℕ) → List (List ℕ)
said_by alg lines = filter_map (λ line. bytes_by alg (digest_on line)) lines

abbrev pub lists : List ℕ → Digest → Bool
lists text digest = list_any (bytes_eq (bytes_of digest)) (said_by (alg_of digest) (lines_of text))

abbrev pub is_listed : List (List ℕ) → Digest → Bool
is_listed texts digest = list_any (λ text. lists text digest) texts

-- ---- which texts are taken

-- The line says a digest that is not by SHA-1, of which collisions are made.
pub record IsGoodLine (line : List ℕ) : Type 0 where
  pub digest : Digest
  pub says : IsDigestLine line digest
  pub strong : alg_of digest ≡ algs.Sha1 → ⊥

-- Each line of the text says such a digest.
abbrev pub IsGoodText : List ℕ → Type 0
IsGoodText text = AllByRecursion IsGoodLine (lines_of text)

-- The first line of the text says such a digest.
pub record BeginsWithGood (text : List ℕ) : Type 0 where
  pub line : List ℕ
  pub after : List (List ℕ)
  pub parts : lines_of text ≡ line ∷ after
  pub good : IsGoodLine line

-- The fault of the line of this number: it says a digest by SHA-1, or none.
abbrev pub IsFaultOfLine : List ℕ → ℕ → KnownFault → Type 0
IsFaultOfLine line number (WeakHash at) = (at ≡ number) × ((digest : Digest) × IsDigestLine line digest × (alg_of digest ≡ algs.Sha1))
IsFaultOfLine line number (Malformed at) = (at ≡ number) × ((digest : Digest) → IsDigestLine line digest → ⊥)
IsFaultOfLine line number Memory = ⊥

-- The fault is that of the first wrong line. Lines count from 1.
pub record HasFaultOfFirst (text : List ℕ) (fault : KnownFault) : Type 0 where
  pub before : List (List ℕ)
  pub line : List ℕ
  pub after : List (List ℕ)
  pub parts : lines_of text ≡ before ++ line ∷ after
  pub good : AllByRecursion IsGoodLine before
  pub fault_is : IsFaultOfLine line (length before + 1) fault

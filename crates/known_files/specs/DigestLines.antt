-- A line that `sha256sum` and its kind print (GNU Coreutils manual, 'md5sum invocation', whose form the others share).
use Rattle.std.specs.Prelude.{◌≡◌, ◌⊎◌, ℕ, ◌*◌, ◌&&◌, ◌||◌, ◌==◌, Bool, false, if◌then◌else◌, List, [], ◌∷◌, ◌++◌, take, drop, length, slice_get, Option, None, option_map, Ok}
use Rattle.std.specs.List.{filter_map}
use Rattle.std.specs.Result.{result_ok}
use Rattle.hex.specs.Hex.{decode_of}
use Rattle.pcr_banks.specs.declared.alg.Alg.{Alg}
use Rattle.pcr_banks.specs.declared.digest.Digest.{Digest}
use Rattle.pcr_banks.specs.Names.{alg_of, all_algs, bytes_of, digest_of, size_of}

-- What the tools print first where the name has a backslash or a line feed, which they escape: a backslash. Else nothing.
abbrev pub IsEscape : List ℕ → Type 0
IsEscape escape = (escape ≡ []) ⊎ (escape ≡ 92 ∷ [])

-- What stands between digest and name: two spaces, or a space and an asterisk, for a file that was read as binary.
abbrev pub IsMark : List ℕ → Type 0
IsMark mark = (mark ≡ 32 ∷ 32 ∷ []) ⊎ (mark ≡ 32 ∷ 42 ∷ [])

-- The line says this digest of a file of any name: the digest in hexadecimal digits of either case, as many as its algorithm has, and
-- the name, which may be empty.
pub record IsDigestLine (line : List ℕ) (digest : Digest) : Type 0 where
  pub escape : List ℕ
  pub digits : List ℕ
  pub mark : List ℕ
  pub name : List ℕ
  pub escape_is : IsEscape escape
  pub value_is : decode_of digits ≡ Ok (bytes_of digest)
  pub value_size : length (bytes_of digest) ≡ size_of (alg_of digest)
  pub mark_is : IsMark mark
  pub spelled : line ≡ escape ++ (digits ++ (mark ++ name))

-- ---- the same, read from the line; that both agree is a clause of `digest_on`

-- The line without a backslash at its start.
abbrev pub without_escape : List ℕ → List ℕ
without_escape [] = []
without_escape (byte ∷ line) = if byte == 92 then line else byte ∷ line

-- Whether the bytes begin with a mark.
abbrev pub begins_with_mark : List ℕ → Bool
begins_with_mark (first ∷ second ∷ name) = (first == 32) && ((second == 32) || (second == 42))
begins_with_mark bytes = false

-- The digest by this algorithm at the start of the bytes, with a mark after it.
unfoldable pub digest_by : Alg → List ℕ → Option Digest
digest_by alg bytes =
    if begins_with_mark (drop (2 * size_of alg) bytes) then option_map (digest_of alg) (result_ok (decode_of (take (2 * size_of alg) bytes)))
    else None

-- The digest that the line says, by the first algorithm that fits it.
abbrev pub digest_on : List ℕ → Option Digest
digest_on line = slice_get (filter_map (λ alg. digest_by alg (without_escape line)) all_algs) 0

-- What the lines of a text are, from the first on; and that a PEM is text.
use Rattle.std.proofs.Common.{◌≡◌, ℕ, zero, suc, true, ◌+◌, ◌*◌, ◌/◌, ◌<◌, ◌≤◌, min, List, [], ◌∷◌, ◌++◌, length, take, drop, refl, ap, sym, ◌∙◌, arith, append_assoc, append-nil, length-append, inl, inr}
use Rattle.std.specs.Prelude.{codes, flat_map, nat_le}
use Rattle.std.specs.List.{list_all, range_with_len}
use Rattle.std.proofs.Math.ListN.{drop_of_length-le}
use Rattle.std.proofs.lemmas.Bool.{and_parts, cases_lt, leb-true}
use Rattle.std.proofs.lemmas.List.{nil_from_length, take_all, take_at, drop_at, drop-drop}
use Rattle.std.proofs.lemmas.Str.{IsAscii-drop, IsAscii-take, IsUtf8-append, IsUtf8-from_ascii}
use Rattle.std.proofs.lemmas.Str.Ascii.{IsAscii-cons, IsAscii-nil}
use Rattle.std.specs.Str.{IsAscii, IsUtf8}
use Rattle.base64.specs.Engines.{standard}
use Rattle.base64.proofs.EngineFacts.{IsAscii-encode_of}
use Rattle.tpm_keys.specs.KeyInfo.{in_lines, key_base64, key_info, key_pem, line, pem_of}
use Rattle.tpm_keys.specs.Spelling.{KeyNumbers}

line_after : (text : List ℕ) (n : ℕ) → line text (n + 1) ≡ line (drop 64 text) n
line_after text n =
    let e : 64 * (n + 1) ≡ 64 + 64 * n = omega arith in
    ap (λ (xs : List ℕ). take 64 xs ++ codes "\n") (ap (λ (k : ℕ). drop k text) e ∙ sym (drop-drop (64 * n) 64 text))

-- The lines after the first are those of the text after it.
lines_after : (text : List ℕ) (a n : ℕ) → flat_map (line text) (range_with_len (a + 1) n) ≡ flat_map (line (drop 64 text)) (range_with_len a n)
lines_after text a zero = refl
lines_after text a (suc n) =
    ap (λ (xs : List ℕ). xs ++ flat_map (line text) (range_with_len (a + 1 + 1) n)) (line_after text a)
    ∙ ap (λ (xs : List ℕ). line (drop 64 text) a ++ xs) (lines_after text (a + 1) n)

after_first : (all first rest : List ℕ) → all ≡ first ++ rest → length first ≡ min 64 (length all) → drop 64 all ≡ rest
after_first all first rest parts size =
    let sum = ap length parts ∙ length-append first rest in
    elim (cases_lt (length all) 64) [
      | inl short ↦ drop_of_length-le all {i = 64} (omega arith) ∙ sym (nil_from_length rest (omega (arith, sum, size)))
      | inr long ↦ ap (drop 64) parts ∙ drop_at first rest 64 (omega (arith, size))
    ]

is_first : (all first rest : List ℕ) → all ≡ first ++ rest → length first ≡ min 64 (length all) → take 64 all ≡ first
is_first all first rest parts size =
    let sum = ap length parts ∙ length-append first rest in
    elim (cases_lt (length all) 64) [
      | inl short ↦
          let none : rest ≡ [] = nil_from_length rest (omega (arith, sum, size)) in
          take_all 64 all (omega arith) ∙ parts ∙ rw none (append-nil first)
      | inr long ↦ ap (take 64) parts ∙ take_at first rest 64 (omega (arith, size))
    ]

-- The first line is 64 characters, or all of them.
pub first_line : (all first rest : List ℕ) → all ≡ first ++ rest → length first ≡ min 64 (length all) → 0 < length all
    → in_lines all ≡ first ++ (codes "\n" ++ in_lines rest)
first_line all first rest parts size some =
    let sum = ap length parts ∙ length-append first rest in
    let count : (length all + 63) / 64 ≡ suc ((length rest + 63) / 64) = omega (arith, sum, size, some) in
    let lines = (length rest + 63) / 64 in
    ap (λ (n : ℕ). flat_map (line all) (range_with_len 0 n)) count
    ∙ ap (λ (xs : List ℕ). line all 0 ++ xs) (lines_after all 0 lines)
    ∙ rw (is_first all first rest parts size, after_first all first rest parts size) (append_assoc first (codes "\n") (flat_map (line rest) (range_with_len 0 lines)))

-- ---- text

is_ascii_by : (bytes : List ℕ) → list_all (λ byte. nat_le byte 127) bytes ≡ true → IsAscii bytes
is_ascii_by [] test = IsAscii-nil
is_ascii_by (byte ∷ bytes) test =
    let parts = and_parts (nat_le byte 127) (list_all (λ byte. nat_le byte 127) bytes) test in
    let low = leb-true byte 127 parts.0 in
    IsAscii-cons byte bytes (omega (arith, low)) (is_ascii_by bytes parts.1)

line_is_text : (text : List ℕ) (n : ℕ) → IsAscii text → IsUtf8 (line text n)
line_is_text text n ascii =
    IsUtf8-append (take 64 (drop (64 * n) text)) (codes "\n")
    (IsUtf8-from_ascii _ (IsAscii-take (drop (64 * n) text) 64 (IsAscii-drop text (64 * n) ascii)))
    (IsUtf8-from_ascii (codes "\n") (is_ascii_by (codes "\n") refl))

lines_are_text : (text : List ℕ) (a n : ℕ) → IsAscii text → IsUtf8 (flat_map (line text) (range_with_len a n))
lines_are_text text a zero ascii = IsUtf8-from_ascii [] IsAscii-nil
lines_are_text text a (suc n) ascii =
    IsUtf8-append (line text a) (flat_map (line text) (range_with_len (a + 1) n)) (line_is_text text a ascii) (lines_are_text text (a + 1) n ascii)

pem_of_text : (text : List ℕ) → IsAscii text → IsUtf8 (pem_of text)
pem_of_text text ascii =
    IsUtf8-append (codes "-----BEGIN PUBLIC KEY-----\n") (in_lines text ++ codes "-----END PUBLIC KEY-----\n")
    (IsUtf8-from_ascii (codes "-----BEGIN PUBLIC KEY-----\n") (is_ascii_by (codes "-----BEGIN PUBLIC KEY-----\n") refl))
    (IsUtf8-append (in_lines text) (codes "-----END PUBLIC KEY-----\n")
    (lines_are_text text 0 ((length text + 63) / 64) ascii)
    (IsUtf8-from_ascii (codes "-----END PUBLIC KEY-----\n") (is_ascii_by (codes "-----END PUBLIC KEY-----\n") refl)))

base64_is_ascii : (numbers : KeyNumbers) → IsAscii (key_base64 numbers)
unfolding key_base64
base64_is_ascii numbers = IsAscii-encode_of standard (key_info numbers)

pub pem_is_text : (numbers : KeyNumbers) → IsUtf8 (key_pem numbers)
pem_is_text numbers = pem_of_text (key_base64 numbers) (base64_is_ascii numbers)

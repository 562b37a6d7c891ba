-- A text in lines, line by line.
use Rattle.std.proofs.Common.{◌≡◌, ℕ, ◌+◌, ◌-◌, ◌<◌, min, List, [], ◌∷◌, ◌++◌, length, take, drop, refl, ap, sym, ◌∙◌, arith, append_assoc, length-append, inl, inr}
use Rattle.std.specs.Prelude.{codes}
use Rattle.std.proofs.lemmas.Bool.{cases_lt}
use Rattle.std.proofs.lemmas.List.{nil_from_length, take_at, drop_at, take-append-drop, length-take}
use Rattle.tpm_keys.specs.KeyInfo.{in_lines}
use Rattle.tpm_keys.proofs.PemLaws.{first_line}

-- Two ways to cut a list at one place are one.
same_cut : (a b c d : List ℕ) → a ++ b ≡ c ++ d → length a ≡ length c → (a ≡ c) × (b ≡ d)
same_cut a b c d e size = (
  sym (take_at a b (length a) refl) ∙ ap (take (length a)) e ∙ take_at c d (length a) (sym size),
  sym (drop_at a b (length a) refl) ∙ ap (drop (length a)) e ∙ drop_at c d (length a) (sym size),
)

-- The first line of a text that has one, and the lines of the text behind it.
cut_lines : (text : List ℕ) → 0 < length text → in_lines text ≡ (take 64 text ++ codes "\n") ++ in_lines (drop 64 text)
cut_lines text some =
    let first = take 64 text in
    let rest = drop 64 text in
    first_line text first rest (sym (take-append-drop 64 text)) (length-take 64 text) some
    ∙ sym (append_assoc first (codes "\n") (in_lines rest))

no_lines : in_lines [] ≡ []
no_lines = refl

lines_size : (text : List ℕ) → 0 < length text → length (in_lines text) ≡ length (take 64 text) + 1 + length (in_lines (drop 64 text))
lines_size text some =
    let first = take 64 text in
    ap (λ (xs : List ℕ). length xs) (cut_lines text some)
    ∙ length-append (first ++ codes "\n") (in_lines (drop 64 text))
    ∙ ap (λ (n : ℕ). n + length (in_lines (drop 64 text))) (length-append first (codes "\n"))

-- A text without lines has no characters.
pub is_empty : (text : List ℕ) → [] ≡ in_lines text → text ≡ []
is_empty [] e = refl
is_empty (b ∷ bs) e = absurd (omega (arith, ap (λ (xs : List ℕ). length xs) e, lines_size (b ∷ bs) (omega arith)))

-- What 65 bytes of lines hold, or all, is the first line.
chunk_size : (text : List ℕ) (size : ℕ) → 0 < length text → size ≡ min 65 (length (in_lines text)) → size ≡ length (take 64 text) + 1
chunk_size text size some is =
    let all = lines_size text some in
    let first = length-take 64 text in
    elim (cases_lt (length text) 64) [
      | inl short ↦
          let parts = ap (λ (xs : List ℕ). length xs) (take-append-drop 64 text) in
          let sum = length-append (take 64 text) (drop 64 text) in
          let none : drop 64 text ≡ [] = nil_from_length (drop 64 text) (omega (arith, parts, sum, first, short)) in
          let no_more : length (in_lines (drop 64 text)) ≡ 0 = rw none refl in
          omega (arith, all, first, short, no_more, is)
      | inr long ↦ omega (arith, all, first, long, is)
    ]

-- The first line, without its line feed, and the lines behind it.
pub first_chunk : (text all chunk more : List ℕ) → all ≡ in_lines text → all ≡ chunk ++ more → length chunk ≡ min 65 (length all) → 0 < length all
    → (rest : List ℕ) × (more ≡ in_lines rest) × (text ≡ take (length chunk - 1) chunk ++ rest)
first_chunk [] all chunk more lines parts size some = absurd (omega (arith, ap (λ (xs : List ℕ). length xs) lines, some))
first_chunk (b ∷ bs) all chunk more lines parts size some =
    let text = b ∷ bs in
    let any : 0 < length text = omega arith in
    let first = take 64 text in
    let count = chunk_size text (length chunk) any (rw lines at size) in
    let line_size : length chunk ≡ length (first ++ codes "\n") = count ∙ sym (length-append first (codes "\n")) in
    let same = same_cut chunk more (first ++ codes "\n") (in_lines (drop 64 text)) (sym parts ∙ lines ∙ cut_lines text any) line_size in
    let taken : take (length chunk - 1) chunk ≡ first =
    ap (take (length chunk - 1)) same.0 ∙ take_at first (codes "\n") (length chunk - 1) (omega (arith, count)) in (
      drop 64 text,
      same.1,
      sym (take-append-drop 64 text) ∙ ap (λ (xs : List ℕ). xs ++ drop 64 text) (sym taken),
    )

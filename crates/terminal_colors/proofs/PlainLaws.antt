-- What remains of a coloured text without the sequences.
use Rattle.std.proofs.Common.{◌≡◌, ℕ, zero, suc, ◌-◌, ◌==◌, Bool, true, false, List, [], ◌∷◌, ◌++◌, Option, None, Some, length, take, drop, take-append-drop, refl, sym, ap, ◌∙◌, append_assoc, append-nil, inl, inr}
use Rattle.std.specs.Prelude.{flat_map}
use Rattle.std.specs.List.{AllByRecursion, concat, onto_first}
use Rattle.std.specs.Option.{option_map_or}
use Rattle.std.proofs.lemmas.Bool.{cases_Bool, true≢false}
use Rattle.terminal_colors.specs.States.{reset, sequence_of, style_of, text_of}
use Rattle.terminal_colors.specs.Lines.{IsPlain, colored, colored_at, colored_line, lines_of, mark_of, plain, plain_from, tells_fault}
use Rattle.terminal_colors.specs.declared.states.State.{State}
use Rattle.terminal_colors.specs.declared.states.Style.{Style}
use Rattle.terminal_colors.specs.declared.states.Style.TheVariants.{Green, Red, Yellow, Faint}

-- A byte of a text without sequences, and the others.
plain_byte : (byte : ℕ) (text : List ℕ) → IsPlain (byte ∷ text) → ((byte == 27) ≡ false) × IsPlain text
plain_byte byte text all = elim (cases_Bool (byte == 27)) [
  | inl escapes ↦ absurd (true≢false (sym (rw escapes at all)))
  | inr other ↦ (other, rw other at all)
]

of_byte : (byte : ℕ) (text : List ℕ) → (byte == 27) ≡ false → IsPlain text → IsPlain (byte ∷ text)
of_byte byte text other all = rw other all

plain_take : (n : ℕ) (text : List ℕ) → IsPlain text → IsPlain (take n text)
plain_take zero text all = refl
plain_take (suc n) [] all = refl
plain_take (suc n) (byte ∷ text) all =
    let parts = plain_byte byte text all in
    of_byte byte (take n text) parts.0 (plain_take n text parts.1)

plain_drop : (n : ℕ) (text : List ℕ) → IsPlain text → IsPlain (drop n text)
plain_drop zero text all = all
plain_drop (suc n) [] all = refl
plain_drop (suc n) (byte ∷ text) all = plain_drop n text (plain_byte byte text all).1

-- ---- what remains

-- A text without sequences remains.
plain-append : (text after : List ℕ) → IsPlain text → plain (text ++ after) ≡ text ++ plain after
unfolding plain_from
plain-append [] after all = refl
plain-append (byte ∷ text) after all =
    let parts = plain_byte byte text all in
    rw parts.0 (ap (λ (l : List ℕ). byte ∷ l) (plain-append text after parts.1))

-- Of a sequence nothing remains.
plain-sequence : (style : Style) (after : List ℕ) → plain (sequence_of style ++ after) ≡ plain after
unfolding plain_from
plain-sequence Green after = refl
plain-sequence Red after = refl
plain-sequence Yellow after = refl
plain-sequence Faint after = refl

plain-reset : (after : List ℕ) → plain (reset ++ after) ≡ plain after
unfolding plain_from
plain-reset after = refl

-- Of a text with a part between sequences the text remains.
plain_parts : (style : Style) (label words rest after : List ℕ) → IsPlain label → IsPlain words → IsPlain rest
    → plain ((label ++ (sequence_of style ++ (words ++ (reset ++ rest)))) ++ after) ≡ label ++ (words ++ (rest ++ plain after))
plain_parts style label words rest after of_label of_words of_rest =
    ap plain (append_assoc label (sequence_of style ++ (words ++ (reset ++ rest))) after)
    ∙ plain-append label ((sequence_of style ++ (words ++ (reset ++ rest))) ++ after) of_label
    ∙ ap (λ (l : List ℕ). label ++ l) (
    ap plain (append_assoc (sequence_of style) (words ++ (reset ++ rest)) after)
    ∙ plain-sequence style ((words ++ (reset ++ rest)) ++ after)
    ∙ ap plain (append_assoc words (reset ++ rest) after)
    ∙ plain-append words ((reset ++ rest) ++ after) of_words
    ∙ ap (λ (l : List ℕ). words ++ l) (
    ap plain (append_assoc reset rest after) ∙ plain-reset (rest ++ after) ∙ plain-append rest after of_rest
    )
    )

-- A line's parts are the line.
joined : (n k : ℕ) (line after : List ℕ) → take n line ++ (take k (drop n line) ++ (drop k (drop n line) ++ after)) ≡ line ++ after
joined n k line after =
    ap (λ (l : List ℕ). take n line ++ l) (
    sym (append_assoc (take k (drop n line)) (drop k (drop n line)) after)
    ∙ ap (λ (l : List ℕ). l ++ after) (take-append-drop k (drop n line))
    )
    ∙ sym (append_assoc (take n line) (drop n line) after)
    ∙ ap (λ (l : List ℕ). l ++ after) (take-append-drop n line)

plain_marked : (line after : List ℕ) (mark : Option (ℕ × State)) → IsPlain line
    → plain (option_map_or (colored_at line) mark line ++ after) ≡ line ++ plain after
plain_marked line after None all = plain-append line after all
plain_marked line after (Some mark) all =
    let count = length (text_of mark.1) - 1 in
    let rest = drop mark.0 line in
    let of_rest = plain_drop mark.0 line all in
    plain_parts (style_of mark.1) (take mark.0 line) (take count rest) (drop count rest) after (plain_take mark.0 line all)
    (plain_take count rest of_rest) (plain_drop count rest of_rest)
    ∙ joined mark.0 count line (plain after)

-- Of coloured lines the lines remain.
plain_lines : (lines : List (List ℕ)) → AllByRecursion IsPlain lines → plain (flat_map colored_line lines) ≡ concat lines
unfolding plain_from
plain_lines [] all = refl
plain_lines (line ∷ lines) all =
    plain_marked line (flat_map colored_line lines) (mark_of line) all.0
    ∙ ap (λ (l : List ℕ). line ++ l) (plain_lines lines all.1)

-- ---- the lines of a text

concat-onto_first : (byte : ℕ) (lines : List (List ℕ)) → concat (onto_first byte lines) ≡ byte ∷ concat lines
concat-onto_first byte [] = refl
concat-onto_first byte (line ∷ lines) = refl

-- The lines of a text are the text.
concat-lines : (text : List ℕ) → concat (lines_of text) ≡ text
unfolding lines_of
concat-lines [] = refl
concat-lines (byte ∷ text) = elim (cases_Bool (byte == 10)) [
  | inl feeds ↦ rw feeds (ap (λ (l : List ℕ). byte ∷ l) (concat-lines text))
  | inr other ↦ rw other (concat-onto_first byte (lines_of text) ∙ ap (λ (l : List ℕ). byte ∷ l) (concat-lines text))
]

plain_onto_first : (byte : ℕ) (lines : List (List ℕ)) → (byte == 27) ≡ false → AllByRecursion IsPlain lines
    → AllByRecursion IsPlain (onto_first byte lines)
plain_onto_first byte [] other all = (of_byte byte [] other refl, tt)
plain_onto_first byte (line ∷ lines) other all = (of_byte byte line other all.0, all.1)

-- The lines of a text without sequences have none.
lines_plain : (text : List ℕ) → IsPlain text → AllByRecursion IsPlain (lines_of text)
unfolding lines_of
lines_plain [] all = tt
lines_plain (byte ∷ text) all =
    let parts = plain_byte byte text all in
    let others = lines_plain text parts.1 in
    elim (cases_Bool (byte == 10)) [
      | inl feeds ↦ rw feeds (of_byte byte [] parts.0 refl, others)
      | inr other ↦ rw other (plain_onto_first byte (lines_of text) parts.0 others)
    ]

-- ---- the laws

pub plain_line : (line : List ℕ) → IsPlain line → plain (colored_line line) ≡ line
unfolding plain_from
plain_line line all =
    ap plain (sym (append-nil (colored_line line))) ∙ plain_marked line [] (mark_of line) all ∙ append-nil line

pub plain_colored : (text : List ℕ) → IsPlain text → plain (colored text) ≡ text
plain_colored text all = elim (cases_Bool (tells_fault text)) [
  | inl tells ↦ rw tells (plain_line text all)
  | inr other ↦ rw other (plain_lines (lines_of text) (lines_plain text all) ∙ concat-lines text)
]

pub same_colored : (first second : List ℕ) → IsPlain first → IsPlain second → colored first ≡ colored second → first ≡ second
same_colored first second one other same =
    sym (plain_colored first one) ∙ ap plain same ∙ plain_colored second other

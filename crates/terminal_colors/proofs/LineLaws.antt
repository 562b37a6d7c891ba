-- The lines of a text, and those of which some are sent.
use Rattle.std.proofs.Common.{◌≡◌, ℕ, suc, ◌+◌, ◌<◌, ◌==◌, min, Bool, true, false, inl, inr, List, [], ◌∷◌, ◌++◌, Result, Ok, Err, length, take, drop, refl, sym, ap, ◌∙◌, append_assoc, arith}
use Rattle.std.specs.Prelude.{flat_map}
use Rattle.std.specs.List.{onto_first, position_or_len}
use Rattle.std.specs.Result.{IsErrAnd}
use Rattle.std.proofs.lemmas.Bool.{cases_Bool, eqb-true}
use Rattle.byte_streams.specs.Streams.{SinkState, Sends}
use Rattle.byte_streams.proofs.SinkLaws.{IsSent, Sends-ok, Sends-same, Sends-stops, Sends-then}
use Rattle.terminal_colors.specs.Lines.{colored_line, colored_lines, lines_of, piece_end}

-- A line feed ends the piece; another byte is one more.
piece_feed : (byte : ℕ) (bytes : List ℕ) → (byte == 10) ≡ true → piece_end 10 (byte ∷ bytes) ≡ 1
piece_feed byte bytes feeds = rw feeds (omega arith)

piece_more : (byte : ℕ) (bytes : List ℕ) → (byte == 10) ≡ false → piece_end 10 (byte ∷ bytes) ≡ suc (piece_end 10 bytes)
piece_more byte bytes other = rw other (omega arith)

-- The first line ends at its line feed, or with the text.
pub first_line : (text : List ℕ) → 0 < length text
    → lines_of text ≡ take (piece_end 10 text) text ∷ lines_of (drop (piece_end 10 text) text)
unfolding lines_of
first_line [] some = absurd (omega arith)
first_line (byte ∷ []) some = elim (cases_Bool (byte == 10)) [
  | inl feeds ↦ rw feeds refl
  | inr other ↦ rw other refl
]
first_line (byte ∷ next ∷ text) some = elim (cases_Bool (byte == 10)) [
  | inl feeds ↦ rw (piece_feed byte (next ∷ text) feeds, feeds) refl
  | inr other ↦ rw (piece_more byte (next ∷ text) other, other) (ap (onto_first byte) (first_line (next ∷ text) (omega arith)))
]

-- A coloured text is its first line, and the others.
pub colored_first : (text : List ℕ) → 0 < length text
    → colored_lines text ≡ colored_line (take (piece_end 10 text) text) ++ colored_lines (drop (piece_end 10 text) text)
colored_first text some = ap (flat_map colored_line) (first_line text some)

-- The same, where the text is split.
pub colored_split : (is_empty : Bool) (count : ℕ) (text line left : List ℕ) → is_empty ≡ (length text == 0) → is_empty ≡ false
    → count ≡ piece_end 10 text → line ≡ take count text → left ≡ drop count text → colored_lines text ≡ colored_line line ++ colored_lines left
colored_split is_empty count [] line left tells some ends front back = absurd cc
colored_split is_empty count (byte ∷ text) line left tells some ends front back =
    rw (front, back, ends) (colored_first (byte ∷ text) (omega arith))

-- Nothing is a coloured text without colours.
pub colored_none : (is_empty : Bool) (text : List ℕ) → is_empty ≡ (length text == 0) → is_empty ≡ true → colored_lines text ≡ []
unfolding lines_of
colored_none is_empty [] tells none = refl
colored_none is_empty (byte ∷ text) tells none =
    let zero : length (byte ∷ text) ≡ 0 = eqb-true (length (byte ∷ text)) 0 (sym tells ∙ none) in
    absurd (omega arith)

-- A line more was sent.
pub line_sent : {A E : Type 0} (old mid new : SinkState) (value : A) (whole rest line left : List ℕ) → rest ≡ line ++ left
    → IsSent old mid whole rest → Sends {A = A} {E = E} mid new (Ok value) line → IsSent old new whole left
line_sent old mid new value whole rest line left parts before sends = record {
  prefix = before.prefix ++ line;
  whole = before.whole ∙ ap (λ (l : List ℕ). before.prefix ++ l) parts ∙ sym (append_assoc before.prefix line left);
  sent = Sends-then old mid new tt (Ok tt) before.prefix line before.sent (Sends-ok mid new value tt line sends);
}

-- The sink failed in a line, and the caller hands the fault on.
pub line_fails : {A B E F : Type 0} (Q : F → Type 0) (old mid new : SinkState) (fault : E) (result : Result B F) (whole rest line left : List ℕ)
    → rest ≡ line ++ left → IsErrAnd result Q
    → IsSent old mid whole rest → Sends {A = A} {E = E} mid new (Err fault) line → Sends old new result whole
line_fails Q old mid new fault result whole rest line left parts err before sends =
    Sends-same old new result (before.prefix ++ (line ++ left)) whole
    (sym (before.whole ∙ ap (λ (l : List ℕ). before.prefix ++ l) parts))
    (Sends-then old mid new tt result before.prefix (line ++ left) before.sent (Sends-stops Q mid new fault result line left err sends))

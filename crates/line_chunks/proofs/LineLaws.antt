-- The lines of items one after another, the next of them, and the part of bytes that an offset leads to.
use Rattle.std.proofs.Common.{◌≡◌, ℕ, Bool, true, false, eqb, ◌+◌, ◌-◌, ◌<◌, ◌≤◌, List, [], ◌∷◌, ◌++◌, length, take, drop, refl, sym, ap, ◌∙◌, append_assoc, arith}
use Rattle.std.proofs.Math.Seq.{drop-append_seam}
use Rattle.std.proofs.lemmas.List.{append-nil, length-append, length-drop, length-take-le, take_all}
use Rattle.std.proofs.lemmas.Bool.{eqb-true}
use Rattle.cells.specs.ItemLines.{numbered_lines}
use Rattle.line_chunks.specs.declared.piece.LineOffset.{LineOffset}
use Rattle.line_chunks.specs.Pieces.{AreItemsBefore, HasItemLine}

pub numbered_last : {A : Type 0} (line : ℕ → A → List ℕ) (number : ℕ) (items : List A) (item : A)
    → numbered_lines line number (items ++ item ∷ []) ≡ numbered_lines line number items ++ line (length items + number) item
numbered_last {A} line number [] item =
    let same : number ≡ length {A = A} [] + number = omega arith in
    append-nil (line number item) ∙ ap (λ (n : ℕ). line n item) same
numbered_last {A} line number (first ∷ items) item =
    let same : length items + (number + 1) ≡ length (first ∷ items) + number = omega arith in
    ap (λ (t : List ℕ). line number first ++ t)
    (numbered_last line (number + 1) items item ∙ ap (λ (n : ℕ). numbered_lines line (number + 1) items ++ line n item) same)
    ∙ sym (append_assoc (line number first) (numbered_lines line (number + 1) items) (line (length (first ∷ items) + number) item))

-- One more item, after which so many bytes are left.
pub next_item : {A : Type 0} (Begin : List A → List ℕ → Type 0) (show : List A → List ℕ) (line_of : ℕ → A → List ℕ) (bytes : List ℕ)
    (position : LineOffset) (before after : List ℕ) (left : ℕ) (item : A) (are : AreItemsBefore Begin show bytes position before)
    → Begin (are.items ++ item ∷ []) after → show (are.items ++ item ∷ []) ≡ show are.items ++ line_of (length are.items) item
    → left ≡ length after → position.offset < length bytes - left
    → HasItemLine Begin show line_of before (line_of position.number item)
    × AreItemsBefore Begin show bytes (record { offset = length bytes - left; number = position.number + 1 })
    (before ++ line_of position.number item)
next_item Begin show line_of bytes position before after left item are begins last left_is further =
    let number : line_of position.number item ≡ line_of (length are.items) item = ap (λ (n : ℕ). line_of n item) are.number_is in (
      record { items = are.items; item = item; rest = after; begins = begins; text_is = are.text_is; line_is = number },
      record {
        items = are.items ++ item ∷ [];
        rest = after;
        begins = begins;
        number_is = omega (arith, are.number_is, length-append are.items (item ∷ []));
        offset_is = omega (arith, left_is, further);
        few = omega (arith, are.few, further);
        text_is = ap (λ (t : List ℕ). t ++ line_of position.number item) are.text_is
            ∙ ap (λ (t : List ℕ). show are.items ++ t) number ∙ sym last;
      },
    )

-- What follows a prefix is the part of the bytes from where the prefix ends.
pub part_is : (bytes prefix rest : List ℕ) (offset : ℕ) → bytes ≡ prefix ++ rest → offset + length rest ≡ length bytes
    → take (length bytes - offset) (drop offset bytes) ≡ rest
part_is bytes prefix rest offset parts ends =
    let size : length bytes ≡ length prefix + length rest = ap length parts ∙ length-append prefix rest in
    let at : offset ≡ length prefix = omega (arith, size, ends) in
    let left : length bytes - offset ≡ length rest = omega (arith, ends) in
    let dropped : drop offset bytes ≡ rest =
    ap (λ (n : ℕ). drop n bytes) at ∙ ap (drop (length prefix)) parts ∙ drop-append_seam prefix rest in
    rw (left, dropped) (take_all (length rest) rest (omega arith))

pub part_size : (bytes : List ℕ) (offset : ℕ) → offset ≤ length bytes
    → length (take (length bytes - offset) (drop offset bytes)) ≡ length bytes - offset
part_size bytes offset within = length-take-le (length bytes - offset) (drop offset bytes) (omega (arith, length-drop offset bytes))

pub none_left : (is_empty : Bool) (rest : List ℕ) → is_empty ≡ eqb (length rest) 0 → is_empty ≡ true → rest ≡ []
none_left is_empty [] tells empty = refl
none_left is_empty (byte ∷ rest) tells empty =
    let none : length (byte ∷ rest) ≡ 0 = eqb-true (length (byte ∷ rest)) 0 (sym tells ∙ empty) in absurd (omega (arith, none))

pub some_left : (is_empty : Bool) (rest : List ℕ) → is_empty ≡ eqb (length rest) 0 → is_empty ≡ false → 0 < length rest
some_left is_empty [] tells empty = absurd cc
some_left is_empty (byte ∷ rest) tells empty = omega arith

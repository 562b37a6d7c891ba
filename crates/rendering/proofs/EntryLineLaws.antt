-- The lines of entries, one after another.
use Rattle.std.proofs.Common.{◌≡◌, ℕ, ◌+◌, ◌<◌, List, [], ◌∷◌, ◌++◌, length, get_or, take, sym, ap, ◌∙◌, append_assoc, arith}
use Rattle.std.proofs.lemmas.List.{append-nil, length-take-le, take_more}
use Rattle.cells.specs.ItemLines.{numbered_lines}

numbered_last : {A : Type 0} (line : ℕ → A → List ℕ) (number : ℕ) (items : List A) (item : A)
    → numbered_lines line number (items ++ item ∷ []) ≡ numbered_lines line number items ++ line (number + length items) item
numbered_last {A} line number [] item =
    let same : number ≡ number + length {A = A} [] = omega arith in
    append-nil (line number item) ∙ ap (λ (n : ℕ). line n item) same
numbered_last {A} line number (first ∷ items) item =
    let same : (number + 1) + length items ≡ number + length (first ∷ items) = omega arith in
    ap (λ (t : List ℕ). line number first ++ t)
    (numbered_last line (number + 1) items item ∙ ap (λ (n : ℕ). numbered_lines line (number + 1) items ++ line n item) same)
    ∙ sym (append_assoc (line number first) (numbered_lines line (number + 1) items) (line (number + length (first ∷ items)) item))

-- One line more.
pub numbered_more : {A : Type 0} (line : ℕ → A → List ℕ) (items : List A) (i : ℕ) (d : A) → i < length items
    → numbered_lines line 0 (take i items) ++ line i (get_or items i d) ≡ numbered_lines line 0 (take (i + 1) items)
numbered_more {A} line items i d lt =
    let size : i ≡ 0 + length (take i items) = omega (arith, length-take-le i items (omega (arith, lt))) in
    ap (λ (n : ℕ). numbered_lines line 0 (take i items) ++ line n (get_or items i d)) size
    ∙ sym (numbered_last line 0 (take i items) (get_or items i d)) ∙ ap (numbered_lines line 0) (sym (take_more items i d lt))

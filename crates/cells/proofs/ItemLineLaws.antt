-- Lines of items one after another.
use Rattle.std.proofs.Common.{◌≡◌, ℕ, ◌+◌, List, [], ◌∷◌, ◌++◌, length, ap, sym, ◌∙◌, append_assoc, arith}
use Rattle.cells.specs.ItemLines.{numbered_lines}

pub numbered_joined : {A : Type 0} (line : ℕ → A → List ℕ) (number : ℕ) (items others : List A)
    → numbered_lines line number (items ++ others) ≡ numbered_lines line number items ++ numbered_lines line (number + length items) others
numbered_joined {A} line number [] others =
    let same : number ≡ number + length {A = A} [] = omega arith in
    ap (λ (n : ℕ). numbered_lines line n others) same
numbered_joined {A} line number (first ∷ items) others =
    let same : (number + 1) + length items ≡ number + length (first ∷ items) = omega arith in
    ap (λ (t : List ℕ). line number first ++ t)
    (numbered_joined line (number + 1) items others ∙ ap (λ (n : ℕ). numbered_lines line (number + 1) items ++ numbered_lines line n others) same)
    ∙ sym (append_assoc (line number first) (numbered_lines line (number + 1) items) (numbered_lines line (number + length (first ∷ items)) others))

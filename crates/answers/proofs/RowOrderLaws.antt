-- The order of rows on a terminal.
use Rattle.std.proofs.Common.{◌≡◌, ℕ, Bool, true, false, not, List, [], ◌∷◌, ◌++◌, Option, map, codes, refl, sym, ap, ◌∙◌}
use Rattle.std.specs.Prelude.{cond, flat_map}
use Rattle.std.specs.List.{filter}
use Rattle.std.proofs.lemmas.List.Concat.{flat_map-cons}
use Rattle.pcr_values.specs.declared.selection.BankRange.{BankRange}
use Rattle.boot_verdict.specs.declared.report.Row.{Row}
use Rattle.cells.specs.Cells.{Cell, beside, each, if_some, list_at, when}
use Rattle.answers.specs.declared.row_order.RowOrder.TheVariants.{ResetLast}
use Rattle.answers.specs.ReportCells.{given_row, is_at_reset, report_rows, reset_row}
use Rattle.answers.specs.RowCells.{missing_cells}

-- One item more, if it passes.
one_if : {X A : Type 0} (f : X → Cell A) (x : X) (xs : List X) (is : Bool)
    → (when is (f x)).text ++ flat_map (λ y. (f y).text) xs ≡ flat_map (λ y. (f y).text) (cond is (x ∷ xs) xs)
one_if f x xs true = sym (flat_map-cons (λ y. (f y).text) x xs)
one_if f x xs false = refl

-- Items that are shown if they pass are those that pass.
shown_if : {X A : Type 0} (p : X → Bool) (f : X → Cell A) (xs : List X)
    → flat_map (λ x. (when (p x) (f x)).text) xs ≡ flat_map (λ x. (f x).text) (filter p xs)
shown_if p f [] = refl
shown_if p f (x ∷ xs) =
    flat_map-cons (λ y. (when (p y) (f y)).text) x xs
    ∙ ap (λ (t : List ℕ). (when (p x) (f x)).text ++ t) (shown_if p f xs) ∙ one_if f x (filter p xs) (p x)

pub reset_last : (required : Option (List BankRange)) (rows : List Row) → (report_rows ResetLast required rows).text
    ≡ flat_map (λ row. (given_row row).text) (filter (λ row. not (is_at_reset row)) rows)
    ++ ((if_some required (missing_cells (codes "state") (map (λ row. row.expected) rows))).text
    ++ flat_map (λ row. (reset_row row).text) (filter is_at_reset rows))
unfolding beside each list_at
reset_last required rows =
    let missing : List ℕ = (if_some required (missing_cells (codes "state") (map (λ (row : Row). row.expected) rows))).text in
    ap (λ (t : List ℕ). t ++ (missing ++ flat_map (λ (row : Row). (when (is_at_reset row) (reset_row row)).text) rows))
    (shown_if (λ (row : Row). not (is_at_reset row)) given_row rows)
    ∙ ap (λ (t : List ℕ). flat_map (λ (row : Row). (given_row row).text) (filter (λ (row : Row). not (is_at_reset row)) rows) ++ (missing ++ t))
    (shown_if is_at_reset reset_row rows)

use Rattle.std.proofs.Common.{List, ◌++◌, [], ◌∷◌, ℕ, ap, ◌∙◌}
use Rattle.json.specs.Print.{print}
use Rattle.cells.proofs.CellLaws.{line_utf8}
use Rattle.cells.proofs.writer.CellWriter.into_bytes.Goals as goal

pub returns-in_ok-push-in-Json-clause-utf8 : goal.returns-in_ok-push-in-Json-clause-utf8
returns-in_ok-push-in-Json-clause-utf8 c shown has =
    let known = rw c.in-Json.is at has in
    line_utf8 c.in-Json.writer.before (print c.in-Json.writer.tokens) _
    (c.in_ok-push-in-Json.ensures.items ∙ ap (λ (t : List ℕ). t ++ 10 ∷ []) c.into_inner-line.ensures.items) known.0
    c.into_inner-line.ensures.utf8

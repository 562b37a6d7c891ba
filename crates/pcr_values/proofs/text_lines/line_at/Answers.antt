use Rattle.std.proofs.Common.{List, ℕ, ◌∷◌, [], sym, ap, ◌∙◌}
use Rattle.pcr_values.specs.Names.{lines_of}
use Rattle.pcr_values.proofs.ExpectedLaws.{first_line, only_line}
use Rattle.pcr_values.proofs.text_lines.line_at.Goals as goal

pub returns-in-Some-clause-line : goal.returns-in-Some-clause-line
returns-in-Some-clause-line c =
    first_line c.args.text.now c.in-Some.line.now c.in-Some.rest.now c.in-Some.ensures.cut
    ∙ ap (λ (line : List ℕ). line ∷ lines_of c.in-Some.rest.now) (sym c.without_return.ensures)

pub returns-in-None-clause-line : goal.returns-in-None-clause-line
returns-in-None-clause-line c =
    only_line c.args.text.now c.in-None.ensures.none ∙ ap (λ (line : List ℕ). line ∷ []) (sym c.without_return-in-None.ensures)

use Rattle.std.proofs.Common.{◌≡◌, not, Some, None, rules, tests, sym, ◌∙◌}
use Rattle.std.specs.Prelude.{find}
use Rattle.std.proofs.lemmas.Iterator.{YieldsList-from_slice}
use Rattle.std.proofs.lemmas.Iterator.Search.{find_from_yields_List}
use Rattle.boot_verdict.specs.declared.report.Row.{Row}
use Rattle.boot_verdict.specs.Names.{is_match}
use Rattle.rendering.specs.Summaries.{register_of}
use Rattle.rendering.proofs.SummaryLaws.{first_found}
use Rattle.rendering.proofs.summary.first_differing.Goals as goal

pub returns-in_err-row : goal.returns-in_err-row
returns-in_err-row c =
    let found = find_from_yields_List (λ (row : Row). not (is_match row)) _ _ c.find.result c.find.ensures.ran
    (YieldsList-from_slice c.args.rows.now cc) (λ x b q k. search (rules, tests)) in
    let none : find (λ (row : Row). not (is_match row)) c.args.rows.now ≡ None = sym (rw c.in_err-row.was at found) in
    c.from_residual.ensures ∙ (rw none at (first_found (λ (row : Row). not (is_match row)) register_of c.args.rows.now))

pub returns : goal.returns
returns c =
    let found = find_from_yields_List (λ (row : Row). not (is_match row)) _ _ c.find.result c.find.ensures.ran
    (YieldsList-from_slice c.args.rows.now cc) (λ x b q k. search (rules, tests)) in
    let some : find (λ (row : Row). not (is_match row)) c.args.rows.now ≡ Some c.in_ok-row.row.now = sym (rw c.in_ok-row.was at found) in
    rw some at (first_found (λ (row : Row). not (is_match row)) register_of c.args.rows.now)

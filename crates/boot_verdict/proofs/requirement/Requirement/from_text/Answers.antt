use Rattle.std.proofs.Common.{sym}
use Rattle.boot_verdict.proofs.RequirementLaws.{not_required, unbound}
use Rattle.boot_verdict.proofs.requirement.Requirement.from_text.Goals as goal

pub returns-then-not-is_of_banks-clause-only : goal.returns-then-not-is_of_banks-clause-only
returns-then-not-is_of_banks-clause-only c =
    λ ranges is.
    absurd (not_required c.args.text.now c.in_ok-selection.selection ranges c.in_ok-selection.ensures.found (sym c.if-not-is_of_banks.ensures) is)

pub returns-then-not-binds_list-clause-only : goal.returns-then-not-binds_list-clause-only
returns-then-not-binds_list-clause-only c =
    λ ranges is.
    absurd (unbound c.args.text.now c.in_ok-selection.selection ranges c.in_ok-selection.ensures.found (sym c.if-not-binds_list.ensures) is)

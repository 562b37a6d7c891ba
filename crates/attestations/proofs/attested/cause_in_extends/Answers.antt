use Rattle.std.proofs.Common.{◌≡◌, Option, Some, None, sym, ap, ◌∙◌}
use Rattle.std.specs.Prelude.{option_map}
use Rattle.boot_verdict.specs.declared.isolation.Stray.{Stray}
use Rattle.boot_verdict.specs.Names.{first_extending, first_stray}
use Rattle.attestations.specs.declared.attested.Cause.{Cause}
use Rattle.attestations.specs.declared.attested.Cause.TheVariants.{LogExtends, ListExtends}
use Rattle.attestations.proofs.JudgeLaws.{found_first, found_next}
use Rattle.attestations.proofs.attested.cause_in_extends.Goals as goal

abbrev in_list : Option Stray → Option Cause
in_list stray = option_map (λ stray. ListExtends stray.entry stray.register) stray

pub returns-in-Some : goal.returns-in-Some
returns-in-Some c =
    λ list table events log is.
    found_first LogExtends (first_extending events) (in_list (first_stray is.entries)) c.in-Some.event
    (sym c.in-Some.is ∙ c.first_extending.ensures table events log)

pub returns-in_err-stray : goal.returns-in_err-stray
returns-in_err-stray c =
    λ list table events log is.
    let none : None ≡ first_stray is.entries = sym c.in_err-stray.was ∙ is.stray in
    rw c.from_residual.ensures
    (found_next LogExtends (first_extending events) (in_list (first_stray is.entries)) None
    (sym c.in_default.is ∙ c.first_extending.ensures table events log) (ap in_list none))

pub returns : goal.returns
returns c =
    λ list table events log is.
    let some : Some c.in_ok-stray.stray ≡ first_stray is.entries = sym c.in_ok-stray.was ∙ is.stray in
    found_next LogExtends (first_extending events) (in_list (first_stray is.entries)) _
    (sym c.in_default.is ∙ c.first_extending.ensures table events log) (ap in_list some)

use Rattle.std.proofs.Common.{refl, sym, ◌∙◌}
use Rattle.cells.proofs.CellLaws.{none_shown}
use Rattle.answers.proofs.ChangeLaws.{none_is, some_is}
use Rattle.answers.proofs.registers.show_change.Goals as goal

pub returns-in-None : goal.returns-in-None
returns-in-None c =
    let changed = c.changed_value-value.ensures c.args.alg _ _ c.read.ensures.value c.read-2.ensures.value in
    rw (none_is c.args.alg _ (sym changed ∙ c.in-None.is)) (none_shown refl)

pub returns-in-Some : goal.returns-in-Some
returns-in-Some c =
    let changed = c.changed_value-value.ensures c.args.alg _ _ c.read.ensures.value c.read-2.ensures.value in
    rw (some_is c.args.alg _ _ (sym changed ∙ c.in-Some.is)) c.show_value.ensures

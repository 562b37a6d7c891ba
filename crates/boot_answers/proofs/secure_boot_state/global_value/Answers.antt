use Rattle.std.proofs.Common.{◌≡◌, true}
use Rattle.event_data.specs.Names.{variable_of}
use Rattle.boot_answers.specs.Variables.{global_guid}
use Rattle.boot_answers.proofs.VariableLaws.{none_of_other, value_of_same}
use Rattle.boot_answers.proofs.secure_boot_state.global_value.Goals as goal

pub returns-then-is_global-clause-only : goal.returns-then-is_global-clause-only
returns-then-is_global-clause-only c value is =
    value_of_same (variable_of c.in-Some.variable) global_guid c.args.name.now value (c.in-Some.ensures.only _ is)

pub returns-else-is_global-clause-only : goal.returns-else-is_global-clause-only
returns-else-is_global-clause-only c value is =
    none_of_other (variable_of c.in-Some.variable) global_guid c.args.name.now value (λ both. let yes : c.is_global.result ≡ true = c.is_global.ensures.1 both in absurd cc)
    (c.in-Some.ensures.only _ is)

pub returns-in-None-clause-only : goal.returns-in-None-clause-only
returns-in-None-clause-only c value is = let none = c.in-None.ensures.only _ is in absurd cc

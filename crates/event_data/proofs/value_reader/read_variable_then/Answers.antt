use Rattle.std.proofs.Common.{arith, ap, sym, ◌∙◌}
use Rattle.std.specs.Result.{result_ok}
use Rattle.byte_fields.proofs.Steps.{IsBytes}
use Rattle.event_data.specs.Names.{variable_of}
use Rattle.event_data.proofs.FormLaws.{variable_then_is, variable_then_only}
use Rattle.event_data.proofs.value_reader.read_variable_then.Goals as goal

pub returns-in-Ok-clause-value : goal.returns-in-Ok-clause-value
returns-in-Ok-clause-value c = sym (ap result_ok c.in-Ok.ensures)

pub returns-in-Ok-clause-found : goal.returns-in-Ok-clause-found
returns-in-Ok-clause-found c =
    let fits : IsBytes c.args.bytes.now = λ i. omega (arith, c.type_inv.bytes i) in
    variable_then_is c.args.bytes.now (variable_of c.in-Ok.variable) c.in-Ok.rest.now fits (ap result_ok c.in-Ok.ensures)

pub returns-in-Ok-clause-only : goal.returns-in-Ok-clause-only
returns-in-Ok-clause-only c value rest is = sym (ap result_ok c.in-Ok.ensures) ∙ variable_then_only c.args.bytes.now value rest is

pub returns-in-Err-clause-value : goal.returns-in-Err-clause-value
returns-in-Err-clause-value c = sym (ap result_ok c.in-Err.ensures)

pub returns-in-Err-clause-only : goal.returns-in-Err-clause-only
returns-in-Err-clause-only c value rest is = sym (ap result_ok c.in-Err.ensures) ∙ variable_then_only c.args.bytes.now value rest is

use Rattle.std.proofs.Common.{arith, ap, sym, ◌∙◌}
use Rattle.std.specs.Result.{result_ok}
use Rattle.byte_fields.proofs.Steps.{IsBytes}
use Rattle.event_data.specs.Names.{image_of}
use Rattle.event_data.proofs.FormLaws.{image_then_is, image_then_only}
use Rattle.event_data.proofs.short_forms.read_image_then.Goals as goal

pub returns-in-Ok-clause-value : goal.returns-in-Ok-clause-value
returns-in-Ok-clause-value c = sym (ap result_ok c.in-Ok.ensures)

pub returns-in-Ok-clause-found : goal.returns-in-Ok-clause-found
returns-in-Ok-clause-found c =
    let fits : IsBytes c.args.bytes.now = λ i. omega (arith, c.type_inv.bytes i) in
    image_then_is c.args.bytes.now (image_of c.in-Ok.image) c.in-Ok.rest.now fits (ap result_ok c.in-Ok.ensures)

pub returns-in-Ok-clause-only : goal.returns-in-Ok-clause-only
returns-in-Ok-clause-only c value rest is = sym (ap result_ok c.in-Ok.ensures) ∙ image_then_only c.args.bytes.now value rest is

pub returns-in-Err-clause-value : goal.returns-in-Err-clause-value
returns-in-Err-clause-value c = sym (ap result_ok c.in-Err.ensures)

pub returns-in-Err-clause-only : goal.returns-in-Err-clause-only
returns-in-Err-clause-only c value rest is = sym (ap result_ok c.in-Err.ensures) ∙ image_then_only c.args.bytes.now value rest is

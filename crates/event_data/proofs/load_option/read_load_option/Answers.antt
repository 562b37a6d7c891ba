use Rattle.std.proofs.Common.{ap, arith, sym, ◌∙◌}
use Rattle.byte_fields.proofs.Steps.{IsBytes}
use Rattle.event_data.specs.Names.{load_option_of}
use Rattle.event_data.proofs.ValueLaws.{option_with_rest, load_option_takes, load_option_again}
use Rattle.event_data.proofs.load_option.read_load_option.Goals as goal

pub returns-in-Ok-clause-value : goal.returns-in-Ok-clause-value
returns-in-Ok-clause-value c = sym (ap option_with_rest c.in-Ok.ensures)

pub returns-in-Ok-clause-found : goal.returns-in-Ok-clause-found
returns-in-Ok-clause-found c =
    let fits : IsBytes c.args.bytes.now = λ i. omega (arith, c.type_inv.bytes i) in
    load_option_takes c.args.bytes.now (load_option_of c.in-Ok.option) fits (ap option_with_rest c.in-Ok.ensures)

pub returns-in-Ok-clause-only : goal.returns-in-Ok-clause-only
returns-in-Ok-clause-only c value is = sym (ap option_with_rest c.in-Ok.ensures) ∙ load_option_again c.args.bytes.now value is

pub returns-in-Err-clause-value : goal.returns-in-Err-clause-value
returns-in-Err-clause-value c = sym (ap option_with_rest c.in-Err.ensures)

pub returns-in-Err-clause-only : goal.returns-in-Err-clause-only
returns-in-Err-clause-only c value is = sym (ap option_with_rest c.in-Err.ensures) ∙ load_option_again c.args.bytes.now value is

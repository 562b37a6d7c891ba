use Rattle.std.proofs.Common.{ap, sym, ◌∙◌}
use Rattle.event_data.proofs.ValueLaws.{signature_with_rest, signature_again}
use Rattle.event_data.proofs.value_reader.read_signature.Goals as goal

pub returns-in-Ok-clause-value : goal.returns-in-Ok-clause-value
returns-in-Ok-clause-value c = sym (ap signature_with_rest c.in-Ok.ensures.read)

pub returns-in-Ok-clause-only : goal.returns-in-Ok-clause-only
returns-in-Ok-clause-only c value is = sym (ap signature_with_rest c.in-Ok.ensures.read) ∙ signature_again c.args.bytes.now value is

pub returns-in-Err-clause-value : goal.returns-in-Err-clause-value
returns-in-Err-clause-value c = sym (ap signature_with_rest c.in-Err.ensures.read)

pub returns-in-Err-clause-only : goal.returns-in-Err-clause-only
returns-in-Err-clause-only c value is = sym (ap signature_with_rest c.in-Err.ensures.read) ∙ signature_again c.args.bytes.now value is

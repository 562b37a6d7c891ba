use Rattle.std.proofs.Common.{arith, rules, ◌∙◌}
use Rattle.byte_fields.proofs.Steps.{IsBytes}
use Rattle.event_data.specs.Names.{gpt_of}
use Rattle.event_data.proofs.Finding.{view_is}
use Rattle.event_data.proofs.GptLaws.{gpt_finds, gpt_only}
use Rattle.event_data.proofs.gpt_reader.read_gpt.Goals as goal

pub returns-in-Some-clause-value : goal.returns-in-Some-clause-value
returns-in-Some-clause-value c = search rules

pub returns-in-Some-clause-found : goal.returns-in-Some-clause-found
returns-in-Some-clause-found c =
    let fits : IsBytes c.args.bytes.now = λ i. omega (arith, c.type_inv.bytes i) in
    view_is gpt_of c.ok.result (gpt_finds c.args.bytes.now fits) (returns-in-Some-clause-value c)

pub returns-in-Some-clause-only : goal.returns-in-Some-clause-only
returns-in-Some-clause-only c value is = returns-in-Some-clause-value c ∙ gpt_only c.args.bytes.now value is

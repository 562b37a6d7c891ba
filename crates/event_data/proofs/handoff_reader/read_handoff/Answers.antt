use Rattle.std.proofs.Common.{arith, rules, ◌∙◌, sym}
use Rattle.byte_fields.proofs.Steps.{IsBytes}
use Rattle.event_data.specs.Names.{handoff_of}
use Rattle.event_data.proofs.HandoffLaws.{handoff_finds}
use Rattle.event_data.proofs.handoff_reader.read_handoff.Goals as goal

pub returns-in-Ok-clause-value : goal.returns-in-Ok-clause-value
returns-in-Ok-clause-value c = search rules

pub returns-in-Ok-clause-found : goal.returns-in-Ok-clause-found
returns-in-Ok-clause-found c =
    let fits : IsBytes c.args.bytes.now = λ i. omega (arith, c.type_inv.bytes i) in
    (handoff_finds c.args.bytes.now fits).is (handoff_of c.in-Ok.handoff) (sym (returns-in-Ok-clause-value c))

pub returns-in-Ok-clause-only : goal.returns-in-Ok-clause-only
returns-in-Ok-clause-only c value is =
    let fits : IsBytes c.args.bytes.now = λ i. omega (arith, c.type_inv.bytes i) in
    returns-in-Ok-clause-value c ∙ (handoff_finds c.args.bytes.now fits).only value is

pub returns-in_default-clause-value : goal.returns-in_default-clause-value
returns-in_default-clause-value c = search rules

pub returns-in_default-clause-only : goal.returns-in_default-clause-only
returns-in_default-clause-only c value is =
    let fits : IsBytes c.args.bytes.now = λ i. omega (arith, c.type_inv.bytes i) in
    returns-in_default-clause-value c ∙ (handoff_finds c.args.bytes.now fits).only value is

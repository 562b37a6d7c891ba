use Rattle.std.proofs.Common.{arith, rules, subst, sym}
use Rattle.byte_fields.proofs.Steps.{IsBytes}
use Rattle.event_data.specs.Names.{Content, Says}
use Rattle.event_data.proofs.ContentLaws.{says_found}
use Rattle.event_data.proofs.content.event_content.Goals as goal

pub returns-in-Some-clause-value : goal.returns-in-Some-clause-value
returns-in-Some-clause-value c = search rules

pub returns-in-Some-clause-says : goal.returns-in-Some-clause-says
returns-in-Some-clause-says c =
    let fits : IsBytes c.args.bytes.now = λ i. omega (arith, c.type_inv.bytes i) in
    subst (λ (content : Content). Says c.args.kind c.args.bytes.now content) (sym (returns-in-Some-clause-value c))
    (says_found c.args.kind c.args.bytes.now fits)

pub returns-in-None-clause-value : goal.returns-in-None-clause-value
returns-in-None-clause-value c = search rules

pub returns-in-None-clause-says : goal.returns-in-None-clause-says
returns-in-None-clause-says c =
    let fits : IsBytes c.args.bytes.now = λ i. omega (arith, c.type_inv.bytes i) in
    subst (λ (content : Content). Says c.args.kind c.args.bytes.now content) (sym (returns-in-None-clause-value c))
    (says_found c.args.kind c.args.bytes.now fits)

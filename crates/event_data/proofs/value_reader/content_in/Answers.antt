use Rattle.std.proofs.Common.{arith}
use Rattle.byte_fields.proofs.Steps.{IsBytes}
use Rattle.event_data.specs.declared.value_reader.ValueForm.TheVariants as forms
use Rattle.event_data.specs.Names.{says_of}
use Rattle.event_data.proofs.SaysLaws.{says_as}
use Rattle.event_data.proofs.value_reader.content_in.Goals as goal

pub returns-in-Order-clause-says : goal.returns-in-Order-clause-says
returns-in-Order-clause-says c =
    let fits : IsBytes c.args.bytes.now = λ i. omega (arith, c.type_inv.bytes i) in
    says_as c.args.form forms.Order c.args.bytes.now (says_of c.order_content.result) fits c.in-Order.is c.order_content.ensures

pub returns-in-Lists-clause-says : goal.returns-in-Lists-clause-says
returns-in-Lists-clause-says c =
    let fits : IsBytes c.args.bytes.now = λ i. omega (arith, c.type_inv.bytes i) in
    says_as c.args.form forms.Lists c.args.bytes.now (says_of c.lists_content.result) fits c.in-Lists.is c.lists_content.ensures

pub returns-in-Signature-clause-says : goal.returns-in-Signature-clause-says
returns-in-Signature-clause-says c =
    let fits : IsBytes c.args.bytes.now = λ i. omega (arith, c.type_inv.bytes i) in
    says_as c.args.form forms.Signature c.args.bytes.now (says_of c.authority_content.result) fits c.in-Signature.is c.authority_content.ensures

pub returns-in-Certificate-clause-says : goal.returns-in-Certificate-clause-says
returns-in-Certificate-clause-says c =
    let fits : IsBytes c.args.bytes.now = λ i. omega (arith, c.type_inv.bytes i) in
    says_as c.args.form forms.Certificate c.args.bytes.now (says_of c.certificate_content.result) fits c.in-Certificate.is
    c.certificate_content.ensures

pub returns-in-Level-clause-says : goal.returns-in-Level-clause-says
returns-in-Level-clause-says c =
    let fits : IsBytes c.args.bytes.now = λ i. omega (arith, c.type_inv.bytes i) in
    says_as c.args.form forms.Level c.args.bytes.now (says_of c.level_content.result) fits c.in-Level.is c.level_content.ensures

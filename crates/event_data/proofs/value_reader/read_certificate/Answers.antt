use Rattle.std.proofs.Common.{arith, rules, ◌∙◌, sym}
use Rattle.byte_fields.proofs.Steps.{IsBytes}
use Rattle.event_data.proofs.CertificateLaws.{certificate_finds, certificate_only}
use Rattle.event_data.proofs.value_reader.read_certificate.Goals as goal

pub returns-in-Some-clause-value : goal.returns-in-Some-clause-value
returns-in-Some-clause-value c = search rules

pub returns-in-Some-clause-found : goal.returns-in-Some-clause-found
returns-in-Some-clause-found c =
    let fits : IsBytes c.args.bytes.now = λ i. omega (arith, c.type_inv.bytes i) in
    (certificate_finds c.args.bytes.now fits).is c.args.bytes.now (sym (returns-in-Some-clause-value c))

pub returns-in-Some-clause-only : goal.returns-in-Some-clause-only
returns-in-Some-clause-only c value is = returns-in-Some-clause-value c ∙ certificate_only c.args.bytes.now value is

pub returns-in_default-clause-value : goal.returns-in_default-clause-value
returns-in_default-clause-value c = search rules

pub returns-in_default-clause-only : goal.returns-in_default-clause-only
returns-in_default-clause-only c value is = returns-in_default-clause-value c ∙ certificate_only c.args.bytes.now value is

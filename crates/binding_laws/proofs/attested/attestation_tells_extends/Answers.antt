use Rattle.binding_laws.proofs.AttestationBindingLaws.{attested_alike}
use Rattle.binding_laws.proofs.attested.attestation_tells_extends.Goals as goal

pub returns : goal.returns
returns c = λ message both alg register lt chosen. attested_alike alg message both register lt chosen

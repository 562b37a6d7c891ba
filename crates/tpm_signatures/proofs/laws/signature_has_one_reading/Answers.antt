use Rattle.tpm_signatures.proofs.SignatureLaws.{one_reading}
use Rattle.tpm_signatures.proofs.laws.signature_has_one_reading.Goals as goal

pub returns : goal.returns
returns c = one_reading

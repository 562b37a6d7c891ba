use Rattle.tpm_keys.proofs.AreaLaws.{one_reading}
use Rattle.tpm_keys.proofs.laws.public_area_has_one_reading.Goals as goal

pub returns : goal.returns
returns c = one_reading

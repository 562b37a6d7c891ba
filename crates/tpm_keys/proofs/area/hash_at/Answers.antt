use Rattle.std.proofs.Common.{refl}
use Rattle.tpm_quotes.proofs.SelectionLaws.{unknown}
use Rattle.tpm_keys.specs.Reading.{hash}
use Rattle.tpm_keys.proofs.area.hash_at.Goals as goal

pub returns-in-None : goal.returns-in-None
unfolding hash
returns-in-None c = rw (c.in_ok-id.ensures, unknown c.in_ok-id.id c.in-None.ensures.unknown) refl

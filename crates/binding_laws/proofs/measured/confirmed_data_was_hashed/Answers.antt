use Rattle.binding_laws.proofs.MeasuredBindingLaws.{confirmed}
use Rattle.binding_laws.proofs.measured.confirmed_data_was_hashed.Goals as goal

pub returns : goal.returns
returns c = confirmed

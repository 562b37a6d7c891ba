use Rattle.binding_laws.proofs.MeasuredBindingLaws.{is_the_same}
use Rattle.binding_laws.proofs.measured.measured_data_is_the_same.Goals as goal

pub returns : goal.returns
returns c = is_the_same

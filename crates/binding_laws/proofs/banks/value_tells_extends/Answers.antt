use Rattle.binding_laws.proofs.BankBindingLaws.{same_or_broken}
use Rattle.binding_laws.proofs.banks.value_tells_extends.Goals as goal

pub returns : goal.returns
returns c = same_or_broken

use Rattle.confirming.proofs.RequiredLaws.{matched_are_required}
use Rattle.confirming.proofs.laws.only_required_registers_match.Goals as goal

pub returns : goal.returns
returns c = matched_are_required

use Rattle.pcr_banks.proofs.BankLaws.{same_registers_by}
use Rattle.pcr_banks.proofs.laws.registers_are_what_they_hold.Goals as goal

pub returns : goal.returns
returns g c = same_registers_by c.args.first.now c.args.second.now c.told-first c.told-second

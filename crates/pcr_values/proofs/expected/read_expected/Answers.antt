use Rattle.pcr_values.proofs.ExpectedLaws.{spells_once}
use Rattle.pcr_values.proofs.expected.read_expected.Goals as goal

pub returns-in-Err-clause-only : goal.returns-in-Err-clause-only
returns-in-Err-clause-only c = c.in-Err.ensures.only spells_once

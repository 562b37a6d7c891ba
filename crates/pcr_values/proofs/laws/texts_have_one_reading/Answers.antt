use Rattle.pcr_values.specs.Names.{Spells}
use Rattle.pcr_values.proofs.ExpectedLaws.{spells_once}
use Rattle.pcr_values.proofs.PrintedLaws.{printed_once}
use Rattle.pcr_values.proofs.RangeLaws.{range_once}
use Rattle.pcr_values.proofs.StatedLaws.{states_once}
use Rattle.pcr_values.proofs.SelectionLaws.{ranges_once}
use Rattle.pcr_values.proofs.laws.texts_have_one_reading.Goals as goal

pub returns-clause-expected : goal.returns-clause-expected
returns-clause-expected c = states_once Spells spells_once tt

pub returns-clause-printed : goal.returns-clause-printed
returns-clause-printed c = printed_once

pub returns-clause-range : goal.returns-clause-range
returns-clause-range c = range_once

pub returns-clause-selection : goal.returns-clause-selection
returns-clause-selection c = ranges_once

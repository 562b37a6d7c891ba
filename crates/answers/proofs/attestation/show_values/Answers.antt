use Rattle.std.proofs.Common.{refl}
use Rattle.cells.proofs.CellLaws.{none_shown}
use Rattle.answers.proofs.attestation.show_values.Goals as goal

pub returns-in-NotGiven : goal.returns-in-NotGiven
returns-in-NotGiven c = rw c.in-NotGiven.is (none_shown refl)

pub returns-in-Confirmed : goal.returns-in-Confirmed
returns-in-Confirmed c = rw c.in-Confirmed.is c.show_confirmed.ensures

pub returns-in-Unconfirmed : goal.returns-in-Unconfirmed
returns-in-Unconfirmed c = rw c.in-Unconfirmed.is c.show_word.ensures

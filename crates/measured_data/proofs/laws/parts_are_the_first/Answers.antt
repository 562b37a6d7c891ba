use Rattle.measured_data.specs.Confirming.{IsConfirmed, is_confirmed}
use Rattle.measured_data.specs.Measuring.{IsMeasured, is_measured}
use Rattle.measured_data.proofs.ConfirmedLaws.{confirmed_told}
use Rattle.measured_data.proofs.MeasuredLaws.{measured_told}
use Rattle.measured_data.proofs.PartLaws.{first_told}
use Rattle.measured_data.proofs.laws.parts_are_the_first.Goals as goal

pub returns-clause-measured : goal.returns-clause-measured
returns-clause-measured c alg event fits =
    first_told (IsMeasured alg event) (is_measured alg event) (λ part. measured_told alg event part fits)

pub returns-clause-confirmed : goal.returns-clause-confirmed
returns-clause-confirmed c matched event fits =
    first_told (IsConfirmed matched event) (is_confirmed matched event) (λ part. confirmed_told matched event part fits)

use Rattle.std.proofs.Common.{◌≡◌, refl}
use Rattle.binding_laws.proofs.BankBindingLaws.{same_or_collide}
use Rattle.binding_laws.proofs.MeasuredBindingLaws.{was_hashed}
use Rattle.binding_laws.proofs.measured.measured_data_was_hashed.Goals as goal

pub returns-clause-place : goal.returns-clause-place
returns-clause-place c = was_hashed

pub returns-clause-hashed : goal.returns-clause-hashed
returns-clause-hashed c = λ alg first second one.
    same_or_collide alg (λ bytes. bytes ≡ first) (λ bytes. bytes ≡ second) first second refl refl one

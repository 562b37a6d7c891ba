use Rattle.std.proofs.Common.{◌≡◌, ℕ, ◌<◌, decimal}
use Rattle.confirming.proofs.places.register_named.Given as goal

abbrev pub invariant-loop-register : goal.invariant-loop-register
invariant-loop-register l = (register : ℕ) → register < l.register → l.text ≡ decimal register → ⊥

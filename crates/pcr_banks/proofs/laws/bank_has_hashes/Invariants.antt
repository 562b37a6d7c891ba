use Rattle.std.proofs.Common.{◌≡◌, ℕ, ◌<◌, length}
use Rattle.std.specs.Prelude.{IsTrue, IsSome, IfSome}
use Rattle.hex.specs.Hex.{IsBytes}
use Rattle.pcr_banks.specs.Names.{is_active, size_of, value_at}
use Rattle.pcr_banks.proofs.laws.bank_has_hashes.Given as goal

-- The registers below the index are looked at.
abbrev pub invariant-loop-register : goal.invariant-loop-register
invariant-loop-register l =
    (r : ℕ) → r < l.register
    → (IsTrue (is_active l.banks l.alg) → IsSome (value_at l.banks l.alg r))
    × IfSome (value_at l.banks l.alg r) (λ value. (length value ≡ size_of l.alg) × IsBytes value)

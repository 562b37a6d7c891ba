use Rattle.std.proofs.Common.{◌≡◌, ℕ, ◌<◌, Some, length, slice_get}
use Rattle.pcr_banks.specs.Names.{register_count, reset_bytes}
use Rattle.pcr_banks.proofs.banks.reset_registers.Given as goal

-- The registers below the index are set.
abbrev pub invariant-loop-register : goal.invariant-loop-register
invariant-loop-register g l =
    (length l.registers ≡ register_count)
    × ((r : ℕ) → r < l.register → slice_get l.registers r ≡ Some (reset_bytes g.row.N r l.locality))

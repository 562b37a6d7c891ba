use Rattle.std.proofs.Common.{◌≡◌, ◌≤◌, ◌-◌, drop, length}
use Rattle.tpm_keys.specs.KeyInfo.{without_zeros}
use Rattle.tpm_keys.proofs.der.without_zeros.Given as goal

-- Only zeros were passed.
abbrev pub invariant-loop-zeros : goal.invariant-loop-zeros
invariant-loop-zeros l = (l.zeros ≤ length l.bytes) × (without_zeros (drop l.zeros l.bytes) ≡ without_zeros l.bytes)

abbrev pub decreases-loop-zeros : goal.decreases-loop-zeros
decreases-loop-zeros l = length l.bytes - l.zeros

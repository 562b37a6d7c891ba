use Rattle.std.proofs.Common.{◌≡◌, drop}
use Rattle.tpm_keys.specs.Purposes.{first_of}
use Rattle.tpm_keys.proofs.lacks.first_of.Given as goal

abbrev pub invariant-loop-is_lack : goal.invariant-loop-is_lack
invariant-loop-is_lack l = first_of (drop l.is_lack-index l.lacks) ≡ first_of l.lacks

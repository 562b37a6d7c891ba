use Rattle.std.proofs.Common.{◌≢◌, take}
use Rattle.std.specs.List.{AllByRecursion}
use Rattle.pcr_banks.specs.Names.{all_algs, tpm_id_of}
use Rattle.pcr_banks.proofs.alg.Alg.from_id.Given as goal

-- No algorithm before the index has the identifier.
abbrev pub invariant-loop-alg : goal.invariant-loop-alg
invariant-loop-alg l = AllByRecursion (λ alg. tpm_id_of alg ≢ l.id) (take l.alg-index all_algs)

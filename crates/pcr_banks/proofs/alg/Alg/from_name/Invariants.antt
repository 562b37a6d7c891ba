use Rattle.std.proofs.Common.{◌≢◌, take}
use Rattle.std.specs.List.{AllByRecursion}
use Rattle.pcr_banks.specs.Names.{all_algs, name_of}
use Rattle.pcr_banks.proofs.alg.Alg.from_name.Given as goal

-- No algorithm before the index has the name.
abbrev pub invariant-loop-alg : goal.invariant-loop-alg
invariant-loop-alg l = AllByRecursion (λ alg. name_of alg ≢ l.name) (take l.alg-index all_algs)

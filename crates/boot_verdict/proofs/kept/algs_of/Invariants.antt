use Rattle.std.proofs.Common.{◌≡◌, ◌&&◌, take}
use Rattle.std.specs.List.{list_any}
use Rattle.pcr_banks.specs.declared.alg.Alg.{Alg}
use Rattle.pcr_banks.specs.Names.{all_algs, has_alg, same_alg}
use Rattle.boot_verdict.specs.Names.{is_asked}
use Rattle.boot_verdict.proofs.kept.algs_of.Given as goal

-- The set has the algorithms before the index that are asked for.
abbrev pub invariant-loop-alg : goal.invariant-loop-alg
invariant-loop-alg l =
    (a : Alg) → has_alg l.algs a ≡ list_any (λ alg. same_alg a alg && is_asked l.expected alg) (take l.alg-index all_algs)

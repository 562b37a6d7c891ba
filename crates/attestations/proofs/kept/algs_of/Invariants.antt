use Rattle.std.proofs.Common.{◌≡◌, ◌&&◌, map, take}
use Rattle.std.specs.List.{list_any}
use Rattle.pcr_banks.specs.declared.alg.Alg.{Alg}
use Rattle.pcr_banks.specs.Names.{all_algs, has_alg, same_alg}
use Rattle.tpm_quotes.specs.Spelling.{selection_of}
use Rattle.attestations.specs.Kept.{is_asked}
use Rattle.attestations.proofs.kept.algs_of.Given as goal

-- The set has the algorithms before the index that are asked for.
abbrev pub invariant-loop-alg : goal.invariant-loop-alg
invariant-loop-alg l =
    (a : Alg) → has_alg l.algs a
    ≡ list_any (λ alg. same_alg a alg && is_asked (map selection_of l.selections) alg) (take l.alg-index all_algs)

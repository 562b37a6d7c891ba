use Rattle.std.proofs.Common.{◌≡◌, [], take}
use Rattle.std.specs.List.{filter_map}
use Rattle.pcr_banks.specs.Names.{all_algs}
use Rattle.known_files.specs.DigestLines.{digest_by}
use Rattle.known_files.proofs.digest_line.first_digest.Given as goal

-- The line is of no algorithm before the index.
abbrev pub invariant-loop-alg : goal.invariant-loop-alg
invariant-loop-alg l = filter_map (λ alg. digest_by alg l.line) (take l.alg-index all_algs) ≡ []

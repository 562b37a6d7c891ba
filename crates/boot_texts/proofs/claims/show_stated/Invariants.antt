use Rattle.std.proofs.Common.{take}
use Rattle.pcr_banks.specs.Names.{all_algs, digest_in}
use Rattle.cells.specs.Cells.{if_some}
use Rattle.cells.specs.Values.{member_tokens}
use Rattle.cells.proofs.CellLaws.{HasEach}
use Rattle.boot_texts.specs.AnswerCells.{digest_cell}
use Rattle.boot_texts.proofs.claims.show_stated.Given as goal

abbrev pub invariant-loop-alg : goal.invariant-loop-alg
invariant-loop-alg l =
    HasEach member_tokens l.initial.out l.out (λ alg. if_some (digest_in l.digests alg) (digest_cell alg)) (take l.alg-index all_algs)

use Rattle.std.proofs.Common.{take}
use Rattle.pcr_banks.specs.Names.{all_algs}
use Rattle.cells.specs.Cells.{if_some}
use Rattle.cells.specs.Values.{member_tokens}
use Rattle.cells.proofs.CellLaws.{HasEach}
use Rattle.boot_texts.specs.AnswerCells.{answered_digest, digest_cell}
use Rattle.boot_texts.proofs.images.show_answered.Given as goal

abbrev pub invariant-loop-alg : goal.invariant-loop-alg
invariant-loop-alg l =
    HasEach member_tokens l.initial.out l.out (λ alg. if_some (answered_digest l.matched l.digests alg) (digest_cell alg)) (take l.alg-index all_algs)

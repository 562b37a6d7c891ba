use Rattle.std.proofs.Common.{arith}
use Rattle.pcr_banks.specs.Names.{all_algs}
use Rattle.cells.specs.Cells.{if_some}
use Rattle.cells.proofs.CellLaws.{all_shown, no_rows, one_more}
use Rattle.boot_texts.specs.AnswerCells.{answered_digest, digest_cell}
use Rattle.boot_texts.proofs.images.show_answered.Goals as goal

pub loop-alg-init : goal.loop-alg-init
loop-alg-init c = no_rows (λ alg. if_some (answered_digest c.args.matched.now c.args.digests.now alg) (digest_cell alg)) _

pub loop-alg-preserved : goal.loop-alg-preserved
loop-alg-preserved c =
    one_more (λ alg. if_some (answered_digest c.args.matched.now c.args.digests.now alg) (digest_cell alg)) all_algs c.loop-alg.alg-index _
    c.loop-alg-test.true c.loop-alg.invariant (rw c.answered_digest.ensures at c.in_ok-show_digest.ensures)

pub returns : goal.returns
returns c =
    all_shown (λ alg. if_some (answered_digest c.args.matched.now c.args.digests.now alg) (digest_cell alg)) all_algs c.loop-alg.alg-index
    (omega arith) c.loop-alg.invariant

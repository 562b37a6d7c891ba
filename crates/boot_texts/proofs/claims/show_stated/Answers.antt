use Rattle.std.proofs.Common.{arith, get_or}
use Rattle.pcr_banks.specs.declared.alg.Alg.TheVariants.{Sha1}
use Rattle.pcr_banks.specs.Names.{all_algs, digest_in}
use Rattle.cells.specs.Cells.{if_some}
use Rattle.cells.proofs.CellLaws.{all_shown, no_rows, one_more}
use Rattle.pcr_banks.proofs.SetLaws.{same_bytes}
use Rattle.boot_texts.specs.AnswerCells.{digest_cell}
use Rattle.boot_texts.proofs.claims.show_stated.Goals as goal

pub loop-alg-init : goal.loop-alg-init
loop-alg-init c = no_rows (λ alg. if_some (digest_in c.args.digests.now alg) (digest_cell alg)) _

pub loop-alg-preserved : goal.loop-alg-preserved
loop-alg-preserved c =
    one_more (λ alg. if_some (digest_in c.args.digests.now alg) (digest_cell alg)) all_algs c.loop-alg.alg-index _ c.loop-alg-test.true
    c.loop-alg.invariant
    (rw (c.get.ensures, same_bytes (get_or all_algs c.loop-alg.alg-index Sha1) (digest_in c.args.digests.now (get_or all_algs c.loop-alg.alg-index Sha1)))
    at c.in_ok-show_digest.ensures)

pub returns : goal.returns
returns c =
    all_shown (λ alg. if_some (digest_in c.args.digests.now alg) (digest_cell alg)) all_algs c.loop-alg.alg-index (omega arith)
    c.loop-alg.invariant

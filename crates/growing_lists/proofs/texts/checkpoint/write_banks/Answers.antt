use Rattle.byte_streams.proofs.PieceLaws.{item_sent, item_fails}
use Rattle.pcr_banks.specs.declared.alg.Alg.TheVariants.{Sha1}
use Rattle.pcr_banks.specs.Names.{all_algs}
use Rattle.growing_lists.specs.CheckpointTexts.{bank_lines}
use Rattle.growing_lists.proofs.texts.checkpoint.write_banks.Goals as goal

pub returns-in_err-write_bank : goal.returns-in_err-write_bank
returns-in_err-write_bank g c =
    let text = bank_lines c.args.banks.now in
    item_fails _ text all_algs c.loop-alg.alg-index Sha1 _ _ _ _ _ c.loop-alg-test.true c.from_residual.ensures.1 c.loop-alg.invariant
    c.in_err-write_bank.ensures

pub loop-alg-preserved : goal.loop-alg-preserved
loop-alg-preserved g c =
    let text = bank_lines c.args.banks.now in
    item_sent text all_algs c.loop-alg.alg-index Sha1 _ _ _ _ c.loop-alg-test.true c.loop-alg.invariant c.in_ok-write_bank.ensures

use Rattle.byte_streams.proofs.PieceLaws.{item_sent, item_fails}
use Rattle.answers.specs.PositionTexts.{located_text}
use Rattle.answers.proofs.position_texts.write_all.Goals as goal

pub returns-in_err-write_one : goal.returns-in_err-write_one
returns-in_err-write_one g c =
    item_fails _ located_text c.args.located.now c.loop-row.row-index _ _ _ _ _ _ c.loop-row-test.true c.from_residual.ensures.1
    c.loop-row.invariant c.in_err-write_one.ensures

pub loop-row-preserved : goal.loop-row-preserved
loop-row-preserved g c =
    item_sent located_text c.args.located.now c.loop-row.row-index _ _ _ _ _ c.loop-row-test.true c.loop-row.invariant
    c.in_ok-write_one.ensures

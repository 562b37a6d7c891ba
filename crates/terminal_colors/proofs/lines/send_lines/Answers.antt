use Rattle.byte_streams.proofs.SinkLaws.{IsSent-all}
use Rattle.terminal_colors.proofs.LineLaws.{colored_none, colored_split, line_fails, line_sent}
use Rattle.terminal_colors.proofs.lines.send_lines.Goals as goal

pub returns-in_err-send_line : goal.returns-in_err-send_line
returns-in_err-send_line g c =
    line_fails _ _ _ _ _ _ _ _ _ _
    (colored_split c.is_empty.result c.piece_end.result c.loop-rest.rest.now _ _ c.is_empty.ensures c.loop-rest-test.true
    c.piece_end.ensures.value c.split_at.ensures.front c.split_at.ensures.back)
    c.from_residual.ensures.1 c.loop-rest.invariant c.in_err-send_line.ensures

pub loop-rest-preserved : goal.loop-rest-preserved
loop-rest-preserved g c =
    line_sent _ _ _ _ _ _ _ _
    (colored_split c.is_empty.result c.piece_end.result c.loop-rest.rest.now _ _ c.is_empty.ensures c.loop-rest-test.true
    c.piece_end.ensures.value c.split_at.ensures.front c.split_at.ensures.back)
    c.loop-rest.invariant c.in_ok-send_line.ensures

pub returns : goal.returns
returns g c =
    IsSent-all _ _ _ _ _ c.loop-rest.invariant (colored_none c.is_empty.result c.loop-rest.rest.now c.is_empty.ensures c.loop-rest-test.false)

use Rattle.std.proofs.Common.{ap, ◌∙◌}
use Rattle.byte_streams.proofs.SinkLaws.{Sends-same, Sends-then, Sends-stops}
use Rattle.answers.specs.PositionTexts.{found_text}
use Rattle.answers.proofs.position_texts.write_positions.Goals as goal

pub returns-in_err-write_all : goal.returns-in_err-write_all
returns-in_err-write_all g c = Sends-stops _ _ _ _ _ _ _ c.from_residual.ensures.1 c.in_err-write_all.ensures

pub returns : goal.returns
returns g c =
    let line = c.found_line.ensures ∙ ap found_text c.all_found.ensures in
    Sends-then _ _ _ tt _ _ _ c.in_ok-write_all.ensures (Sends-same _ _ _ _ _ line c.send.ensures)

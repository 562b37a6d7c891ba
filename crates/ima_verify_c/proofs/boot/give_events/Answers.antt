use Rattle.std.proofs.Common.{rules, w32}
use mir.Val.{SFits}
use Rattle.std.proofs.Math.Facts.{to_z-of_z}
use Rattle.ima_verify_c.proofs.LineLaws.{gives_lines}
use Rattle.ima_verify_c.proofs.boot.give_events.Goals as goal

pub returns : goal.returns
returns c =
    let fits : SFits w32 c.give_lines.result = search rules in
    let found = c.event_lines-found.ensures in
    rw (to_z-of_z fits) (gives_lines _ _ _ _ _ _ _ _ _ _ _ c.event_lines-found.result
    found.piece found.within found.reached found.none found.fault c.give_lines.ensures)

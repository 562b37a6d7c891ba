use Rattle.std.proofs.Common.{refl}
use Rattle.cells.specs.declared.writer.Form.TheVariants.{Json}
use Rattle.ima_agent.proofs.OutcomeLaws.{entries_outcome}
use Rattle.ima_agent.proofs.StreamingLaws.{streams_so}
use Rattle.ima_agent.proofs.shown.entries_for.Goals as goal

pub returns-in-Text : goal.returns-in-Text
returns-in-Text g c = rw c.in-Text.is c.send_as_text.ensures

pub returns-in-Json : goal.returns-in-Json
returns-in-Json g c =
    rw c.in-Json.is
    (streams_so _ _ _ _ c.send_list.result
    (entries_outcome (g.F.Files.inputs c.args.files.now) c.args.list.now c.args.partial Json _ _ refl c.send_list.ensures.replaced)
    (rw c.deref.ensures at c.send_list.ensures.streams))

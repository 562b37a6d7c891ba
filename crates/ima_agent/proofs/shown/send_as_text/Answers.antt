use Rattle.std.proofs.Common.{refl, true}
use Rattle.cells.specs.declared.writer.Form.TheVariants.{Text}
use Rattle.ima_agent.proofs.OutcomeLaws.{entries_outcome, sound_outcome}
use Rattle.ima_agent.proofs.StreamingLaws.{streams_so}
use Rattle.ima_agent.proofs.shown.send_as_text.Goals as goal

pub returns-then-partial : goal.returns-then-partial
returns-then-partial g c =
    rw c.if-partial.true
    (streams_so _ _ _ _ c.send_list.result
    (entries_outcome (g.F.Files.inputs c.args.files.now) c.args.list.now true Text _ _ refl c.send_list.ensures.replaced)
    (rw c.deref.ensures at c.send_list.ensures.streams))

pub returns-else-partial : goal.returns-else-partial
returns-else-partial g c =
    rw c.if-partial.false
    (streams_so _ _ _ _ c.send_sound_list.result
    (sound_outcome (g.F.Files.inputs c.args.files.now) c.args.list.now _ _ c.send_sound_list.ensures.replaced)
    (rw c.deref-else-partial.ensures at c.send_sound_list.ensures.streams))

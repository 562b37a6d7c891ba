use Rattle.std.proofs.Common.{[], refl}
use Rattle.ima_list.proofs.PieceLaws.{reading_to_the_end}
use Rattle.ima_agent.proofs.StreamingLaws.{not_opened}
use Rattle.ima_agent.proofs.shown.send_list.Goals as goal

pub returns-in_default-clause-streams : goal.returns-in_default-clause-streams
returns-in_default-clause-streams g c =
    not_opened c.args.form (g.F.Files.inputs c.args.files.now) c.args.list.now (g.S.Sink.state c.args.sink.now) c.not_read.result
    (reading_to_the_end [] [] (record { are = tt; parts = refl })) c.not_read.ensures
    (c.in_default.ensures.refused refl)

pub returns-clause-streams : goal.returns-clause-streams
returns-clause-streams g c =
    c.send_lines.ensures (g.F.Files.inputs c.args.files.now)
    (record { all = c.in-Ok.ensures.gives; failing = c.in-Ok.ensures.failing c.send_lines.new.source })

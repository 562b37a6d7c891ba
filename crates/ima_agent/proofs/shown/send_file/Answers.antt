use Rattle.std.proofs.Common.{refl}
use Rattle.ima_agent.proofs.StreamingLaws.{not_opened_alone}
use Rattle.ima_agent.proofs.shown.send_file.Goals as goal

pub returns-in_default-clause-streams : goal.returns-in_default-clause-streams
returns-in_default-clause-streams g c =
    not_opened_alone (g.F.Files.inputs c.args.files.now) c.args.list.now (g.S.Sink.state c.args.sink.now) c.not_read.result c.not_read.ensures
    (c.in_default.ensures.refused refl)

pub returns-in_default-source-clause-streams : goal.returns-in_default-source-clause-streams
returns-in_default-source-clause-streams g c =
    not_opened_alone (g.F.Files.inputs c.args.files.now) c.args.list.now (g.S.Sink.state c.args.sink.now) c.not_read-in_default-source.result
    c.not_read-in_default-source.ensures (rw c.source.ensures.inputs at (c.in_default-source.ensures.refused refl))

pub returns-clause-streams : goal.returns-clause-streams
returns-clause-streams g c =
    c.send_read_through.ensures (g.F.Files.inputs c.args.files.now)
    (record { all = c.in-Ok.ensures.gives; failing = c.in-Ok.ensures.failing c.send_read_through.new.first })
    (record {
      all = rw c.source.ensures.inputs at c.in-Ok-source.ensures.gives;
      failing = rw c.source.ensures.inputs at (c.in-Ok-source.ensures.failing c.send_read_through.new.second);
    })

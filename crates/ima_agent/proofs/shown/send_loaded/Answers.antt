use Rattle.std.proofs.Common.{Some, inl}
use Rattle.byte_streams.specs.Memory.{slice_source_rest}
use Rattle.agent_inputs.specs.Loading.{Holds}
use Rattle.ima_agent.proofs.StreamingLaws.{alone, none_said, slice_gives}
use Rattle.ima_agent.proofs.shown.send_loaded.Goals as goal

pub returns-in-Ok-clause-streams : goal.returns-in-Ok-clause-streams
returns-in-Ok-clause-streams g c =
    let inputs = g.F.Files.inputs c.args.files.now in
    let held : Holds inputs (Some c.args.list.now) (slice_source_rest c.new-first.result) =
    rw (c.new-first.ensures, c.deref.ensures.value) c.in-Ok.ensures.all in
    c.send_read_through.ensures inputs (slice_gives inputs c.args.list.now c.new-first.result c.send_read_through.new.first held)
    (slice_gives inputs c.args.list.now c.new-first.result c.send_read_through.new.second held)

pub returns-in-Err-clause-streams : goal.returns-in-Err-clause-streams
returns-in-Err-clause-streams g c =
    none_said _ _ c.in-Err.fault (λ last status failure. alone (g.F.Files.inputs c.args.files.now) c.args.list.now c.in-Err.fault last status
    (inl c.in-Err.ensures.fault) failure)

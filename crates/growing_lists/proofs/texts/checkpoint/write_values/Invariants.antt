use Rattle.std.proofs.Common.{take}
use Rattle.std.specs.Prelude.{flat_map}
use Rattle.byte_streams.proofs.SinkLaws.{Sent}
use Rattle.pcr_values.specs.Names.{all_registers}
use Rattle.growing_lists.specs.CheckpointTexts.{value_line}
use Rattle.growing_lists.proofs.texts.checkpoint.write_values.Given as goal

abbrev pub invariant-loop-register : goal.invariant-loop-register
invariant-loop-register g l =
    Sent (g.S.Sink.state l.initial.sink) (g.S.Sink.state l.sink) (flat_map (value_line l.banks l.alg) (take l.register all_registers))

use Rattle.std.proofs.Common.{take}
use Rattle.std.specs.Prelude.{flat_map}
use Rattle.byte_streams.proofs.SinkLaws.{Sent}
use Rattle.pcr_values.specs.Names.{expected_line}
use Rattle.pcr_values.proofs.texts.expected.write_expected.Given as goal

abbrev pub invariant-loop-register : goal.invariant-loop-register
invariant-loop-register g l =
    Sent (g.S.Sink.state l.initial.sink) (g.S.Sink.state l.sink) (flat_map expected_line (take l.register-index l.expected))

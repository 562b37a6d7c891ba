use Rattle.std.proofs.Common.{take}
use Rattle.std.specs.Prelude.{flat_map}
use Rattle.byte_streams.proofs.SinkLaws.{Sent}
use Rattle.pcr_values.specs.Names.{every_register, register_change}
use Rattle.pcr_values.proofs.texts.registers.write_registers.Given as goal

abbrev pub invariant-loop-number : goal.invariant-loop-number
invariant-loop-number g l =
    Sent (g.S.Sink.state l.initial.sink) (g.S.Sink.state l.sink)
    (flat_map (λ register. register_change l.now l.start register.0 register.1) (take l.number every_register))

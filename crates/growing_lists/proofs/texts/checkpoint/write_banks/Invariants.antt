use Rattle.std.proofs.Common.{take}
use Rattle.std.specs.Prelude.{flat_map}
use Rattle.pcr_banks.specs.Names.{all_algs}
use Rattle.byte_streams.proofs.SinkLaws.{Sent}
use Rattle.growing_lists.specs.CheckpointTexts.{bank_lines}
use Rattle.growing_lists.proofs.texts.checkpoint.write_banks.Given as goal

abbrev pub invariant-loop-alg : goal.invariant-loop-alg
invariant-loop-alg g l = Sent (g.S.Sink.state l.initial.sink) (g.S.Sink.state l.sink)
    (flat_map (bank_lines l.banks) (take l.alg-index all_algs))

use Rattle.std.proofs.Common.{take}
use Rattle.std.specs.Prelude.{flat_map}
use Rattle.byte_streams.proofs.SinkLaws.{Sent}
use Rattle.answers.specs.ReportTexts.{row_text}
use Rattle.answers.proofs.report_texts.write_rows.Given as goal

abbrev pub invariant-loop-row : goal.invariant-loop-row
invariant-loop-row g l = Sent (g.S.Sink.state l.initial.sink) (g.S.Sink.state l.sink) (flat_map row_text (take l.row-index l.rows))

use Rattle.byte_streams.proofs.SinkLaws.{Sends-then, Sends-stops}
use Rattle.answers.proofs.report_texts.write_report.Goals as goal

pub returns-in_err-write_counts : goal.returns-in_err-write_counts
returns-in_err-write_counts g c = Sends-stops _ _ _ _ _ _ _ c.from_residual.ensures.1 c.in_err-write_counts.ensures

pub returns : goal.returns
returns g c = Sends-then _ _ _ tt _ _ _ c.in_ok-write_counts.ensures (rw c.matches.ensures at c.write_outcome.ensures)

use Rattle.byte_streams.proofs.SinkLaws.{Sends-same, Sends-then, Sends-stops}
use Rattle.answers.proofs.report_texts.write_outcome.Goals as goal

pub returns-in_err-write_aggregate : goal.returns-in_err-write_aggregate
returns-in_err-write_aggregate g c = Sends-stops _ _ _ _ _ _ _ c.from_residual.ensures.1 c.in_err-write_aggregate.ensures

pub returns-in_err-write_rows : goal.returns-in_err-write_rows
returns-in_err-write_rows g c =
    let stopped = rw c.deref.ensures.value at c.in_err-write_rows.ensures in
    Sends-then _ _ _ tt _ _ _ c.in_ok-write_aggregate.ensures
    (Sends-stops _ _ _ _ _ _ _ c.from_residual-in_err-write_rows.ensures.1 stopped)

pub returns : goal.returns
returns g c =
    let rows = rw c.deref.ensures.value at c.in_ok-write_rows.ensures in
    Sends-then _ _ _ tt _ _ _ c.in_ok-write_aggregate.ensures (Sends-then _ _ _ tt _ _ _ rows (Sends-same _ _ _ _ _ c.verdict_line.ensures c.send.ensures))

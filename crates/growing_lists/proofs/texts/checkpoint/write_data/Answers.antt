use Rattle.byte_streams.proofs.SinkLaws.{Sends-same, Sends-then, Sends-stops}
use Rattle.growing_lists.proofs.CheckpointLaws.{data_parts}
use Rattle.growing_lists.proofs.texts.checkpoint.write_data.Goals as goal

pub returns-in_err-write_counts : goal.returns-in_err-write_counts
returns-in_err-write_counts g c =
    Sends-same _ _ _ _ _ (data_parts c.args.checkpoint.now)
    (Sends-stops _ _ _ _ _ _ _ c.from_residual.ensures.1 c.in_err-write_counts.ensures)

pub returns-in_err-write_recorded : goal.returns-in_err-write_recorded
returns-in_err-write_recorded g c =
    Sends-same _ _ _ _ _ (data_parts c.args.checkpoint.now)
    (Sends-then _ _ _ tt _ _ _ c.in_ok-write_counts.ensures
    (Sends-stops _ _ _ _ _ _ _ c.from_residual-in_err-write_recorded.ensures.1 c.in_err-write_recorded.ensures))

pub returns-in_err-write_told : goal.returns-in_err-write_told
returns-in_err-write_told g c =
    Sends-same _ _ _ _ _ (data_parts c.args.checkpoint.now)
    (Sends-then _ _ _ tt _ _ _ c.in_ok-write_counts.ensures
    (Sends-then _ _ _ tt _ _ _ c.in_ok-write_recorded.ensures
    (Sends-stops _ _ _ _ _ _ _ c.from_residual-in_err-write_told.ensures.1 c.in_err-write_told.ensures)))

pub returns-in_err-write_section : goal.returns-in_err-write_section
returns-in_err-write_section g c =
    Sends-same _ _ _ _ _ (data_parts c.args.checkpoint.now)
    (Sends-then _ _ _ tt _ _ _ c.in_ok-write_counts.ensures
    (Sends-then _ _ _ tt _ _ _ c.in_ok-write_recorded.ensures
    (Sends-then _ _ _ tt _ _ _ c.in_ok-write_told.ensures
    (Sends-stops _ _ _ _ _ _ _ c.from_residual-in_err-write_section.ensures.1 c.in_err-write_section.ensures))))

pub returns-in_err-write_section-2 : goal.returns-in_err-write_section-2
returns-in_err-write_section-2 g c =
    Sends-same _ _ _ _ _ (data_parts c.args.checkpoint.now)
    (Sends-then _ _ _ tt _ _ _ c.in_ok-write_counts.ensures
    (Sends-then _ _ _ tt _ _ _ c.in_ok-write_recorded.ensures
    (Sends-then _ _ _ tt _ _ _ c.in_ok-write_told.ensures
    (Sends-then _ _ _ tt _ _ _ c.in_ok-write_section.ensures
    (Sends-stops _ _ _ _ _ _ _ c.from_residual-in_err-write_section-2.ensures.1 c.in_err-write_section-2.ensures)))))

pub returns : goal.returns
returns g c =
    Sends-same _ _ _ _ _ (data_parts c.args.checkpoint.now)
    (Sends-then _ _ _ tt _ _ _ c.in_ok-write_counts.ensures
    (Sends-then _ _ _ tt _ _ _ c.in_ok-write_recorded.ensures
    (Sends-then _ _ _ tt _ _ _ c.in_ok-write_told.ensures
    (Sends-then _ _ _ tt _ _ _ c.in_ok-write_section.ensures
    (Sends-then _ _ _ tt _ _ _ c.in_ok-write_section-2.ensures c.write_stray.ensures)))))

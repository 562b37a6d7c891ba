use Rattle.byte_streams.proofs.SinkLaws.{Sends-same, Sends-then, Sends-stops}
use Rattle.growing_lists.proofs.CheckpointLaws.{body_parts}
use Rattle.growing_lists.proofs.texts.checkpoint.write_body.Goals as goal

pub returns-in_err-send : goal.returns-in_err-send
returns-in_err-send g c =
    Sends-same _ _ _ _ _ (body_parts c.args.state.now) (Sends-stops _ _ _ _ _ _ _ c.from_residual.ensures.1 c.in_err-send.ensures)

pub returns-in_err-write_data : goal.returns-in_err-write_data
returns-in_err-write_data g c =
    Sends-same _ _ _ _ _ (body_parts c.args.state.now)
    (Sends-then _ _ _ tt _ _ _ c.in_ok-send.ensures
    (Sends-stops _ _ _ _ _ _ _ c.from_residual-in_err-write_data.ensures.1 c.in_err-write_data.ensures))

pub returns : goal.returns
returns g c =
    Sends-same _ _ _ _ _ (body_parts c.args.state.now)
    (Sends-then _ _ _ tt _ _ _ c.in_ok-send.ensures
    (Sends-then _ _ _ tt _ _ _ c.in_ok-write_data.ensures c.write_boot.ensures))

use Rattle.std.proofs.Common.{append_assoc, ◌++◌, ◌∙◌}
use Rattle.growing_lists.specs.CheckpointTexts.{boot_lines, data_lines}
use Rattle.growing_lists.proofs.checkpoint_reader.state_at.Goals as goal

pub returns-in_err-checkpoint : goal.returns-in_err-checkpoint
returns-in_err-checkpoint c =
    λ known rest possible is.
    absurd (c.in_err-checkpoint.ensures known.checkpoint (boot_lines known.boot ++ rest) possible.checkpoint
    (is ∙ append_assoc (data_lines known.checkpoint) (boot_lines known.boot) rest))

pub returns-in_err-boot : goal.returns-in_err-boot
returns-in_err-boot c =
    λ known rest possible is.
    let first = c.in_ok-checkpoint.ensures known.checkpoint (boot_lines known.boot ++ rest) possible.checkpoint
    (is ∙ append_assoc (data_lines known.checkpoint) (boot_lines known.boot) rest) in
    absurd (c.in_err-boot.ensures known.boot rest possible.boot first.1)

pub returns : goal.returns
returns c =
    λ known rest possible is.
    let first = c.in_ok-checkpoint.ensures known.checkpoint (boot_lines known.boot ++ rest) possible.checkpoint
    (is ∙ append_assoc (data_lines known.checkpoint) (boot_lines known.boot) rest) in
    record { checkpoint = first.0; boot = (c.in_ok-boot.ensures known.boot rest possible.boot first.1).0 }

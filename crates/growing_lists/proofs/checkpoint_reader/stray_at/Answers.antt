use Rattle.std.proofs.Common.{codes, ◌++◌, ◌∙◌}
use Rattle.growing_lists.specs.CheckpointTexts.{number_line, stray_entry, stray_register}
use Rattle.growing_lists.proofs.CheckpointLaws.{entry_fits, register_fits, stray_apart}
use Rattle.growing_lists.proofs.checkpoint_reader.stray_at.Goals as goal

pub returns-in_err-register : goal.returns-in_err-register
returns-in_err-register c =
    λ stray rest is text.
    absurd (c.in_err-register.ensures (stray_register stray) (number_line (codes "entry ") (stray_entry stray) ++ rest) (register_fits stray is)
    (text ∙ stray_apart stray rest))

pub returns-in_err-entry : goal.returns-in_err-entry
returns-in_err-entry c =
    λ stray rest is text.
    let first = c.in_ok-register.ensures (stray_register stray) (number_line (codes "entry ") (stray_entry stray) ++ rest) (register_fits stray is)
    (text ∙ stray_apart stray rest) in
    absurd (c.in_err-entry.ensures (stray_entry stray) rest (entry_fits stray is) first.1)

pub returns : goal.returns
returns c =
    λ stray rest is text.
    let first = c.in_ok-register.ensures (stray_register stray) (number_line (codes "entry ") (stray_entry stray) ++ rest) (register_fits stray is)
    (text ∙ stray_apart stray rest) in
    let second = c.in_ok-entry.ensures (stray_entry stray) rest (entry_fits stray is) first.1 in
    (c.stray_of.ensures stray is first.0 second.0, second.1)

use Rattle.std.proofs.Common.{sym, ◌∙◌, ◌++◌}
use Rattle.std.proofs.lemmas.List.{append_cancel_left}
use Rattle.growing_lists.specs.CheckpointTexts.{banks_lines}
use Rattle.growing_lists.proofs.checkpoint_reader.section_at.Goals as goal

pub returns : goal.returns
returns c =
    λ known rest have is.
    c.banks_at.ensures known rest have
    (append_cancel_left c.args.word.now c.in_ok-after_prefix.field-0.now (banks_lines known ++ rest) (sym c.in_ok-after_prefix.ensures.found ∙ is))

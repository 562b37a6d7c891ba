use Rattle.std.proofs.Common.{codes, ◌++◌}
use Rattle.growing_lists.specs.CheckpointTexts.{recorded_words}
use Rattle.growing_lists.proofs.CheckpointLaws.{cut_line, has_line, has_word, recorded_lack}
use Rattle.growing_lists.proofs.checkpoint_reader.recorded_at.Goals as goal

pub returns-in_err-after_prefix : goal.returns-in_err-after_prefix
returns-in_err-after_prefix c =
    λ recorded rest hash is.
    absurd (has_word (codes "boot_aggregate ") (recorded_words recorded ++ codes "\n") rest c.args.text.now is c.in_err-after_prefix.ensures.none)

pub returns-in_err-words : goal.returns-in_err-words
returns-in_err-words c =
    λ recorded rest hash is.
    absurd (has_line (codes "boot_aggregate ") (recorded_words recorded) rest c.args.text.now c.in_ok-after_prefix.field-0.now is
    c.in_ok-after_prefix.ensures.found c.in_err-words.ensures.none)

pub returns-in_err-recorded_by : goal.returns-in_err-recorded_by
returns-in_err-recorded_by c =
    λ recorded rest hash is.
    let cut = cut_line (codes "boot_aggregate ") (recorded_words recorded) rest c.args.text.now c.in_ok-after_prefix.field-0.now
    c.in_ok-words.words.now c.in_ok-words.rest.now (recorded_lack recorded hash) is c.in_ok-after_prefix.ensures.found c.in_ok-words.ensures.cut in
    absurd (c.in_err-recorded_by.ensures recorded hash cut.0)

pub returns : goal.returns
returns c =
    λ recorded rest hash is.
    let cut = cut_line (codes "boot_aggregate ") (recorded_words recorded) rest c.args.text.now c.in_ok-after_prefix.field-0.now
    c.in_ok-words.words.now c.in_ok-words.rest.now (recorded_lack recorded hash) is c.in_ok-after_prefix.ensures.found c.in_ok-words.ensures.cut in
    (c.in_ok-recorded_by.ensures recorded hash cut.0, cut.1)

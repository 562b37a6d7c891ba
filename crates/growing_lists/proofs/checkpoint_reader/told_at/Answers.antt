use Rattle.std.proofs.Common.{codes, ◌++◌}
use Rattle.growing_lists.specs.CheckpointTexts.{recorded_words}
use Rattle.growing_lists.proofs.CheckpointLaws.{cut_line, has_line, line_told, none_told, recorded_lack}
use Rattle.growing_lists.proofs.checkpoint_reader.told_at.Goals as goal

pub returns-in_default : goal.returns-in_default
returns-in_default c = λ told rest hash is. none_told told (codes "before\n" ++ rest) c.args.text.now is c.in_default.ensures.none

pub returns-in_err-words : goal.returns-in_err-words
returns-in_err-words c =
    λ told rest hash is.
    let line = line_told told rest c.args.text.now c.in-Some.line.now is c.in-Some.ensures.found in
    absurd (has_line (codes "boot_aggregate_told ") (recorded_words told) (codes "before\n" ++ rest) c.args.text.now c.in-Some.line.now line
    c.in-Some.ensures.found c.in_err-words.ensures.none)

pub returns-in_err-recorded_by : goal.returns-in_err-recorded_by
returns-in_err-recorded_by c =
    λ told rest hash is.
    let line = line_told told rest c.args.text.now c.in-Some.line.now is c.in-Some.ensures.found in
    let cut = cut_line (codes "boot_aggregate_told ") (recorded_words told) (codes "before\n" ++ rest) c.args.text.now c.in-Some.line.now
    c.in_ok-words.words.now c.in_ok-words.rest.now (recorded_lack told hash) line c.in-Some.ensures.found c.in_ok-words.ensures.cut in
    absurd (c.in_err-recorded_by.ensures told hash cut.0)

pub returns : goal.returns
returns c =
    λ told rest hash is.
    let line = line_told told rest c.args.text.now c.in-Some.line.now is c.in-Some.ensures.found in
    let cut = cut_line (codes "boot_aggregate_told ") (recorded_words told) (codes "before\n" ++ rest) c.args.text.now c.in-Some.line.now
    c.in_ok-words.words.now c.in_ok-words.rest.now (recorded_lack told hash) line c.in-Some.ensures.found c.in_ok-words.ensures.cut in
    (c.in_ok-recorded_by.ensures told hash cut.0, cut.1)

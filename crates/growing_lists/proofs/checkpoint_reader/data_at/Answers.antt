use Rattle.std.proofs.Common.{arith, ◌∙◌}
use Rattle.growing_lists.proofs.CheckpointLaws.{after_before, after_bytes, after_entries, after_after, after_recorded, data_apart, from_before, stray_fits}
use Rattle.growing_lists.proofs.checkpoint_reader.data_at.Goals as goal

pub returns-in_err-entries : goal.returns-in_err-entries
returns-in_err-entries c =
    λ known rest possible is.
    absurd (c.in_err-entries.ensures known.entries (after_entries known rest) (omega (arith, possible.counted.size, possible.counted.room))
    (is ∙ data_apart known rest))

pub returns-in_err-bytes : goal.returns-in_err-bytes
returns-in_err-bytes c =
    λ known rest possible is.
    let first = c.in_ok-entries.ensures known.entries (after_entries known rest) (omega (arith, possible.counted.size, possible.counted.room))
    (is ∙ data_apart known rest) in
    absurd (c.in_err-bytes.ensures known.bytes (after_bytes known rest) (omega (arith, possible.counted.room)) first.1)

pub returns-in_err-recorded : goal.returns-in_err-recorded
returns-in_err-recorded c =
    λ known rest possible is.
    let first = c.in_ok-entries.ensures known.entries (after_entries known rest) (omega (arith, possible.counted.size, possible.counted.room))
    (is ∙ data_apart known rest) in
    let second = c.in_ok-bytes.ensures known.bytes (after_bytes known rest) (omega (arith, possible.counted.room)) first.1 in
    absurd (c.in_err-recorded.ensures known.recorded (after_recorded known rest) possible.recorded second.1)

pub returns-in_err-told : goal.returns-in_err-told
returns-in_err-told c =
    λ known rest possible is.
    let first = c.in_ok-entries.ensures known.entries (after_entries known rest) (omega (arith, possible.counted.size, possible.counted.room))
    (is ∙ data_apart known rest) in
    let second = c.in_ok-bytes.ensures known.bytes (after_bytes known rest) (omega (arith, possible.counted.room)) first.1 in
    let third = c.in_ok-recorded.ensures known.recorded (after_recorded known rest) possible.recorded second.1 in
    absurd (c.in_err-told.ensures known.told (from_before known rest) possible.told third.1)

pub returns-in_err-before : goal.returns-in_err-before
returns-in_err-before c =
    λ known rest possible is.
    let first = c.in_ok-entries.ensures known.entries (after_entries known rest) (omega (arith, possible.counted.size, possible.counted.room))
    (is ∙ data_apart known rest) in
    let second = c.in_ok-bytes.ensures known.bytes (after_bytes known rest) (omega (arith, possible.counted.room)) first.1 in
    let third = c.in_ok-recorded.ensures known.recorded (after_recorded known rest) possible.recorded second.1 in
    let told = c.in_ok-told.ensures known.told (from_before known rest) possible.told third.1 in
    absurd (c.in_err-before.ensures known.before (after_before known rest) possible.before told.1)

pub returns-in_err-after : goal.returns-in_err-after
returns-in_err-after c =
    λ known rest possible is.
    let first = c.in_ok-entries.ensures known.entries (after_entries known rest) (omega (arith, possible.counted.size, possible.counted.room))
    (is ∙ data_apart known rest) in
    let second = c.in_ok-bytes.ensures known.bytes (after_bytes known rest) (omega (arith, possible.counted.room)) first.1 in
    let third = c.in_ok-recorded.ensures known.recorded (after_recorded known rest) possible.recorded second.1 in
    let told = c.in_ok-told.ensures known.told (from_before known rest) possible.told third.1 in
    let fourth = c.in_ok-before.ensures known.before (after_before known rest) possible.before told.1 in
    absurd (c.in_err-after.ensures known.after (after_after known rest) possible.after fourth.1)

pub returns-in_err-stray : goal.returns-in_err-stray
returns-in_err-stray c =
    λ known rest possible is.
    let first = c.in_ok-entries.ensures known.entries (after_entries known rest) (omega (arith, possible.counted.size, possible.counted.room))
    (is ∙ data_apart known rest) in
    let second = c.in_ok-bytes.ensures known.bytes (after_bytes known rest) (omega (arith, possible.counted.room)) first.1 in
    let third = c.in_ok-recorded.ensures known.recorded (after_recorded known rest) possible.recorded second.1 in
    let told = c.in_ok-told.ensures known.told (from_before known rest) possible.told third.1 in
    let fourth = c.in_ok-before.ensures known.before (after_before known rest) possible.before told.1 in
    let fifth = c.in_ok-after.ensures known.after (after_after known rest) possible.after fourth.1 in
    let stray = stray_fits known.entries known.stray (omega (arith, possible.counted.size, possible.counted.room)) possible.counted.stray in
    absurd (c.in_err-stray.ensures known.stray rest stray fifth.1)

pub returns : goal.returns
returns c =
    λ known rest possible is.
    let first = c.in_ok-entries.ensures known.entries (after_entries known rest) (omega (arith, possible.counted.size, possible.counted.room))
    (is ∙ data_apart known rest) in
    let second = c.in_ok-bytes.ensures known.bytes (after_bytes known rest) (omega (arith, possible.counted.room)) first.1 in
    let third = c.in_ok-recorded.ensures known.recorded (after_recorded known rest) possible.recorded second.1 in
    let told = c.in_ok-told.ensures known.told (from_before known rest) possible.told third.1 in
    let fourth = c.in_ok-before.ensures known.before (after_before known rest) possible.before told.1 in
    let fifth = c.in_ok-after.ensures known.after (after_after known rest) possible.after fourth.1 in
    let stray = stray_fits known.entries known.stray (omega (arith, possible.counted.size, possible.counted.room)) possible.counted.stray in
    let sixth = c.in_ok-stray.ensures known.stray rest stray fifth.1 in
    (record { entries = first.0; bytes = second.0; recorded = third.0; told = told.0; before = fourth.0; after = fifth.0; stray = sixth.0 }, sixth.1)

use Rattle.std.proofs.Common.{decimal}
use Rattle.growing_lists.proofs.CheckpointLaws.{cut_line, has_line, number_lacks}
use Rattle.growing_lists.proofs.checkpoint_reader.number_at.Goals as goal

pub returns-in_err-digits : goal.returns-in_err-digits
returns-in_err-digits c =
    λ number rest small is.
    absurd (has_line c.args.word.now (decimal number) rest c.args.text.now c.in_ok-after_prefix.field-0.now is c.in_ok-after_prefix.ensures.found
    c.in_err-digits.ensures.none)

pub returns-in_err-number_named : goal.returns-in_err-number_named
returns-in_err-number_named c =
    λ number rest small is.
    let cut = cut_line c.args.word.now (decimal number) rest c.args.text.now c.in_ok-after_prefix.field-0.now c.in_ok-digits.digits.now
    c.in_ok-digits.rest.now (number_lacks number small) is c.in_ok-after_prefix.ensures.found c.in_ok-digits.ensures.cut in
    absurd (c.in_err-number_named.ensures number small cut.0)

pub returns : goal.returns
returns c =
    λ number rest small is.
    let cut = cut_line c.args.word.now (decimal number) rest c.args.text.now c.in_ok-after_prefix.field-0.now c.in_ok-digits.digits.now
    c.in_ok-digits.rest.now (number_lacks number small) is c.in_ok-after_prefix.ensures.found c.in_ok-digits.ensures.cut in
    (c.in_ok-number_named.ensures number small cut.0, cut.1)

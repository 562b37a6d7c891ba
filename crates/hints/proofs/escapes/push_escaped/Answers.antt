use Rattle.std.proofs.Common.{append_assoc, refl, sym, ◌∙◌}
use Rattle.hints.proofs.EscapingLaws.{escaped_byte_is_printable, hidden_byte, printable_is_ascii}
use Rattle.hints.proofs.escapes.push_escaped.Goals as goal

pub returns-clause-text : goal.returns-clause-text
returns-clause-text c =
    let high = c.push-2.ensures.ascii (printable_is_ascii c.digit.result c.digit.ensures.printable) in
    let low = c.push-3.ensures.ascii (printable_is_ascii c.digit-2.result c.digit-2.ensures.printable) in
    let hidden = hidden_byte c.args.byte (sym c.is_printable.ensures ∙ c.if-is_printable.false) in
    rw (
      c.in_ok-push-2.ensures.bytes,
      c.in_ok-push.ensures.bytes,
      c.in_ok-push_str.ensures.bytes,
      high,
      low,
      c.digit.ensures.digit,
      c.digit-2.ensures.digit,
      hidden,
    ) (simp append_assoc refl)

pub returns-clause-printable : goal.returns-clause-printable
returns-clause-printable c = escaped_byte_is_printable c.args.byte c.ranges.byte.fits

pub returns-in_err-push_str-clause-printable : goal.returns-in_err-push_str-clause-printable
returns-in_err-push_str-clause-printable c = escaped_byte_is_printable c.args.byte c.ranges.byte.fits

pub returns-in_err-push-clause-printable : goal.returns-in_err-push-clause-printable
returns-in_err-push-clause-printable c = escaped_byte_is_printable c.args.byte c.ranges.byte.fits

pub returns-in_err-push-2-clause-printable : goal.returns-in_err-push-2-clause-printable
returns-in_err-push-2-clause-printable c = escaped_byte_is_printable c.args.byte c.ranges.byte.fits

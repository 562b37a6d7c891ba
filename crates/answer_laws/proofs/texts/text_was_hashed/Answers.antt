use Rattle.measured_data.specs.Confirming.{confirmed_part}
use Rattle.answer_laws.proofs.TextLaws.{event_digest, was_hashed}
use Rattle.answer_laws.proofs.texts.text_was_hashed.Goals as goal

pub returns : goal.returns
returns c matched alg register locality events text digests tells answering same =
    was_hashed alg register locality events digests text tells
    (event_digest matched tells.event register alg (confirmed_part matched tells.event) text
    (c.parts_are_the_first.ensures.confirmed matched tells.event tells.fits) tells.told tells.extended answering) same

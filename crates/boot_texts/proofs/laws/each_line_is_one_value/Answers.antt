use Rattle.boot_texts.proofs.AnswerLineLaws.{alike_is_one, apart_is_one, asked_is_one, claim_is_one, command_is_one, event_is_one, image_is_one, possible_is_one, text_is_one, unanswered_is_one, unknown_command_is_one, variable_is_one, version_is_one, word_is_one}
use Rattle.boot_texts.proofs.laws.each_line_is_one_value.Goals as goal

pub returns : goal.returns
returns c = record {
  word = word_is_one;
  version = version_is_one;
  image = image_is_one;
  command = command_is_one;
  text = text_is_one;
  unknown_command = unknown_command_is_one;
  unanswered = unanswered_is_one;
  asked = asked_is_one;
  possible = possible_is_one;
  variable = variable_is_one;
  claim = claim_is_one;
  alike = alike_is_one;
  apart = apart_is_one;
  event = event_is_one;
}

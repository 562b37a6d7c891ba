use Rattle.error_texts.proofs.SentenceLaws.{each_error}
use Rattle.error_texts.proofs.laws.each_error_has_a_sentence.Goals as goal

pub returns : goal.returns
returns c = each_error

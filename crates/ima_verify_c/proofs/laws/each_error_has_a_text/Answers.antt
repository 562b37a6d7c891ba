use Rattle.ima_verify_c.proofs.ErrorLaws.{each_text}
use Rattle.ima_verify_c.proofs.laws.each_error_has_a_text.Goals as goal

pub returns : goal.returns
returns c = each_text

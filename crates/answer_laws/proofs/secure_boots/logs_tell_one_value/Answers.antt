use Rattle.answer_laws.proofs.SecureBootLaws.{logs_tell_one}
use Rattle.answer_laws.proofs.secure_boots.logs_tell_one_value.Goals as goal

pub returns : goal.returns
returns c = logs_tell_one

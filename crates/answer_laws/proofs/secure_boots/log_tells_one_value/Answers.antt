use Rattle.boot_answers.proofs.SecureBootLaws.{one_told}
use Rattle.answer_laws.proofs.secure_boots.log_tells_one_value.Goals as goal

pub returns : goal.returns
returns c matched others events value other told told_too =
    one_told told.alg told_too.alg events value other (told.tells told.alg told.answering) (told_too.tells told_too.alg told_too.answering)

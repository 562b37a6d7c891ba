use Rattle.known_files.proofs.AnswerLaws.{weak_texts}
use Rattle.known_files.proofs.laws.none_by_sha1.Goals as goal

pub returns : goal.returns
returns c = weak_texts

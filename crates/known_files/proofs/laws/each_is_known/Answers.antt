use Rattle.known_files.proofs.AnswerLaws.{known_first, known_from, known_later, known_list}
use Rattle.known_files.proofs.laws.each_is_known.Goals as goal

pub returns-clause-list : goal.returns-clause-list
returns-clause-list c = known_list

pub returns-clause-first : goal.returns-clause-first
returns-clause-first c = known_first

pub returns-clause-later : goal.returns-clause-later
returns-clause-later c = known_later

pub returns-clause-from : goal.returns-clause-from
returns-clause-from c = known_from

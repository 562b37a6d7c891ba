use Rattle.answers.proofs.list_report.list_meets.Goals as goal

pub returns-in-Some : goal.returns-in-Some
returns-in-Some c = rw c.in-Some.is c.meets.ensures

pub returns-in-None : goal.returns-in-None
returns-in-None c = rw c.in-None.is c.matches.ensures

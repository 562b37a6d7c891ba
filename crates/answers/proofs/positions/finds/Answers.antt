use Rattle.answers.proofs.positions.finds.Goals as goal

pub returns-in-Some : goal.returns-in-Some
returns-in-Some c = rw c.in-Some.is c.required_found.ensures

pub returns-in-None : goal.returns-in-None
returns-in-None c = rw c.in-None.is c.all_found.ensures

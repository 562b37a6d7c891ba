use Rattle.answers.proofs.attestation.show_list_counts.Goals as goal

pub returns-in-None : goal.returns-in-None
returns-in-None c = rw c.in-None.is c.show_counts.ensures

pub returns-in-Some : goal.returns-in-Some
returns-in-Some c = rw c.in-Some.is c.show_prefix_counts.ensures

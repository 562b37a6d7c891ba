use Rattle.std.proofs.Common.{rules, inr, refl}
use Rattle.known_files.proofs.listed.ListedFiles.take_line.Goals as goal

pub returns-in-None-clause-fault : goal.returns-in-None-clause-fault
returns-in-None-clause-fault c =
    inr (refl, λ digest says. absurd (let found = (c.digest_on.ensures.says digest).1 says in let none = c.in-None.is in cc))

pub returns-in-Some-Sha1-clause-fault : goal.returns-in-Some-Sha1-clause-fault
returns-in-Some-Sha1-clause-fault c =
    inr (refl, (c.in-Some-Sha1.field-0, (c.digest_on.ensures.says c.in-Some-Sha1.field-0).0 c.in-Some-Sha1.is, search rules))

use Rattle.std.proofs.Common.{refl}
use Rattle.known_files.proofs.UnknownLaws.{begins_after}
use Rattle.known_files.proofs.unknown.UnknownEntries.new.Goals as goal

pub returns-clause-fresh : goal.returns-clause-fresh
returns-clause-fresh c = record { known_is = refl; first_is = refl; none = c.new.ensures.items; whole = refl }

pub returns-clause-begins : goal.returns-clause-begins
returns-clause-begins c = λ entries early. begins_after _ c.args.first _ entries (returns-clause-fresh c) early

use Rattle.std.proofs.Common.{◌≡◌, ◌↔◌, true, sym, subst}
use Rattle.known_files.specs.EntryFiles.{IsKnown}
use Rattle.known_files.proofs.KnownLaws.{known_iff}
use Rattle.known_files.proofs.known.KnownFiles.is_known.Goals as goal

pub returns-clause-known : goal.returns-clause-known
returns-clause-known c = λ texts knows.
    subst (λ b. (b ≡ true) ↔ IsKnown texts c.args.entry.now) (sym (c.knows.ensures texts knows)) (known_iff texts c.args.entry.now)

use Rattle.std.proofs.Common.{◌≡◌, ◌↔◌, true, sym, subst, ◌∙◌}
use Rattle.known_files.specs.Listing.{IsListed}
use Rattle.known_files.proofs.ListingLaws.{listed_iff}
use Rattle.known_files.proofs.known.KnownFiles.has.Goals as goal

pub returns-clause-listed : goal.returns-clause-listed
returns-clause-listed c = λ texts knows.
    subst (λ b. (b ≡ true) ↔ IsListed texts c.args.digest.now) (sym (c.finds.ensures ∙ knows c.args.digest.now))
    (listed_iff texts c.args.digest.now)

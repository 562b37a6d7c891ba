use Rattle.growing_lists.proofs.PrefixLaws.{known_search}
use Rattle.growing_lists.proofs.confirmation.searching.Goals as goal

pub returns-clause-replays : goal.returns-clause-replays
returns-clause-replays c =
    λ list is few. rw c.after.ensures (known_search list c.args.known.now c.args.goal is few)

use Rattle.std.proofs.Common.{◌≡◌, List, length}
use Rattle.std.specs.List.{AllByRecursion}
use Rattle.boot_log.specs.Names.{LogEvent, log_bytes}
use Rattle.boot_answers.specs.Differences.{IsKnown, digests_in}
use Rattle.boot_answers.specs.RegisterEvents.{HasGiven, unread_of}
use Rattle.boot_answers.proofs.differences.first_difference.Given as goal

abbrev pub invariant-loop-event : goal.invariant-loop-event
invariant-loop-event l =
    (given : List LogEvent) × (gone : List LogEvent) × HasGiven (log_bytes l.log) l.register given l.events
    × HasGiven (log_bytes l.other) l.register gone l.others × (digests_in l.alg given ≡ digests_in l.alg gone)
    × AllByRecursion IsKnown (digests_in l.alg given) × (l.place ≡ length given)

abbrev pub decreases-loop-event : goal.decreases-loop-event
decreases-loop-event l = length (unread_of l.events)

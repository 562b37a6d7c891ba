use Rattle.std.proofs.Common.{◌≡◌, ◌-◌, ◌≤◌, List, length, map, drop}
use Rattle.pcr_banks.specs.Names.{digest_for}
use Rattle.boot_log.specs.Names.{LogEvent, log_bytes}
use Rattle.boot_answers.specs.RegisterEvents.{HasGiven, unread_of}
use Rattle.boot_answers.proofs.alike_events.digests_from.Given as goal

-- The digests of the events that were given are there; `left` events are to be passed over yet.
abbrev pub invariant-loop-event : goal.invariant-loop-event
invariant-loop-event l =
    (given : List LogEvent) × HasGiven (log_bytes l.log) l.register given l.events × (l.left ≡ l.place - length given)
    × (l.digests.items ≡ drop l.place (map (λ event. digest_for event.digests l.alg) given)) × (length l.digests.items ≤ 256)

abbrev pub decreases-loop-event : goal.decreases-loop-event
decreases-loop-event l = length (unread_of l.events)

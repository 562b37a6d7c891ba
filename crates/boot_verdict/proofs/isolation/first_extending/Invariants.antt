use Rattle.std.proofs.Common.{◌≡◌, List, length, None}
use Rattle.boot_log.specs.Names.{HasBorrowed, LogEvent, log_bytes, unread}
use Rattle.boot_verdict.specs.Names.{first_extending}
use Rattle.boot_verdict.proofs.isolation.first_extending.Given as goal

abbrev pub invariant-loop-event : goal.invariant-loop-event
invariant-loop-event l = (given : List LogEvent) × HasBorrowed (log_bytes l.log) given l.events × (first_extending given ≡ None)

abbrev pub decreases-loop-event : goal.decreases-loop-event
decreases-loop-event l = length (unread l.events)

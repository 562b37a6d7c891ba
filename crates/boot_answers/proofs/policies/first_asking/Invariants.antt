use Rattle.std.proofs.Common.{List, length}
use Rattle.std.specs.List.{AllByRecursion}
use Rattle.boot_log.specs.Names.{HasBorrowed, LogEvent, log_bytes, unread}
use Rattle.boot_answers.specs.Extending.{extended_events}
use Rattle.boot_answers.specs.Policies.{Passes}
use Rattle.boot_answers.proofs.policies.first_asking.Given as goal

-- The events that were read are the log's first, and those of the register among them pass.
abbrev pub invariant-loop-event : goal.invariant-loop-event
invariant-loop-event l =
    (read : List LogEvent) × HasBorrowed (log_bytes l.log) read l.events
    × AllByRecursion (Passes l.asked l.matched) (extended_events l.register read)

abbrev pub decreases-loop-event : goal.decreases-loop-event
decreases-loop-event l = length (unread l.events)

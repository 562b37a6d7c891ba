use Rattle.std.proofs.Common.{ℕ, List, [], length}
use Rattle.boot_log.specs.declared.header.DeclaredAlgorithm.{DeclaredAlgorithm}
use Rattle.boot_log.specs.Names.{HasBorrowed, IsLog, LogEvent, unread}
use Rattle.boot_verdict.specs.Names.{events_as_steps}
use Rattle.boot_verdict.proofs.location.track_events.Given as goal

abbrev pub invariant-loop-event : goal.invariant-loop-event
invariant-loop-event g l =
    (start : g.row.F.Denot) (bytes : List ℕ) (table : List DeclaredAlgorithm) (all : List LogEvent) → HasBorrowed bytes [] l.initial.events → IsLog bytes table all
    → g.F.Tracker.is_after start (length all) [] l.initial.tracker
    → (borrowed : List LogEvent) × HasBorrowed bytes borrowed l.events × g.F.Tracker.is_after start (length all) (events_as_steps borrowed) l.tracker

abbrev pub decreases-loop-event : goal.decreases-loop-event
decreases-loop-event g l = length (unread l.events)

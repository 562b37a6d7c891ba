use Rattle.std.proofs.Common.{◌≡◌, ◌++◌, ◌-◌, List, drop, length}
use Rattle.boot_log.specs.Names.{HasBorrowed, LogEvent, log_bytes, unread}
use Rattle.boot_texts.specs.Differences.{lines_from}
use Rattle.boot_texts.proofs.DifferenceLaws.{count_of}
use Rattle.boot_texts.proofs.difference_lines.append_events.Given as goal

-- The lines of the events that were read are appended; `left` of the register's events are to be passed over yet, and the marks of those
-- after the place are used.
abbrev pub invariant-loop-event : goal.invariant-loop-event
invariant-loop-event l =
    (read : List LogEvent) × HasBorrowed (log_bytes l.log) read l.events × (l.left ≡ l.place - count_of l.line.register read)
    × (l.later ≡ drop (count_of l.line.register read - l.place) l.marks)
    × (l.lines.items ≡ l.fn.lines.items ++ lines_from l.boot l.line l.place l.marks read)

abbrev pub decreases-loop-event : goal.decreases-loop-event
decreases-loop-event l = length (unread l.events)

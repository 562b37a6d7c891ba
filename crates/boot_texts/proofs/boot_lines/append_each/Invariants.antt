use Rattle.std.proofs.Common.{length}
use Rattle.boot_log.specs.Names.{log_bytes, unread}
use Rattle.boot_texts.specs.Telling.{IsEventLine}
use Rattle.boot_texts.proofs.TellingLaws.{HasTold}
use Rattle.boot_texts.proofs.boot_lines.append_each.Given as goal

abbrev pub invariant-loop-event : goal.invariant-loop-event
invariant-loop-event l = HasTold (IsEventLine l.question l.form l.matched) (log_bytes l.log) l.fn.lines.items l.lines.items l.events

abbrev pub decreases-loop-event : goal.decreases-loop-event
decreases-loop-event l = length (unread l.events)

use Rattle.event_lines.proofs.EventLaws.{event_lacks, header_lacks}
use Rattle.event_lines.proofs.laws.no_line_has_a_fault.Goals as goal

pub returns : goal.returns
returns c = record { event = event_lacks; header = header_lacks }

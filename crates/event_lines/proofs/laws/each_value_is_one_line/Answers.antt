use Rattle.event_lines.proofs.EventLaws.{brief_one_line, content_one_line, event_one_line, header_one_line}
use Rattle.event_lines.proofs.laws.each_value_is_one_line.Goals as goal

pub returns : goal.returns
returns c = record { event = event_one_line; content = content_one_line; brief = brief_one_line; header = header_one_line }

use Rattle.entry_lines.proofs.EntryMemberLaws.{entry_lacks}
use Rattle.entry_lines.proofs.laws.no_line_has_a_fault.Goals as goal

pub returns-clause-entry : goal.returns-clause-entry
returns-clause-entry c = entry_lacks

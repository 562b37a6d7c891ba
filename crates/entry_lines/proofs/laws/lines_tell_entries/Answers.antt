use Rattle.entry_lines.proofs.SameEntryLaws.{same_entry}
use Rattle.entry_lines.proofs.laws.lines_tell_entries.Goals as goal

pub returns : goal.returns
returns c number other fits others = same_entry number other c.args.first.now c.args.second.now fits others c.known.ensures c.known-2.ensures

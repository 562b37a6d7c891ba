use Rattle.std.proofs.Common.{◌≡◌, Some, take}
use Rattle.cells.specs.declared.writer.Form.TheVariants.{Json}
use Rattle.entry_lines.specs.ListLines.{entry_lines}
use Rattle.rendering.proofs.printed_lists.lines.Given as goal

abbrev pub invariant-loop-number : goal.invariant-loop-number
invariant-loop-number l = l.text.items ≡ entry_lines (Some Json) (take l.number l.entries)

use Rattle.std.proofs.Common.{ℕ, List, Some, ◌++◌, get_or, ap, ◌∙◌}
use Rattle.ima_list.specs.Names.{ListEntry}
use Rattle.cells.specs.declared.writer.Form.TheVariants.{Json}
use Rattle.entry_lines.specs.EntryJson.{entry_json}
use Rattle.entry_lines.specs.ListLines.{entry_line}
use Rattle.cells.specs.Values.{line_of}
use Rattle.rendering.proofs.EntryLineLaws.{numbered_more}
use Rattle.rendering.proofs.printed_lists.lines.Goals as goal

pub loop-number-preserved : goal.loop-number-preserved
loop-number-preserved c =
    c.in_ok-append_entry.ensures.ok
    ∙ ap (λ (entry : ListEntry). c.loop-number.text.items ++ line_of (entry_json c.loop-number.number entry))
    (c.borrowed.ensures ∙ c.index-entries-number.is)
    ∙ ap (λ (text : List ℕ). text ++ line_of (entry_json c.loop-number.number
    (get_or c.args.entries.now c.loop-number.number c.index-entries-number.result))) c.loop-number.invariant
    ∙ numbered_more (entry_line (Some Json)) c.args.entries.now c.loop-number.number c.index-entries-number.result
    c.loop-number-test.true

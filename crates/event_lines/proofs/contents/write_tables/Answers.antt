use Rattle.std.proofs.Common.{ℕ, List, ap, map}
use Rattle.event_data.specs.Names.{TableData}
use Rattle.event_lines.specs.ContentJson.{table_json}
use Rattle.cells.proofs.WrittenLaws.{none_left, one_item, some_written}
use Rattle.event_lines.proofs.contents.write_tables.Goals as goal

pub loop-table-preserved : goal.loop-table-preserved
loop-table-preserved c =
    some_written (ap (λ (taken : List TableData × List ℕ). map table_json taken.0) (rw c.in-Some.is at c.next_table.ensures.more))
    c.loop-table.invariant (one_item c.in_ok-write_table.ensures)

pub returns : goal.returns
returns c =
    none_left (ap (λ (taken : List TableData × List ℕ). map table_json taken.0) (rw c.in_default.is at c.next_table.ensures.last))
    c.loop-table.invariant

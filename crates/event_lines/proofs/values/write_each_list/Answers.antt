use Rattle.std.proofs.Common.{ℕ, List, ap, map}
use Rattle.event_data.specs.Names.{ListData}
use Rattle.event_lines.specs.ValueJson.{list_json}
use Rattle.cells.proofs.WrittenLaws.{none_left, one_item, some_written}
use Rattle.event_lines.proofs.values.write_each_list.Goals as goal

pub loop-list-preserved : goal.loop-list-preserved
loop-list-preserved c =
    some_written (ap (λ (taken : List ListData × List ℕ). map list_json taken.0) (rw c.in-Some.is at c.next_list.ensures.more))
    c.loop-list.invariant (one_item c.in_ok-write_list.ensures)

pub returns : goal.returns
returns c =
    none_left (ap (λ (taken : List ListData × List ℕ). map list_json taken.0) (rw c.in_default.is at c.next_list.ensures.last)) c.loop-list.invariant

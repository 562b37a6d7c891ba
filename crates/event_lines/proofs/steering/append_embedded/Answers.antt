use Rattle.cells.proofs.WrittenLaws.{with_line_feed}
use Rattle.event_lines.proofs.steering.append_embedded.Goals as goal

pub append_unsteered-requires : goal.append_unsteered-requires
append_unsteered-requires c =
    rw (c.deref.ensures.value, c.in_ok-push.ensures.items, c.into_inner-line.ensures.items, c.requires)
    (with_line_feed _ c.into_inner-line.ensures.utf8)

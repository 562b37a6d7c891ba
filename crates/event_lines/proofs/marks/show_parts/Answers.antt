use Rattle.std.proofs.Common.{arith}
use Rattle.pcr_banks.specs.Names.{all_algs}
use Rattle.boot_log.specs.Names.{log_event_of}
use Rattle.measured_data.specs.Measuring.{measured_part}
use Rattle.cells.proofs.CellLaws.{all_shown, no_rows, one_more}
use Rattle.event_lines.specs.EventCells.{part_cell}
use Rattle.event_lines.proofs.marks.show_parts.Goals as goal

pub loop-alg-init : goal.loop-alg-init
loop-alg-init c = no_rows (λ alg. part_cell alg (measured_part alg (log_event_of c.args.event.now))) _

pub loop-alg-preserved : goal.loop-alg-preserved
loop-alg-preserved c =
    one_more (λ alg. part_cell alg (measured_part alg (log_event_of c.args.event.now))) all_algs c.loop-alg.alg-index _ c.loop-alg-test.true
    c.loop-alg.invariant (rw c.measured_part.ensures.value at c.in_ok-show_part.ensures)

pub returns : goal.returns
returns c =
    all_shown (λ alg. part_cell alg (measured_part alg (log_event_of c.args.event.now))) all_algs c.loop-alg.alg-index (omega arith)
    c.loop-alg.invariant

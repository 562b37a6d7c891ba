use Rattle.std.proofs.Common.{take}
use Rattle.pcr_banks.specs.Names.{all_algs}
use Rattle.boot_log.specs.Names.{log_event_of}
use Rattle.measured_data.specs.Measuring.{measured_part}
use Rattle.cells.specs.Values.{member_tokens}
use Rattle.cells.proofs.CellLaws.{HasEach}
use Rattle.event_lines.specs.EventCells.{part_cell}
use Rattle.event_lines.proofs.marks.show_parts.Given as goal

abbrev pub invariant-loop-alg : goal.invariant-loop-alg
invariant-loop-alg l =
    HasEach member_tokens l.initial.out l.out (λ alg. part_cell alg (measured_part alg (log_event_of l.event))) (take l.alg-index all_algs)

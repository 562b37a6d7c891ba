use Rattle.std.proofs.Common.{◌≡◌, ◌++◌, length}
use Rattle.entry_lines.specs.KernelFieldJson.{numbers_in}
use Rattle.cells.specs.Writing.{items_written}
use Rattle.entry_lines.proofs.kernel_fields.write_numbers.Given as goal

abbrev pub invariant-loop-number : goal.invariant-loop-number
invariant-loop-number l = record {
  before : l.writer.before ≡ l.initial.writer.before;
  tokens : l.writer.tokens ++ items_written (numbers_in l.left) ≡ l.initial.writer.tokens ++ items_written (numbers_in l.fn.content);
}

abbrev pub decreases-loop-number : goal.decreases-loop-number
decreases-loop-number l = length l.left

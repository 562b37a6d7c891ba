use Rattle.std.proofs.Common.{◌≡◌, ◌++◌, length}
use Rattle.ima_list.specs.Names.{fields_left, left_of}
use Rattle.entry_lines.specs.KernelFieldJson.{fields_members}
use Rattle.cells.specs.Writing.{members_written}
use Rattle.entry_lines.proofs.kernel_fields.write_each.Given as goal

abbrev pub invariant-loop-field : goal.invariant-loop-field
invariant-loop-field l = record {
  before : l.writer.before ≡ l.initial.writer.before;
  tokens : l.writer.tokens ++ members_written (fields_members (fields_left l.left))
      ≡ l.initial.writer.tokens ++ members_written (fields_members (fields_left l.initial.fields));
}

abbrev pub decreases-loop-field : goal.decreases-loop-field
decreases-loop-field l = length (left_of l.left).0

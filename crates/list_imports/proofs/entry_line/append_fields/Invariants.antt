use Rattle.std.proofs.Common.{◌≡◌, ◌++◌, length}
use Rattle.ima_list.specs.Names.{fields_left, left_of}
use Rattle.list_imports.specs.KernelLines.{printed_forms}
use Rattle.list_imports.proofs.entry_line.append_fields.Given as goal

abbrev pub invariant-loop-field : goal.invariant-loop-field
invariant-loop-field l =
    l.out.items ++ printed_forms (fields_left l.left) ≡ l.initial.out.items ++ printed_forms (fields_left l.initial.fields)

abbrev pub decreases-loop-field : goal.decreases-loop-field
decreases-loop-field l = length (left_of l.left).0

use Rattle.std.proofs.Common.{◌≡◌, length}
use Rattle.ima_list.specs.Names.{is_read, left_of}
use Rattle.ima_list.proofs.kernel_fields.KernelFields.are_read.Given as goal

abbrev pub invariant-loop : goal.invariant-loop
invariant-loop l = is_read l.left ≡ is_read l.initial.self

abbrev pub decreases-loop : goal.decreases-loop
decreases-loop l = length (left_of l.left).0

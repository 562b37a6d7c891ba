use Rattle.std.proofs.Common.{[], ap, refl, ◌∙◌}
use Rattle.pcr_banks.specs.Names.{value_at}
use Rattle.boot_verdict.specs.Names.{is_old}
use Rattle.hints.proofs.OldLaws.{begins_here, decided_complete, decided_faulty, decided_first}
use Rattle.hints.proofs.old_aggregates.begins_with_old.Goals as goal

pub returns-in-Ok-Some : goal.returns-in-Ok-Some
returns-in-Ok-Some c =
    let list = c.args.list.now in
    let read = rw c.in-Ok-Some.field-0-is at c.in-Ok-Some.ensures.entry in
    decided_first list (value_at c.args.registers.now) _ _ c.is_of_old_kernel.result (read list [] (rw c.new.ensures (begins_here list)))
    (c.is_of_old_kernel.ensures ∙ ap (is_old (value_at c.args.registers.now)) c.recorded_by_any.ensures)

pub returns-in-Ok-None : goal.returns-in-Ok-None
returns-in-Ok-None c =
    let list = c.args.list.now in
    let end = rw c.in-Ok-None.field-0-is at c.in-Ok-None.ensures.end in
    decided_complete list (value_at c.args.registers.now) (rw c.new.ensures at (end list [] (rw c.new.ensures (begins_here list)) refl))

pub returns-in-Err : goal.returns-in-Err
returns-in-Err c =
    let list = c.args.list.now in
    decided_faulty list (value_at c.args.registers.now) c.in-Err.field-0
    (c.in-Err.ensures.fault list [] (rw c.new.ensures (begins_here list)) refl) c.in-Err.ensures.number

use Rattle.std.proofs.Common.{sym, arith, ◌∙◌}
use Rattle.ima_list.proofs.KernelFieldLaws.{are_if_read, none_if_unread}
use Rattle.ima_list.proofs.kernel_fields.fields_in.Goals as goal

pub returns-then-are_read-clause-are : goal.returns-then-are_read-clause-are
returns-then-are_read-clause-are c =
    are_if_read c.args.row.now c.args.payload.now (λ i. omega (arith, c.type_inv.payload i)) (sym c.are_read.ensures ∙ c.if-are_read.true)

pub returns-else-are_read-clause-are : goal.returns-else-are_read-clause-are
returns-else-are_read-clause-are c = none_if_unread c.args.row.now c.args.payload.now (sym c.are_read.ensures ∙ c.if-are_read.false)

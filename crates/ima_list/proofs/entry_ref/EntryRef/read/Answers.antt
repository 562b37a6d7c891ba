use Rattle.std.proofs.Common.{arith}
use Rattle.std.proofs.lemmas.Result.{err_from_is_err_and}
use Rattle.byte_fields.proofs.Steps.{IsBytes, fault_is}
use Rattle.ima_list.specs.declared.fault.ListFault.TheVariants.{Memory}
use Rattle.ima_list.specs.Names.{list_entry_in}
use Rattle.ima_list.proofs.EntryLaws.{entry_takes, entry_fault_is, nothing_truncated}
use Rattle.ima_list.proofs.ListLaws.{entry_shortens, never_memory}
use Rattle.ima_list.proofs.PieceLaws.{read_goes_on, read_fails, fault_number}
use Rattle.ima_list.proofs.entry_ref.EntryRef.read.Goals as goal

pub returns-in_err-raw-clause-fault : goal.returns-in_err-raw-clause-fault
returns-in_err-raw-clause-fault c =
    let p = err_from_is_err_and c.from_residual.result c.from_residual.ensures.1 in
    let fits : IsBytes c.args.bytes.now = λ i. omega (arith, c.type_inv.bytes i) in
    rw (p.1, p.2) (read_fails c.args.number c.args.bytes.now c.in_err-raw.field-0.0 fits c.in_err-raw.ensures)

pub returns-in_err-raw-clause-number : goal.returns-in_err-raw-clause-number
returns-in_err-raw-clause-number c =
    let p = err_from_is_err_and c.from_residual.result c.from_residual.ensures.1 in
    let fits : IsBytes c.args.bytes.now = λ i. omega (arith, c.type_inv.bytes i) in
    rw (p.1, p.2) (fault_number c.args.number c.args.bytes.now c.in_err-raw.field-0.0
    (entry_fault_is c.args.number c.args.bytes.now c.in_err-raw.field-0.0 fits c.in_err-raw.ensures))

pub returns-in_err-raw-clause-empty : goal.returns-in_err-raw-clause-empty
returns-in_err-raw-clause-empty c =
    let p = err_from_is_err_and c.from_residual.result c.from_residual.ensures.1 in
    let truncated = (nothing_truncated c.args.number).1 in
    λ none. let read = rw none at c.in_err-raw.ensures in cc

pub returns-clause-empty : goal.returns-clause-empty
returns-clause-empty c =
    let truncated = (nothing_truncated c.args.number).1 in
    λ none. let read = rw none at c.in_ok-raw.ensures in absurd cc

pub returns-in_err-raw-clause-memory : goal.returns-in_err-raw-clause-memory
returns-in_err-raw-clause-memory c =
    let p = err_from_is_err_and c.from_residual.result c.from_residual.ensures.1 in
    let fits : IsBytes c.args.bytes.now = λ i. omega (arith, c.type_inv.bytes i) in
    λ memory.
    let same = fault_is c.from_residual.result p.0 c.in_err-raw.field-0.0 Memory p.1 p.2 memory in
    never_memory c.args.number c.args.bytes.now fits (rw same at c.in_err-raw.ensures)

pub borrowed_entry-requires : goal.borrowed_entry-requires
borrowed_entry-requires c =
    let fits : IsBytes c.args.bytes.now = λ i. omega (arith, c.type_inv.bytes i) in
    (entry_takes c.args.number c.args.bytes.now (list_entry_in c.in_ok-raw.raw, c.in_ok-raw.rest.now) fits c.in_ok-raw.ensures).2.0

pub returns-clause-entry : goal.returns-clause-entry
returns-clause-entry c =
    let fits : IsBytes c.args.bytes.now = λ i. omega (arith, c.type_inv.bytes i) in
    rw c.borrowed_entry.ensures
    (read_goes_on c.args.number c.args.bytes.now (list_entry_in c.in_ok-raw.raw) c.in_ok-raw.rest.now fits c.in_ok-raw.ensures)

pub returns-clause-shorter : goal.returns-clause-shorter
returns-clause-shorter c =
    let fits : IsBytes c.args.bytes.now = λ i. omega (arith, c.type_inv.bytes i) in
    (entry_shortens c.args.number c.args.bytes.now (list_entry_in c.in_ok-raw.raw) c.in_ok-raw.rest.now fits c.in_ok-raw.ensures).1

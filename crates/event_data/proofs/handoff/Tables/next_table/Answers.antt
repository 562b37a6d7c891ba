use Rattle.std.proofs.Common.{refl}
use Rattle.event_data.specs.Names.{IsTable, table_of}
use Rattle.event_data.proofs.TakenLaws.{item_taken, item_missing, taken_fits, taken_shorter, taken_more, taken_last}
use Rattle.event_data.proofs.HandoffLaws.{table_exact, some_table, table_into, table_out}
use Rattle.event_data.proofs.handoff.Tables.next_table.Goals as goal

pub invariant_of-self : goal.invariant_of-self
invariant_of-self c = record {
  fits = taken_fits table_exact some_table c.args.self.now.rest.now (table_of c.in-Ok.table) c.in-Ok.rest.now c.args.self.now.fits c.in-Ok.ensures;
}

pub returns-in-Ok-clause-more : goal.returns-in-Ok-clause-more
returns-in-Ok-clause-more c =
    taken_more table_exact some_table c.args.self.now.rest.now (table_of c.in-Ok.table) c.in-Ok.rest.now c.args.self.now.fits c.in-Ok.ensures

pub returns-in-Ok-clause-shorter : goal.returns-in-Ok-clause-shorter
returns-in-Ok-clause-shorter c =
    taken_shorter table_exact some_table c.args.self.now.rest.now (table_of c.in-Ok.table) c.in-Ok.rest.now c.args.self.now.fits c.in-Ok.ensures

pub returns-in-Err-clause-last : goal.returns-in-Err-clause-last
returns-in-Err-clause-last c = taken_last table_exact some_table c.args.self.now.rest.now c.in-Err.field-0 c.in-Err.ensures

pub returns-in-Ok-clause-table : goal.returns-in-Ok-clause-table
returns-in-Ok-clause-table c =
    item_taken table_exact some_table IsTable table_into table_out
    c.args.self.now.rest.now (table_of c.in-Ok.table) c.in-Ok.rest.now c.args.self.now.fits c.in-Ok.ensures

pub returns-in-Err-clause-none : goal.returns-in-Err-clause-none
returns-in-Err-clause-none c =
    (item_missing table_exact some_table IsTable table_into table_out c.args.self.now.rest.now c.in-Err.field-0 c.in-Err.ensures, refl)

use Rattle.std.proofs.Common.{refl}
use Rattle.event_data.specs.Names.{IsSignatureList, list_of}
use Rattle.event_data.proofs.TakenLaws.{item_taken, item_missing, taken_fits, taken_shorter, taken_more, taken_last}
use Rattle.event_data.proofs.ListLaws.{list_exact, some_list, list_into, list_out}
use Rattle.event_data.proofs.variable.SignatureLists.next_list.Goals as goal

pub invariant_of-self : goal.invariant_of-self
invariant_of-self c = record {
  fits = taken_fits list_exact some_list c.args.self.now.rest.now (list_of c.in-Ok.list) c.in-Ok.rest.now c.args.self.now.fits c.in-Ok.ensures;
}

pub returns-in-Ok-clause-more : goal.returns-in-Ok-clause-more
returns-in-Ok-clause-more c =
    taken_more list_exact some_list c.args.self.now.rest.now (list_of c.in-Ok.list) c.in-Ok.rest.now c.args.self.now.fits c.in-Ok.ensures

pub returns-in-Ok-clause-shorter : goal.returns-in-Ok-clause-shorter
returns-in-Ok-clause-shorter c =
    taken_shorter list_exact some_list c.args.self.now.rest.now (list_of c.in-Ok.list) c.in-Ok.rest.now c.args.self.now.fits c.in-Ok.ensures

pub returns-in-Err-clause-last : goal.returns-in-Err-clause-last
returns-in-Err-clause-last c = taken_last list_exact some_list c.args.self.now.rest.now c.in-Err.field-0 c.in-Err.ensures

pub returns-in-Ok-clause-list : goal.returns-in-Ok-clause-list
returns-in-Ok-clause-list c =
    item_taken list_exact some_list IsSignatureList list_into list_out
    c.args.self.now.rest.now (list_of c.in-Ok.list) c.in-Ok.rest.now c.args.self.now.fits c.in-Ok.ensures

pub returns-in-Err-clause-none : goal.returns-in-Err-clause-none
returns-in-Err-clause-none c =
    (item_missing list_exact some_list IsSignatureList list_into list_out c.args.self.now.rest.now c.in-Err.field-0 c.in-Err.ensures, refl)

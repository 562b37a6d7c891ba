use Rattle.std.proofs.Common.{refl}
use Rattle.event_data.specs.Names.{IsBootNumber}
use Rattle.event_data.proofs.TakenLaws.{item_taken, item_missing, taken_fits, taken_more, taken_last}
use Rattle.event_data.proofs.ValueLaws.{boot_number_exact, some_number, number_into, number_out}
use Rattle.event_data.proofs.load_option.BootOrder.next_number.Goals as goal

pub invariant_of-self : goal.invariant_of-self
invariant_of-self c = record {
  fits = taken_fits boot_number_exact some_number c.args.self.now.rest.now c.in-Ok.number c.in-Ok.rest.now c.args.self.now.fits c.in-Ok.ensures;
}

pub returns-in-Ok-clause-more : goal.returns-in-Ok-clause-more
returns-in-Ok-clause-more c =
    taken_more boot_number_exact some_number c.args.self.now.rest.now c.in-Ok.number c.in-Ok.rest.now c.args.self.now.fits c.in-Ok.ensures

pub returns-in-Err-clause-last : goal.returns-in-Err-clause-last
returns-in-Err-clause-last c =
    taken_last boot_number_exact some_number c.args.self.now.rest.now c.in-Err.field-0 c.in-Err.ensures

pub returns-in-Ok-clause-number : goal.returns-in-Ok-clause-number
returns-in-Ok-clause-number c =
    item_taken boot_number_exact some_number IsBootNumber number_into number_out
    c.args.self.now.rest.now c.in-Ok.number c.in-Ok.rest.now c.args.self.now.fits c.in-Ok.ensures

pub returns-in-Err-clause-none : goal.returns-in-Err-clause-none
returns-in-Err-clause-none c =
    (item_missing boot_number_exact some_number IsBootNumber number_into number_out c.args.self.now.rest.now c.in-Err.field-0 c.in-Err.ensures, refl)

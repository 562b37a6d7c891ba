use Rattle.std.proofs.Common.{arith}
use Rattle.pcr_values.specs.Names.{all_registers}
use Rattle.pcr_values.proofs.RegisterLaws.{register_at, register_count}
use Rattle.attestations.specs.Quoted.{bank_selection_of}
use Rattle.answers.specs.AttestationCells.{number_cell}
use Rattle.cells.proofs.CellLaws.{all_shown, no_rows, one_more}
use Rattle.answers.proofs.quoted.show_numbers.Goals as goal

pub loop-register-init : goal.loop-register-init
loop-register-init c = no_rows (number_cell (bank_selection_of c.args.selected.now)) _

pub loop-register-preserved : goal.loop-register-preserved
loop-register-preserved c =
    let is = register_at c.loop-register.register (omega arith) in
    one_more (number_cell (bank_selection_of c.args.selected.now)) all_registers c.loop-register.register 0
    (omega (arith, register_count)) c.loop-register.invariant (rw (← is) at c.in_ok-show_if_selected.ensures)

pub returns : goal.returns
returns c =
    all_shown (number_cell (bank_selection_of c.args.selected.now)) all_registers c.loop-register.register
    (omega (arith, register_count)) c.loop-register.invariant

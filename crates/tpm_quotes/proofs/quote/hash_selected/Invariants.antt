use Rattle.tpm_quotes.proofs.JoiningLaws.{HasAlso, selected_below}
use Rattle.tpm_quotes.proofs.quote.hash_selected.Given as goal

abbrev pub invariant-loop-register : goal.invariant-loop-register
invariant-loop-register g l =
    HasAlso l.initial.hasher l.hasher (g.V.RegisterValues.values l.registers) (selected_below l.selection.alg l.selection.bits.now l.register)

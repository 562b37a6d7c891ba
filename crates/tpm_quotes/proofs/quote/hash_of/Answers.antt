use Rattle.std.proofs.Common.{[], ap, sym, ◌∙◌}
use Rattle.std.specs.Prelude.{option_map}
use Rattle.pcr_banks.specs.declared.alg.Alg.TheVariants.{Sha1}
use Rattle.pcr_banks.specs.Names.{digest_of, hash_of}
use Rattle.tpm_quotes.specs.declared.selection.QuotedSelection.{QuotedSelection}
use Rattle.tpm_quotes.proofs.JoiningLaws.{joins_at, lacks_at}
use Rattle.tpm_quotes.proofs.quote.hash_of.Goals as goal

absent : QuotedSelection
absent = record { alg = Sha1; bits = record { ref_ptr = (0, 0); now = [] } }

pub returns-in_err-hash_selected : goal.returns-in_err-hash_selected
unfolding absent
returns-in_err-hash_selected g c =
    let none = lacks_at c.loop-selection.hasher c.args.alg (g.V.RegisterValues.values c.args.registers.now) c.args.selections.now c.loop-selection.selection-index
    absent c.loop-selection-test.true c.loop-selection.invariant
    (c.in_err-hash_selected.ensures c.args.alg c.loop-selection.invariant.text c.loop-selection.invariant.taken) in
    c.from_residual.ensures ∙ ap (option_map (λ bytes. digest_of c.args.alg (hash_of c.args.alg bytes))) (sym none)

pub loop-selection-preserved : goal.loop-selection-preserved
unfolding absent
loop-selection-preserved g c =
    joins_at c.loop-selection.hasher c.hash_selected.new.hasher c.args.alg (g.V.RegisterValues.values c.args.registers.now) c.args.selections.now
    c.loop-selection.selection-index absent c.loop-selection-test.true c.loop-selection.invariant
    (c.in_ok-hash_selected.ensures c.args.alg c.loop-selection.invariant.text c.loop-selection.invariant.taken)

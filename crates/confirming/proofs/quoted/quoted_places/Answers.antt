use Rattle.std.proofs.Common.{List, ◌++◌, ◌∙◌, ap, sym, get_or, take_all}
use Rattle.measured_data.specs.declared.confirmed.Pcr.{Pcr}
use Rattle.attestations.specs.Quoted.{bank_selection_of}
use Rattle.confirming.specs.Matching.{places_in}
use Rattle.confirming.proofs.QuotedLaws.{one_bank_more, places_are, places_of}
use Rattle.confirming.proofs.quoted.quoted_places.Goals as goal

pub loop-selection-preserved : goal.loop-selection-preserved
loop-selection-preserved c =
    let required = c.args.required.now in
    let items = c.args.selections.now in
    let index = c.loop-selection.selection-index in
    (rw c.selection-item.is at c.in_ok-push_places.ensures)
    ∙ ap (λ (l : List Pcr). l ++ places_in required (bank_selection_of (get_or items index c.selection-item.result))) c.loop-selection.invariant
    ∙ sym (one_bank_more required items index c.selection-item.result c.loop-selection-test.true)

pub returns : goal.returns
returns c =
    c.loop-selection.invariant ∙ ap (places_of c.args.required.now) (take_all _ _ c.loop-selection-test.false)
    ∙ places_are c.args.required.now c.args.selections.now

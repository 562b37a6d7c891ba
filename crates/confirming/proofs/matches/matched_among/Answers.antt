use Rattle.std.proofs.Common.{List, [], ◌∷◌, ◌++◌, ◌∙◌, ap, sym, take, take_all}
use Rattle.pcr_banks.specs.Names.{value_at}
use Rattle.measured_data.specs.declared.confirmed.Pcr.{Pcr}
use Rattle.confirming.specs.Matching.{counts, matched_among}
use Rattle.confirming.proofs.MatchingLaws.{matched_more, unmatched_more}
use Rattle.confirming.proofs.matches.matched_among.Goals.{then-counts+in_ok-push, else-counts}
use Rattle.confirming.proofs.matches.matched_among.Goals as goal

pub loop-row-preserved : goal.loop-row-preserved
loop-row-preserved c =
    let value = value_at c.args.registers.now in
    let expected = c.args.expected.now in
    elim c.if-counts.branch [
      | then-counts+in_ok-push w ↦
          rw w.places-is (w.in_ok-push.ensures.items ∙ ap (λ (l : List Pcr). l ++ w.place_of.result ∷ []) c.loop-row.invariant
          ∙ ap (λ (place : Pcr). matched_among value expected (take c.loop-row.row-index expected) ++ place ∷ []) w.place_of.ensures
          ∙ sym (matched_more (counts value expected) expected c.loop-row.row-index _ c.loop-row-test.true
          (sym c.counts.ensures ∙ w.if-counts.true)))
      | else-counts w ↦
          rw w.places-is (c.loop-row.invariant
          ∙ sym (unmatched_more (counts value expected) expected c.loop-row.row-index _ c.loop-row-test.true
          (sym c.counts.ensures ∙ w.if-counts.false)))
    ]

pub returns : goal.returns
returns c =
    c.loop-row.invariant ∙ ap (matched_among (value_at c.args.registers.now) c.args.expected.now) (take_all _ _ c.loop-row-test.false)

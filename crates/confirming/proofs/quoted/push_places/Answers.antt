use Rattle.std.proofs.Common.{◌≡◌, List, ◌∷◌, [], ◌++◌, ◌∙◌, ap, sym, arith, append_assoc}
use Rattle.measured_data.specs.declared.confirmed.Pcr.{Pcr}
use Rattle.attestations.specs.Quoted.{bank_selection_of}
use Rattle.confirming.specs.Matching.{place_at}
use Rattle.confirming.proofs.QuotedLaws.{all_below, below, below_same, below_taken}
use Rattle.confirming.proofs.quoted.push_places.Goals.{then-is_confirmed+in_ok-push, else-is_confirmed}
use Rattle.confirming.proofs.quoted.push_places.Goals as goal

pub loop-register-preserved : goal.loop-register-preserved
loop-register-preserved c =
    let required = c.args.required.now in
    let selection = c.args.selection.now in
    let register = c.loop-register.register in
    let before = c.args.places.now.items in
    let so_far = below required selection.alg selection.bits.items register in
    elim c.if-is_confirmed.branch [
      | then-is_confirmed+in_ok-push w ↦
          rw w.places-is (w.in_ok-push.ensures.items
          ∙ ap (λ (l : List Pcr). l ++ place_at selection.alg register ∷ []) c.loop-register.invariant
          ∙ append_assoc before so_far (place_at selection.alg register ∷ [])
          ∙ ap (λ (l : List Pcr). before ++ l)
          (sym (below_taken required selection.alg selection.bits.items register (sym c.is_confirmed.ensures ∙ w.if-is_confirmed.true))))
      | else-is_confirmed w ↦
          rw w.places-is (c.loop-register.invariant
          ∙ ap (λ (l : List Pcr). before ++ l)
          (sym (below_same required selection.alg selection.bits.items register (sym c.is_confirmed.ensures ∙ w.if-is_confirmed.false))))
    ]

pub returns : goal.returns
returns c =
    let last : c.loop-register.register ≡ 24 = omega arith in
    rw (all_below c.args.required.now (bank_selection_of c.args.selection.now)) (rw last at c.loop-register.invariant)

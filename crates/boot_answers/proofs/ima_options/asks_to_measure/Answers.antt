use Rattle.std.proofs.Common.{◌≡◌, ℕ, List, false, [], ◌∷◌, refl, sym, subst, ◌∙◌}
use Rattle.boot_answers.specs.ImaMeasuring.{stops}
use Rattle.boot_answers.specs.parts.ImaMeasuring.{AsksFrom}
use Rattle.boot_answers.proofs.FailingTestLaws.{not_told}
use Rattle.boot_answers.proofs.ImaMeasuringLaws.{asks_all, asks_earlier, asks_from, asks_here, asks_later, asks_not_at_end, stopped}
use Rattle.boot_answers.proofs.ImaPolicyLaws.{no_bytes}
use Rattle.boot_answers.proofs.ima_options.asks_to_measure.Goals as goal

pub returns-then-stops : goal.returns-then-stops
returns-then-stops c = (
  λ no. absurd cc,
  λ asks. absurd (stopped c.loop-first.starts c.loop-first.rest.now (sym c.stops.ensures ∙ c.if-stops.true)
      (c.loop-first.invariant.1 (asks_from c.args.text.now asks))),
)

pub returns-then-is_measuring : goal.returns-then-is_measuring
returns-then-is_measuring c =
    let both = c.is_measuring.ensures.0 c.if-is_measuring.true in
    let goes_on = sym c.stops.ensures ∙ c.if-stops.false in
    (λ yes. asks_all c.args.text.now (c.loop-first.invariant.0 (asks_here _ _ both.0 both.1 goes_on)), λ asks. refl)

pub loop-first-preserved : goal.loop-first-preserved
loop-first-preserved c =
    let text : c.loop-first.rest.now ≡ c.in-Some.first.now ∷ c.in-Some.after.now = (rw c.in-Some.is at c.split_first.ensures.cases).0 in
    let goes_on : stops c.loop-first.rest.now ≡ false = sym c.stops.ensures ∙ c.if-stops.false in
    let none = not_told c.is_measuring.result _ c.if-is_measuring.false c.is_measuring.ensures in (
      λ asks. c.loop-first.invariant.0 (subst (AsksFrom c.loop-first.starts) (sym text)
          (asks_later c.loop-first.starts c.in-Some.first.now c.in-Some.after.now
          (subst (λ (l : List ℕ). stops l ≡ false) text goes_on) asks)),
      λ asks. asks_earlier c.loop-first.starts c.in-Some.first.now c.in-Some.after.now
          (λ starts begins. none (starts, rw text begins))
          (subst (AsksFrom c.loop-first.starts) text (c.loop-first.invariant.1 asks)),
    )

pub returns : goal.returns
returns c =
    let none : c.loop-first.rest.now ≡ [] = no_bytes _ (rw c.in_default.is at c.split_first.ensures.cases) in (
      λ no. absurd cc,
      λ asks. absurd (asks_not_at_end c.loop-first.starts (subst (AsksFrom c.loop-first.starts) none
          (c.loop-first.invariant.1 (asks_from c.args.text.now asks)))),
    )

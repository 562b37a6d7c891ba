use Rattle.std.proofs.Common.{◌≡◌, ℕ, List, Bool, true, [], ◌∷◌, refl, sym, subst}
use Rattle.boot_answers.specs.ImaPolicy.{begins_option}
use Rattle.boot_answers.specs.parts.ImaPolicy.{SetsFrom}
use Rattle.boot_answers.proofs.ImaPolicyLaws.{no_bytes, none_begins, sets_all, sets_earlier, sets_from, sets_here_if, sets_later, sets_not_at_end}
use Rattle.boot_answers.proofs.ima_options.may_set_ima_policy.Goals as goal

pub returns-then-is_option : goal.returns-then-is_option
returns-then-is_option c =
    let both = c.is_option.ensures.0 c.if-is_option.true in
    (λ yes. sets_all c.args.text.now (c.loop-first.invariant.0 (sets_here_if _ _ both.0 both.1)), λ sets. refl)

pub loop-first-preserved : goal.loop-first-preserved
loop-first-preserved c =
    let text : c.loop-first.rest.now ≡ c.in-Some.first.now ∷ c.in-Some.after.now = (rw c.in-Some.is at c.split_first.ensures.cases).0 in (
      λ sets. c.loop-first.invariant.0 (subst (SetsFrom c.loop-first.starts) (sym text)
          (sets_later c.loop-first.starts c.in-Some.first.now c.in-Some.after.now (subst (λ (b : Bool). SetsFrom b c.in-Some.after.now) c.is_between-starts.ensures sets))),
      λ sets. subst (λ (b : Bool). SetsFrom b c.in-Some.after.now) (sym c.is_between-starts.ensures)
          (sets_earlier c.loop-first.starts c.in-Some.first.now c.in-Some.after.now
          (λ starts. none_begins (c.in-Some.first.now ∷ c.in-Some.after.now) (λ begins.
          let yes : c.is_option.result ≡ true = c.is_option.ensures.1 (starts, subst (λ (l : List ℕ). begins_option l ≡ true) (sym text) begins) in
          absurd cc))
          (subst (SetsFrom c.loop-first.starts) text (c.loop-first.invariant.1 sets))),
    )

pub returns : goal.returns
returns c =
    let none : c.loop-first.rest.now ≡ [] = no_bytes _ (rw c.in_default.is at c.split_first.ensures.cases) in (
      λ no. absurd cc,
      λ sets. absurd (sets_not_at_end c.loop-first.starts (subst (SetsFrom c.loop-first.starts) none
          (c.loop-first.invariant.1 (sets_from c.args.text.now sets)))),
    )

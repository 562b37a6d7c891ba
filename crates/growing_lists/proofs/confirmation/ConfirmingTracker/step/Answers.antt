use Rattle.std.proofs.Common.{◌≡◌, true, false, Option, Some, None, refl, ap, ◌∙◌}
use Rattle.std.specs.Prelude.{is_some, not}
use Rattle.std.specs.Option.{option_or}
use Rattle.growing_lists.specs.declared.confirmation.Confirming.{Confirming}
use Rattle.growing_lists.specs.declared.confirmation.Prefix.{Prefix}
use Rattle.boot_verdict.specs.Names.{step_of}
use Rattle.growing_lists.proofs.PrefixLaws.{search_more}
use Rattle.growing_lists.proofs.confirmation.ConfirmingTracker.step.Goals as goal

none_yet : (old next : Option Prefix) → is_some old ≡ false → next ≡ option_or old next
none_yet None next is = refl
none_yet (Some prefix) next is = absurd cc

found_yet : (old next : Option Prefix) → is_some old ≡ true → old ≡ option_or old next
found_yet None next is = absurd cc
found_yet (Some prefix) next is = refl

pub returns-then-is_none : goal.returns-then-is_none
returns-then-is_none c =
    let old = c.args.self.now in
    let now : Confirming = record {
      banks = c.replay_into.new.banks;
      bytes = c.saturating_add-self.result;
      first = old.first;
      goal = old.goal;
      prefix = c.prefix_at-self.result;
    } in
    λ start events before at after.
    search_more start events before (step_of c.args.step.now) old now c.args.position after c.replay_into.ensures.banks
    (rw c.size_of.ensures at c.saturating_add-self.ensures) refl refl at
    (none_yet old.prefix c.prefix_at-self.result (c.is_none.ensures ∙ ap not c.if-is_none.true) ∙ ap (option_or old.prefix) c.prefix_at-self.ensures)

pub returns-else-is_none : goal.returns-else-is_none
returns-else-is_none c =
    let old = c.args.self.now in
    let now : Confirming =
    record { banks = c.replay_into.new.banks; bytes = c.saturating_add-self.result; first = old.first; goal = old.goal; prefix = old.prefix } in
    λ start events before at after.
    search_more start events before (step_of c.args.step.now) old now c.args.position after c.replay_into.ensures.banks
    (rw c.size_of.ensures at c.saturating_add-self.ensures) refl refl at (found_yet old.prefix _ (c.is_none.ensures ∙ ap not c.if-is_none.false))

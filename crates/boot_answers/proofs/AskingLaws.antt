-- The first event of a register that asks.
use Rattle.std.proofs.Common.{◌≡◌, ℕ, true, List, ◌∷◌, ◌++◌, Option, Some, None, refl, sym, subst, ◌∙◌, inr}
use Rattle.std.specs.List.{AllByRecursion}
use Rattle.boot_log.specs.Names.{LogEvent, is_extended_into}
use Rattle.measured_data.specs.declared.confirmed.Pcr.{Pcr}
use Rattle.boot_answers.specs.Commands.{CommandSaid, told_text}
use Rattle.boot_answers.specs.Extending.{extended_events}
use Rattle.boot_answers.proofs.EventLaws.{no_end, one_end, own_and_later}
use Rattle.boot_answers.specs.declared.policies.PolicyQuestion.{PolicyQuestion}
use Rattle.boot_answers.specs.Policies.{Asks, IsAskingEvent, IsAskingIn, IsFirstAsking, NoneAsks, Passes, read_text}

some_is : {A : Type 0} (x y : A) → Some x ≡ Some y → x ≡ y
some_is x y e = cc

some_or_none : {A : Type 0} (x : A) (found : Option A) → found ≡ Some x → found ≡ None → ⊥
some_or_none x found some none = absurd cc

-- An event that asks, or that tells no text, does not pass.
asks_not_passes : (asked : PolicyQuestion) (matched : List Pcr) (event : LogEvent) (text : CommandSaid) → told_text matched event ≡ Some text
    → Asks asked (read_text text) → Passes asked matched event → ⊥
asks_not_passes asked matched event text told asks passes =
    let same : text ≡ passes.text = some_is text passes.text (sym told ∙ passes.told) in
    passes.other (subst (λ (t : CommandSaid). Asks asked (read_text t)) same asks)

untold_not_passes : (asked : PolicyQuestion) (matched : List Pcr) (event : LogEvent) → told_text matched event ≡ None → Passes asked matched event → ⊥
untold_not_passes asked matched event none passes = some_or_none passes.text (told_text matched event) passes.told none

module _ {asked : PolicyQuestion} {matched : List Pcr} {register : ℕ} {events : List LogEvent} where
  module _ {number : ℕ} (is : IsFirstAsking asked matched register events number) where
    own_parts : extended_events register events ≡ extended_events register is.before ++ is.event ∷ extended_events register is.after
    own_parts = own_and_later register is.before (extended_events register is.before) is.after events is.event is.extended refl is.parts

    stops : Passes asked matched is.event → ⊥
    stops = asks_not_passes asked matched is.event is.text is.told is.asks

  pub none_of_all : AllByRecursion (Passes asked matched) (extended_events register events) → NoneAsks asked matched register events
  none_of_all all number is =
      no_end (Passes asked matched) (extended_events register events) (extended_events register is.before) is.event
      (extended_events register is.after) all (stops is) (own_parts is)

  pub none_before : (read later : List LogEvent) (event : LogEvent) → AllByRecursion (Passes asked matched) (extended_events register read)
      → events ≡ read ++ event ∷ later → is_extended_into register event ≡ true → told_text matched event ≡ None
      → NoneAsks asked matched register events
  none_before read later event all parts own none number is =
      let first = own_and_later register read (extended_events register read) later events event own refl parts in
      let one = one_end (Passes asked matched) (extended_events register read) (extended_events register is.before) event is.event
      (extended_events register later) (extended_events register is.after) all (untold_not_passes asked matched event none) is.passed (stops is)
      (sym first ∙ own_parts is) in
      some_or_none is.text (told_text matched event) (rw (one.ends) is.told) none

-- ---- both registers

-- Where no text of register 8 asks, the first of register 12 is the first.
pub after_none : (asked : PolicyQuestion) (matched : List Pcr) (events : List LogEvent) (found : Option ℕ) → NoneAsks asked matched 8 events
    → IsAskingIn asked matched 12 events found → IsAskingEvent asked matched events found
after_none asked matched events None none is = (none, is)
after_none asked matched events (Some number) none is = inr (none, is)

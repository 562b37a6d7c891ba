-- A told text is hashed into its register.
use Rattle.std.proofs.Common.{◌≡◌, ℕ, ◌==◌, not, true, List, ◌∷◌, ◌++◌, Option, Some, None, refl, sym, ap, subst, ◌∙◌, inl, inr}
use Rattle.std.specs.Prelude.{◌⊎◌, option_map}
use Rattle.std.proofs.lemmas.Bool.{and_parts, eqb-true}
use Rattle.pcr_banks.specs.declared.alg.Alg.{Alg}
use Rattle.pcr_banks.specs.Names.{digest_in, hash_of, reset_value}
use Rattle.binding_laws.proofs.BankBindingLaws.{reset_size, same_or_broken}
use Rattle.boot_log.specs.Names.{LogEvent, digests_for, is_extended_into, no_action, startup_locality}
use Rattle.event_data.specs.Names.{CommandData, IsWideText, command_in, wide_text_in}
use Rattle.event_data.proofs.CommandLaws.{command_finds}
use Rattle.event_data.proofs.TextLaws.{wide_text_finds}
use Rattle.measured_data.specs.declared.measured.Part.{Part}
use Rattle.measured_data.specs.declared.measured.Part.TheVariants as parts
use Rattle.measured_data.specs.declared.confirmed.Pcr.{Pcr}
use Rattle.measured_data.specs.Confirming.{IsAnswering, IsConfirmed}
use Rattle.measured_data.specs.Measuring.{IsFirstPart, IsMeasured}
use Rattle.boot_answers.specs.Commands.{CommandSaid, grub, text_by, wide}
use Rattle.boot_answers.specs.Extending.{extended_events}
use Rattle.boot_answers.proofs.EventLaws.{own_and_later}
use Rattle.answer_laws.specs.HashedTexts.{ExtendsBreak, HasExtended, HasHashOf, IsHashedText, TellsText}
use Rattle.answer_laws.proofs.HashedLaws.{digests_are, digests_of, joined_digests, known_digest}

some_is : {A : Type 0} (x y : A) → Some x ≡ Some y → x ≡ y
some_is x y e = cc

-- The event's digest is the hash of the text.
pub record HasDigestOf (alg : Alg) (event : LogEvent) (text : CommandSaid) : Type 0 where
  pub bytes : List ℕ
  pub is_text : IsHashedText text bytes
  pub digest : digest_in event.digests alg ≡ Some (hash_of alg bytes)

by_command : (alg : Alg) (event : LogEvent) (text : CommandSaid) → IsMeasured alg event parts.Command
    → option_map grub (command_in event.payload) ≡ Some text → HasDigestOf alg event text
by_command alg event text measured told =
    let (own, command, is, are) = measured.are in
    let found : command_in event.payload ≡ Some command = (command_finds event.payload).only command is in
    let same : grub command ≡ text = some_is (grub command) text (sym (ap (λ (f : Option CommandData). option_map grub f) found) ∙ told) in
    record { bytes = measured.bytes; is_text = subst (λ (t : CommandSaid). IsHashedText t measured.bytes) same are; digest = measured.digest }

wide_found : (payload : List ℕ) (found : Option (List ℕ)) (text : CommandSaid) → ((t : List ℕ) → found ≡ Some t → IsWideText payload t)
    → option_map wide found ≡ Some text → IsHashedText text payload
wide_found payload None text is told = absurd cc
wide_found payload (Some t) text is told =
    let same : wide t ≡ text = some_is (wide t) text told in
    subst (λ (s : CommandSaid). IsHashedText s payload) same (is t refl)

by_whole : (alg : Alg) (event : LogEvent) (text : CommandSaid) → IsMeasured alg event parts.Whole
    → option_map wide (wide_text_in event.payload) ≡ Some text → HasDigestOf alg event text
by_whole alg event text measured told = record {
  bytes = event.payload;
  is_text = wide_found event.payload (wide_text_in event.payload) text (wide_text_finds event.payload).is told;
  digest = measured.digest ∙ ap (λ (b : List ℕ). Some (hash_of alg b)) measured.are;
}

of_part : (alg : Alg) (event : LogEvent) (part : Option Part) (text : CommandSaid) (matched : List Pcr)
    → IsFirstPart (IsConfirmed matched event) part → text_by part event.payload ≡ Some text → IsAnswering matched alg event.register
    → HasDigestOf alg event text
of_part alg event None text matched first told answering = absurd cc
of_part alg event (Some parts.Value) text matched first told answering = absurd cc
of_part alg event (Some parts.Command) text matched first told answering =
    by_command alg event text (first.0.every alg answering.strong answering.matches) told
of_part alg event (Some parts.Whole) text matched first told answering =
    by_whole alg event text (first.0.every alg answering.strong answering.matches) told

pub event_digest : (matched : List Pcr) (event : LogEvent) (register : ℕ) (alg : Alg) (part : Option Part) (text : CommandSaid)
    → IsFirstPart (IsConfirmed matched event) part → text_by part event.payload ≡ Some text → is_extended_into register event ≡ true
    → IsAnswering matched alg register → HasDigestOf alg event text
event_digest matched event register alg part text first told own answering =
    let both = and_parts (not (event.kind == no_action)) (event.register == register) own in
    let here : event.register ≡ register = eqb-true event.register register both.1 in
    of_part alg event part text matched first told (subst (λ (r : ℕ). IsAnswering matched alg r) (sym here) answering)

-- ---- the machine's digests

pub was_hashed : {matched : List Pcr} (alg : Alg) (register locality : ℕ) (events : List LogEvent) (digests : List (List ℕ)) (text : CommandSaid)
    → (tells : TellsText matched register events text) → HasDigestOf alg tells.event text → HasExtended alg register locality digests events
    → HasHashOf alg text digests ⊎ ExtendsBreak alg register locality digests events
was_hashed alg register locality events digests text tells has same =
    elim (same_or_broken alg (reset_value alg register locality) (reset_value alg register (startup_locality events)) digests
    (digests_for alg register events) (reset_size alg register locality) (reset_size alg register (startup_locality events)) same) [
      | inl both ↦
          let before = extended_events register tells.before in
          let after = extended_events register tells.after in
          let own : extended_events register events ≡ before ++ tells.event ∷ after =
          own_and_later register tells.before before tells.after events tells.event tells.extended refl tells.parts in
          inl (record {
            bytes = has.bytes;
            prefix = digests_of alg before;
            back = digests_of alg after;
            is_text = has.is_text;
            parts = both.1 ∙ digests_are alg register events ∙ ap (digests_of alg) own ∙ joined_digests alg before (tells.event ∷ after)
                ∙ ap (λ (l : List (List ℕ)). digests_of alg before ++ l) (known_digest alg tells.event after has.bytes has.digest);
          })
      | inr broken ↦ inr broken
    ]

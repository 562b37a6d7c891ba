-- What each bank that answers tells of an event.
use Rattle.std.proofs.Common.{◌≡◌, ◌||◌, not, Bool, true, false, List, Option, Some, None, refl, subst, inl, inr}
use Rattle.std.specs.Prelude.{option_map}
use Rattle.std.specs.List.{list_all}
use Rattle.std.specs.Option.{option_map_or}
use Rattle.std.proofs.lemmas.Bool.{and_parts, or_cases}
use Rattle.byte_fields.specs.Spelling.{IsBytes}
use Rattle.pcr_banks.specs.declared.alg.Alg.{Alg}
use Rattle.pcr_banks.specs.Names.{all_algs}
use Rattle.pcr_banks.proofs.AlgLaws.{every_passes}
use Rattle.boot_log.specs.Names.{LogEvent}
use Rattle.event_data.specs.Names.{IsCommand, IsVariable, IsWideText, VariableData, command_in, variable_in, wide_text_in}
use Rattle.event_data.proofs.CommandLaws.{command_finds}
use Rattle.event_data.proofs.Finding.{Finds}
use Rattle.event_data.proofs.FormLaws.{variable_finds}
use Rattle.event_data.proofs.TextLaws.{wide_text_finds}
use Rattle.measured_data.specs.declared.measured.Part.{Part}
use Rattle.measured_data.specs.declared.measured.Part.TheVariants as parts
use Rattle.measured_data.specs.declared.confirmed.Pcr.{Pcr}
use Rattle.measured_data.specs.Confirming.{IsAnswering, IsConfirmed, is_answering}
use Rattle.measured_data.specs.Measuring.{IsFirstPart, is_measured, settings_register}
use Rattle.measured_data.proofs.ConfirmedLaws.{answering_told}
use Rattle.measured_data.proofs.MeasuredLaws.{measured_told}
use Rattle.boot_answers.specs.BootVariables.{IsMeasuredVariable}
use Rattle.boot_answers.specs.Commands.{CommandSaid, IsCommandText, grub, text_by, wide}
use Rattle.boot_texts.specs.EachBank.{TellText, TellVariable}
use Rattle.boot_texts.specs.Boots.{is_boot_variable}
use Rattle.boot_texts.specs.Telling.{allows_variable, is_told_variable}

-- What is found, under another name.
named : {A B : Type 0} (f : A → B) (Is : A → Type 0) (found : Option A) (b : B) → Finds Is found → option_map f found ≡ Some b
    → (a : A) × Is a × (f a ≡ b)
named f Is None b finds e = absurd cc
named f Is (Some a) b finds e =
    let same : f a ≡ b = cc in
    (a, finds.is a refl, same)

told_by : (matched : List Pcr) (event : LogEvent) (part : Part) (text : CommandSaid) → IsConfirmed matched event part
    → ((bank : Alg) → IsAnswering matched bank event.register → IsCommandText bank event text) → TellText matched event text
told_by matched event part text confirmed tells =
    record { alg = confirmed.alg; answering = record { strong = confirmed.strong; matches = confirmed.matches }; tells = tells }

pub each_tells : (matched : List Pcr) (event : LogEvent) (part : Option Part) (text : CommandSaid)
    → IsFirstPart (IsConfirmed matched event) part → text_by part event.payload ≡ Some text → TellText matched event text
each_tells matched event None text first e = absurd cc
each_tells matched event (Some parts.Value) text first e = absurd cc
each_tells matched event (Some parts.Command) text first e =
    let command = named grub (IsCommand event.payload) (command_in event.payload) text (command_finds event.payload) e in
    told_by matched event parts.Command text first.0
    (λ bank answering. subst (IsCommandText bank event) command.2 (first.0.every bank answering.strong answering.matches, command.1))
each_tells matched event (Some parts.Whole) text first e =
    let told = named wide (IsWideText event.payload) (wide_text_in event.payload) text (wide_text_finds event.payload) e in
    told_by matched event parts.Whole text first.0
    (λ bank answering. subst (IsCommandText bank event) told.2 (first.0.every bank answering.strong answering.matches, told.1))

-- ---- variables

held : {A : Type 0} (test : A → Bool) (Is : A → Type 0) (found : Option A) → Finds Is found → option_map_or test found false ≡ true
    → (a : A) × Is a × (test a ≡ true)
held test Is None finds e = absurd cc
held test Is (Some a) finds e = (a, finds.is a refl, e)

measured_so : (counted whole value : Bool) → counted ≡ true → (not counted || (whole || value)) ≡ true → (whole || value) ≡ true
measured_so true whole value holds e = e
measured_so false whole value holds e = absurd cc

pub each_tells_variable : (matched : List Pcr) (event : LogEvent) → IsBytes event.payload → is_told_variable matched event ≡ true
    → (variable : VariableData) × (is_boot_variable variable ≡ true) × TellVariable matched settings_register event variable
each_tells_variable matched event fits e =
    let allows = λ (alg : Alg). allows_variable matched event alg in
    let both = and_parts (list_all allows all_algs) (option_map_or is_boot_variable (variable_in event.payload) false) e in
    let found = held is_boot_variable (IsVariable event.payload) (variable_in event.payload) (variable_finds event.payload fits) both.1 in (
      found.0,
      found.2,
      λ bank answering.
          let whole = is_measured bank event parts.Whole in
          let value = is_measured bank event parts.Value in
          let measured = measured_so (is_answering matched bank settings_register) whole value ((answering_told matched bank settings_register).1 answering)
          (every_passes allows both.0 bank) in
          let is : IsMeasuredVariable bank event =
          elim (or_cases whole value measured) [
            | inl holds ↦ inl ((measured_told bank event parts.Whole fits).0 holds)
            | inr holds ↦ inr ((measured_told bank event parts.Value fits).0 holds)
          ] in
          record { measured = is; is = found.1 },
    )

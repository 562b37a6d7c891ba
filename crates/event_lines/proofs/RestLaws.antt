-- The bytes behind a form are no more than all bytes of an event's data.
use Rattle.std.proofs.Common.{◌≡◌, ℕ, ◌+◌, ◌≤◌, List, [], ◌∷◌, length, Option, Some, None, refl, ap, ◌∙◌, arith}
use Rattle.std.specs.Prelude.{⊤, IfSome, option_and_then, option_map, unwrap_or}
use Rattle.std.specs.Option.{option_or}
use Rattle.std.proofs.lemmas.List.{length-append}
use Rattle.hex.specs.Hex.{IsBytes}
use Rattle.event_data.specs.declared.content.DataForm.{DataForm}
use Rattle.event_data.specs.declared.content.DataForm.TheVariants as forms
use Rattle.event_data.specs.Names.{Content, ImageData, IsFollowed, VariableData, before_in, command_in, configuration_content, content_in, described_blob_in, described_handoff_in, form_content, form_of, gpt_in, guid_in, handoff_in, image_then, locality_in, long_text_content, plain_blob_in, separator_in, tagged_in, technology_in, text_and_nul_content, text_content, text_in, variable_then, wide_text_in}
use Rattle.event_data.specs.EventForms as contents
use Rattle.event_data.proofs.FormLaws.{image_then_is, variable_then_is}
use Rattle.cells.specs.Values.{IsCount}
use Rattle.event_lines.specs.BriefJson.{IsCountedRest}

abbrev IsWithin : List ℕ → Content → Type 0
IsWithin bytes (contents.variable value rest) = length rest ≤ length bytes
IsWithin bytes (contents.image value rest) = length rest ≤ length bytes
IsWithin bytes content = ⊤

abbrev AreWithin : List ℕ → Option Content → Type 0
AreWithin bytes found = IfSome found (IsWithin bytes)

-- ---- one form, else another

mapped : {X : Type 0} (bytes : List ℕ) (to : X → Content) (found : Option X) → ((x : X) → found ≡ Some x → IsWithin bytes (to x))
    → AreWithin bytes (option_map to found)
mapped bytes to (Some x) fits = fits x refl
mapped bytes to None fits = tt

either : (bytes : List ℕ) (first second : Option Content) → AreWithin bytes first → AreWithin bytes second
    → AreWithin bytes (option_or first second)
either bytes (Some content) second fits others = fits
either bytes None second fits others = others

-- ---- forms

followed : {X : Type 0} (Is : List ℕ → X → Type 0) (bytes : List ℕ) (x : X) (rest : List ℕ) → IsFollowed Is bytes x rest
    → length rest ≤ length bytes
followed Is bytes x rest is =
    let whole : length bytes ≡ length is.form + length rest = ap length is.spelled ∙ length-append is.form rest in
    omega (arith, whole)

text_within : (all bytes : List ℕ) → AreWithin all (text_content bytes)
text_within all bytes =
    either all (option_map contents.text (text_in bytes)) (option_map contents.wide_text (wide_text_in bytes))
    (mapped all contents.text (text_in bytes) (λ x e. tt))
    (mapped all contents.wide_text (wide_text_in bytes) (λ x e. tt))

shorter_within : (all : List ℕ) (found : Option (List ℕ)) → AreWithin all (option_and_then text_content found)
shorter_within all (Some shorter) = text_within all shorter
shorter_within all None = tt

configuration_within : (bytes : List ℕ) → AreWithin bytes (configuration_content bytes)
configuration_within bytes =
    either bytes (option_map contents.text (text_in bytes)) (option_map contents.blob (described_blob_in bytes))
    (mapped bytes contents.text (text_in bytes) (λ x e. tt))
    (mapped bytes contents.blob (described_blob_in bytes) (λ x e. tt))

form_within : (form : DataForm) (bytes : List ℕ) → IsBytes bytes → AreWithin bytes (form_content form bytes)
form_within forms.Separator bytes fits = mapped bytes contents.separator (separator_in bytes) (λ x e. tt)
form_within forms.Text bytes fits = text_within bytes bytes
form_within forms.Version bytes fits =
    either bytes (text_content bytes) (option_map contents.guid (guid_in bytes)) (text_within bytes bytes)
    (mapped bytes contents.guid (guid_in bytes) (λ x e. tt))
form_within forms.Loader bytes fits =
    either bytes (option_map contents.command (command_in bytes)) (long_text_content bytes)
    (mapped bytes contents.command (command_in bytes) (λ x e. tt))
    (either bytes (text_content bytes) (text_and_nul_content bytes) (text_within bytes bytes)
    (shorter_within bytes (before_in (0 ∷ []) bytes)))
form_within forms.PostCode bytes fits =
    either bytes (option_map contents.text (text_in bytes)) (option_map contents.blob (plain_blob_in bytes))
    (mapped bytes contents.text (text_in bytes) (λ x e. tt))
    (mapped bytes contents.blob (plain_blob_in bytes) (λ x e. tt))
form_within forms.Variable bytes fits =
    mapped bytes (λ (x : VariableData × List ℕ). contents.variable x.0 x.1) (variable_then bytes)
    (λ x e. followed _ bytes x.0 x.1 (variable_then_is bytes x.0 x.1 (λ i. omega (arith, fits i)) e))
form_within forms.Image bytes fits =
    mapped bytes (λ (x : ImageData × List ℕ). contents.image x.0 x.1) (image_then bytes)
    (λ x e. followed _ bytes x.0 x.1 (image_then_is bytes x.0 x.1 (λ i. omega (arith, fits i)) e))
form_within forms.Gpt bytes fits = mapped bytes contents.gpt (gpt_in bytes) (λ x e. tt)
form_within forms.PlainBlob bytes fits = mapped bytes contents.blob (plain_blob_in bytes) (λ x e. tt)
form_within forms.DescribedBlob bytes fits = mapped bytes contents.blob (described_blob_in bytes) (λ x e. tt)
form_within forms.Tagged bytes fits =
    either bytes (option_map contents.text (text_in bytes)) (option_map contents.tagged (tagged_in bytes))
    (mapped bytes contents.text (text_in bytes) (λ x e. tt))
    (mapped bytes contents.tagged (tagged_in bytes) (λ x e. tt))
form_within forms.Configuration bytes fits = configuration_within bytes
form_within forms.Host bytes fits =
    either bytes (option_map contents.technology (technology_in bytes)) (configuration_content bytes)
    (mapped bytes contents.technology (technology_in bytes) (λ x e. tt))
    (configuration_within bytes)
form_within forms.Handoff bytes fits = mapped bytes contents.handoff (handoff_in bytes) (λ x e. tt)
form_within forms.DescribedHandoff bytes fits = mapped bytes contents.handoff (described_handoff_in bytes) (λ x e. tt)
form_within forms.Locality bytes fits = mapped bytes contents.locality (locality_in bytes) (λ x e. tt)
form_within forms.Other bytes fits = tt

-- ---- any type

unwrapped : (bytes : List ℕ) (found : Option Content) → AreWithin bytes found → IsWithin bytes (unwrap_or found (contents.unknown bytes))
unwrapped bytes (Some content) fits = fits
unwrapped bytes None fits = tt

counted : (bytes : List ℕ) (content : Content) → IsCount (length bytes) → IsWithin bytes content → IsCountedRest content
counted bytes (contents.separator value) size within = tt
counted bytes (contents.text value) size within = tt
counted bytes (contents.wide_text value) size within = tt
counted bytes (contents.guid value) size within = tt
counted bytes (contents.command value) size within = tt
counted bytes (contents.variable value rest) size within = omega (arith, size, within)
counted bytes (contents.image value rest) size within = omega (arith, size, within)
counted bytes (contents.gpt value) size within = tt
counted bytes (contents.blob value) size within = tt
counted bytes (contents.tagged value) size within = tt
counted bytes (contents.locality value) size within = tt
counted bytes (contents.technology value) size within = tt
counted bytes (contents.handoff value) size within = tt
counted bytes (contents.unknown value) size within = tt

-- If a number tells how many bytes there are, one tells how many are behind the form.
pub rest_counted : (kind : ℕ) (bytes : List ℕ) → IsBytes bytes → IsCount (length bytes) → IsCountedRest (content_in kind bytes)
rest_counted kind bytes fits size =
    let form = form_content (form_of kind) bytes in
    counted bytes (content_in kind bytes) size (unwrapped bytes form (form_within (form_of kind) bytes fits))

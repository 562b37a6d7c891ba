-- Data says one thing: what is read of it.
use Rattle.std.proofs.Common.{◌≡◌, ℕ, true, List, [], ◌∷◌, ◌++◌, Option, Some, None, option_map, unwrap_or, refl, sym, ap, subst, ◌∙◌, ◌⊎◌, inl, inr, ⊎_elim, append_assoc}
use Rattle.std.specs.Option.{option_or}
use Rattle.std.proofs.lemmas.List.{append_cancel_right}
use Rattle.byte_fields.proofs.Steps.{IsBytes}
use Rattle.event_data.specs.declared.content.DataForm.{DataForm}
use Rattle.event_data.specs.declared.content.DataForm.TheVariants as forms
use Rattle.event_data.specs.Names.{CommandData, Content, ImageData, IsCommand, IsTechnology, Says, SaysConfiguration, SaysHost, SaysIn, SaysKnown, SaysLoader, SaysLongText, SaysPostCode, SaysTag, SaysText, SaysTextAndNul, SaysVersion, VariableData, blob, command, command_in, configuration_content, content_in, described_blob_in, described_handoff_in, form_content, form_of, gpt, gpt_in, guid, guid_in, handoff_in, has_no_nul, host_content, image_then, loader_content, locality, locality_in, long_text_content, plain_blob_in, post_code_content, separator, separator_in, tag_content, tagged_in, technology, technology_in, text, text_and_nul_content, text_content, text_in, variable_then, version_content, wide_text, wide_text_in}
use Rattle.event_data.specs.EventForms.{variable, image, tagged, handoff, unknown}
use Rattle.event_data.proofs.AffixLaws.{before_finds}
use Rattle.event_data.proofs.Finding.{Finds, some_is, none_is, mapped_is, or_some, then_finds}
use Rattle.event_data.proofs.HandoffLaws.{handoff_finds, handoff_only, described_handoff_finds, described_handoff_only}
use Rattle.event_data.proofs.TextLaws.{no_nul_there, text_finds, wide_text_finds, guid_finds, locality_finds, locality_only, technology_finds}
use Rattle.event_data.proofs.CommandLaws.{command_finds}
use Rattle.event_data.proofs.FormLaws.{separator_finds, separator_only, variable_then_is, variable_then_only, image_then_is, image_then_only}
use Rattle.event_data.proofs.BlobLaws.{plain_blob_finds, plain_blob_only, described_blob_finds, described_blob_only, tagged_finds, tagged_only}
use Rattle.event_data.proofs.GptLaws.{gpt_finds, gpt_only}

-- ---- a first reading, else a second

none_mapped : {X Y : Type 0} (to : X → Y) (o : Option X) → option_map to o ≡ None → o ≡ None
none_mapped to None e = refl
none_mapped to (Some x) e = absurd cc

-- Where nothing is allowed nothing is found.
pub none_found : {X : Type 0} {Is : X → Type 0} (o : Option X) → Finds Is o → ((x : X) → Is x → ⊥) → o ≡ None
none_found None f never = refl
none_found (Some x) f never = absurd (never x (f.is x refl))

module _ {X : Type 0} {P Q : X → Type 0} where
  -- What is found first, else second.
  else_is : (a b : Option X) → Finds P a → Finds Q b → (x : X) → option_or a b ≡ Some x → P x ⊎ (Q x × ((other : X) → P other → ⊥))
  else_is (Some y) b f g x e = inl (f.is x e)
  else_is None b f g x e = inr (g.is x e, none_is f refl)

  else_only : (a b : Option X) → Finds P a → Finds Q b → (x : X) → P x ⊎ (Q x × ((other : X) → P other → ⊥)) → option_or a b ≡ Some x
  else_only a b f g x (inl is) = rw (f.only x is) refl
  else_only a b f g x (inr is) = rw (none_found a f is.1) (g.only x is.0)

-- ---- texts

-- No bytes are texts of both kinds.
not_both : (bytes first second : List ℕ) → has_no_nul first ≡ true → (bytes ≡ first) ⊎ (bytes ≡ first ++ 0 ∷ [])
    → bytes ≡ second ++ 0 ∷ 0 ∷ [] → ⊥
not_both bytes first second a (inl e) f = no_nul_there first second (0 ∷ []) a (sym e ∙ f)
not_both bytes first second a (inr e) f =
    no_nul_there first second [] a (append_cancel_right first (second ++ 0 ∷ []) (0 ∷ [])
    (sym e ∙ f ∙ sym (append_assoc second (0 ∷ []) (0 ∷ []))))

text_only : (bytes : List ℕ) (content : Content) → SaysText bytes content → text_content bytes ≡ Some content
text_only bytes (text v) is = rw ((text_finds bytes).only v is) refl
text_only bytes (wide_text v) is =
    rw (none_found (text_in bytes) (text_finds bytes) (λ w other. not_both bytes w v other.no_nul other.spelled is.spelled))
    (ap (option_map wide_text) ((wide_text_finds bytes).only v is))
text_only bytes content is = absurd (search is)

text_is : (bytes : List ℕ) (content : Content) → text_content bytes ≡ Some content → SaysText bytes content
text_is bytes content e =
    ⊎_elim (mapped_is text (SaysText bytes) (λ v is. is) (text_in bytes) (text_finds bytes) content)
    (λ (l : (option_map text (text_in bytes) ≡ None) × (option_map wide_text (wide_text_in bytes) ≡ Some content)).
    mapped_is wide_text (SaysText bytes) (λ v is. is) (wide_text_in bytes) (wide_text_finds bytes) content l.1)
    (or_some (option_map text (text_in bytes)) (option_map wide_text (wide_text_in bytes)) content e)

pub text_content_finds : (bytes : List ℕ) → Finds (SaysText bytes) (text_content bytes)
text_content_finds bytes = record { is = text_is bytes; only = text_only bytes }

-- ---- versions

text_is_version : (bytes : List ℕ) (content : Content) → SaysText bytes content → SaysVersion bytes content
text_is_version bytes (text v) is = is
text_is_version bytes (wide_text v) is = is
text_is_version bytes content is = absurd (search is)

version_is : (bytes : List ℕ) (content : Content) → version_content bytes ≡ Some content → SaysVersion bytes content
version_is bytes content e =
    ⊎_elim (λ first. text_is_version bytes content (text_is bytes content first))
    (λ (l : (text_content bytes ≡ None) × (option_map guid (guid_in bytes) ≡ Some content)).
    mapped_is guid (SaysVersion bytes) (λ v is. (is, none_is (text_content_finds bytes) l.0)) (guid_in bytes) (guid_finds bytes) content l.1)
    (or_some (text_content bytes) (option_map guid (guid_in bytes)) content e)

text_first : (bytes : List ℕ) (content : Content) → SaysText bytes content → version_content bytes ≡ Some content
text_first bytes content is = rw (text_only bytes content is) refl

version_only : (bytes : List ℕ) (content : Content) → SaysVersion bytes content → version_content bytes ≡ Some content
version_only bytes (guid v) is =
    rw (none_found (text_content bytes) (text_content_finds bytes) is.1) (ap (option_map guid) ((guid_finds bytes).only v is.0))
version_only bytes (text v) is = text_first bytes (text v) is
version_only bytes (wide_text v) is = text_first bytes (wide_text v) is
version_only bytes content is = absurd (search is)

-- ---- what boot loaders measured

text_and_nul_finds : (bytes : List ℕ) → Finds (SaysTextAndNul bytes) (text_and_nul_content bytes)
text_and_nul_finds bytes = then_finds (before_finds (0 ∷ []) bytes) text_content_finds

long_text_is : (bytes : List ℕ) (content : Content) → long_text_content bytes ≡ Some content → SaysLongText bytes content
long_text_is bytes content e =
    else_is (text_content bytes) (text_and_nul_content bytes) (text_content_finds bytes) (text_and_nul_finds bytes) content e

long_text_only : (bytes : List ℕ) (content : Content) → SaysLongText bytes content → long_text_content bytes ≡ Some content
long_text_only bytes content is =
    else_only (text_content bytes) (text_and_nul_content bytes) (text_content_finds bytes) (text_and_nul_finds bytes) content is

text_is_loader : (bytes : List ℕ) (content : Content) → SaysLongText bytes content → ((other : CommandData) → IsCommand bytes other → ⊥)
    → SaysLoader bytes content
text_is_loader bytes (command v) (inl is) never = absurd is
text_is_loader bytes (command v) (inr is) never = absurd is.0.2
text_is_loader bytes content is never = (is, never)

loader_is : (bytes : List ℕ) (content : Content) → loader_content bytes ≡ Some content → SaysLoader bytes content
loader_is bytes content e =
    ⊎_elim (mapped_is command (SaysLoader bytes) (λ v is. is) (command_in bytes) (command_finds bytes) content)
    (λ (l : (option_map command (command_in bytes) ≡ None) × (long_text_content bytes ≡ Some content)).
    text_is_loader bytes content (long_text_is bytes content l.1)
    (none_is (command_finds bytes) (none_mapped command (command_in bytes) l.0)))
    (or_some (option_map command (command_in bytes)) (long_text_content bytes) content e)

text_later : (bytes : List ℕ) (content : Content) → SaysLongText bytes content → ((other : CommandData) → IsCommand bytes other → ⊥)
    → loader_content bytes ≡ Some content
text_later bytes content is never = rw (none_found (command_in bytes) (command_finds bytes) never) (long_text_only bytes content is)

loader_only : (bytes : List ℕ) (content : Content) → SaysLoader bytes content → loader_content bytes ≡ Some content
loader_only bytes (command v) is = rw ((command_finds bytes).only v is) refl
loader_only bytes content is = text_later bytes content is.0 is.1

-- ---- POST codes

post_code_is : (bytes : List ℕ) (content : Content) → IsBytes bytes → post_code_content bytes ≡ Some content → SaysPostCode bytes content
post_code_is bytes content fits e =
    ⊎_elim (mapped_is text (SaysPostCode bytes) (λ v is. is) (text_in bytes) (text_finds bytes) content)
    (λ (l : (option_map text (text_in bytes) ≡ None) × (option_map blob (plain_blob_in bytes) ≡ Some content)).
    mapped_is blob (SaysPostCode bytes) (λ v is. (is, none_is (text_finds bytes) (none_mapped text (text_in bytes) l.0)))
    (plain_blob_in bytes) (plain_blob_finds bytes fits) content l.1)
    (or_some (option_map text (text_in bytes)) (option_map blob (plain_blob_in bytes)) content e)

post_code_only : (bytes : List ℕ) (content : Content) → SaysPostCode bytes content → post_code_content bytes ≡ Some content
post_code_only bytes (text v) is = rw ((text_finds bytes).only v is) refl
post_code_only bytes (blob v) is =
    rw (none_found (text_in bytes) (text_finds bytes) is.1) (ap (option_map blob) (plain_blob_only bytes v is.0))
post_code_only bytes content is = absurd (search is)

-- ---- tagged events

tag_is : (bytes : List ℕ) (content : Content) → IsBytes bytes → tag_content bytes ≡ Some content → SaysTag bytes content
tag_is bytes content fits e =
    ⊎_elim (mapped_is text (SaysTag bytes) (λ v is. is) (text_in bytes) (text_finds bytes) content)
    (λ (l : (option_map text (text_in bytes) ≡ None) × (option_map tagged (tagged_in bytes) ≡ Some content)).
    mapped_is tagged (SaysTag bytes) (λ v is. (is, none_is (text_finds bytes) (none_mapped text (text_in bytes) l.0)))
    (tagged_in bytes) (tagged_finds bytes fits) content l.1)
    (or_some (option_map text (text_in bytes)) (option_map tagged (tagged_in bytes)) content e)

tag_only : (bytes : List ℕ) (content : Content) → SaysTag bytes content → tag_content bytes ≡ Some content
tag_only bytes (text v) is = rw ((text_finds bytes).only v is) refl
tag_only bytes (tagged v) is =
    rw (none_found (text_in bytes) (text_finds bytes) is.1) (ap (option_map tagged) (tagged_only bytes v is.0))
tag_only bytes content is = absurd (search is)

-- ---- configurations, and what a host says

configuration_is : (bytes : List ℕ) (content : Content) → IsBytes bytes → configuration_content bytes ≡ Some content
    → SaysConfiguration bytes content
configuration_is bytes content fits e =
    ⊎_elim (mapped_is text (SaysConfiguration bytes) (λ v is. is) (text_in bytes) (text_finds bytes) content)
    (λ (l : (option_map text (text_in bytes) ≡ None) × (option_map blob (described_blob_in bytes) ≡ Some content)).
    mapped_is blob (SaysConfiguration bytes) (λ v is. (is, none_is (text_finds bytes) (none_mapped text (text_in bytes) l.0)))
    (described_blob_in bytes) (described_blob_finds bytes fits) content l.1)
    (or_some (option_map text (text_in bytes)) (option_map blob (described_blob_in bytes)) content e)

configuration_only : (bytes : List ℕ) (content : Content) → SaysConfiguration bytes content → configuration_content bytes ≡ Some content
configuration_only bytes (text v) is = rw ((text_finds bytes).only v is) refl
configuration_only bytes (blob v) is =
    rw (none_found (text_in bytes) (text_finds bytes) is.1) (ap (option_map blob) (described_blob_only bytes v is.0))
configuration_only bytes content is = absurd (search is)

configuration_is_host : (bytes : List ℕ) (content : Content) → SaysConfiguration bytes content
    → ((other : ℕ) → IsTechnology bytes other → ⊥) → SaysHost bytes content
configuration_is_host bytes (technology v) is never = absurd is
configuration_is_host bytes content is never = (is, never)

host_is : (bytes : List ℕ) (content : Content) → IsBytes bytes → host_content bytes ≡ Some content → SaysHost bytes content
host_is bytes content fits e =
    ⊎_elim (mapped_is technology (SaysHost bytes) (λ v is. is) (technology_in bytes) (technology_finds bytes) content)
    (λ (l : (option_map technology (technology_in bytes) ≡ None) × (configuration_content bytes ≡ Some content)).
    configuration_is_host bytes content (configuration_is bytes content fits l.1)
    (none_is (technology_finds bytes) (none_mapped technology (technology_in bytes) l.0)))
    (or_some (option_map technology (technology_in bytes)) (configuration_content bytes) content e)

host_only : (bytes : List ℕ) (content : Content) → SaysHost bytes content → host_content bytes ≡ Some content
host_only bytes (technology v) is = rw ((technology_finds bytes).only v is) refl
host_only bytes content is =
    rw (none_found (technology_in bytes) (technology_finds bytes) is.1) (configuration_only bytes content is.0)

-- ---- a form, and what follows it

variable_says : (bytes : List ℕ) (found : Option (VariableData × List ℕ)) (content : Content)
    → ((v : VariableData) (rest : List ℕ) → found ≡ Some (v, rest) → SaysIn forms.Variable bytes (variable v rest))
    → option_map (λ (x : VariableData × List ℕ). variable x.0 x.1) found ≡ Some content → SaysIn forms.Variable bytes content
variable_says bytes (Some x) content give e =
    subst (SaysIn forms.Variable bytes) (some_is (variable x.0 x.1) content e) (give x.0 x.1 refl)
variable_says bytes None content give e = absurd cc

image_says : (bytes : List ℕ) (found : Option (ImageData × List ℕ)) (content : Content)
    → ((v : ImageData) (rest : List ℕ) → found ≡ Some (v, rest) → SaysIn forms.Image bytes (image v rest))
    → option_map (λ (x : ImageData × List ℕ). image x.0 x.1) found ≡ Some content → SaysIn forms.Image bytes content
image_says bytes (Some x) content give e =
    subst (SaysIn forms.Image bytes) (some_is (image x.0 x.1) content e) (give x.0 x.1 refl)
image_says bytes None content give e = absurd cc

-- ---- any form

form_is : (form : DataForm) (bytes : List ℕ) (content : Content) → IsBytes bytes → form_content form bytes ≡ Some content
    → SaysIn form bytes content
form_is forms.Separator bytes content fits e =
    mapped_is separator (SaysIn forms.Separator bytes) (λ v is. is) (separator_in bytes) (separator_finds bytes fits) content e
form_is forms.Text bytes content fits e = text_is bytes content e
form_is forms.Version bytes content fits e = version_is bytes content e
form_is forms.Loader bytes content fits e = loader_is bytes content e
form_is forms.PostCode bytes content fits e = post_code_is bytes content fits e
form_is forms.Variable bytes content fits e =
    variable_says bytes (variable_then bytes) content (λ v rest found. variable_then_is bytes v rest fits found) e
form_is forms.Image bytes content fits e =
    image_says bytes (image_then bytes) content (λ v rest found. image_then_is bytes v rest fits found) e
form_is forms.Gpt bytes content fits e =
    mapped_is gpt (SaysIn forms.Gpt bytes) (λ v is. is) (gpt_in bytes) (gpt_finds bytes fits) content e
form_is forms.PlainBlob bytes content fits e =
    mapped_is blob (SaysIn forms.PlainBlob bytes) (λ v is. is) (plain_blob_in bytes) (plain_blob_finds bytes fits) content e
form_is forms.DescribedBlob bytes content fits e =
    mapped_is blob (SaysIn forms.DescribedBlob bytes) (λ v is. is) (described_blob_in bytes) (described_blob_finds bytes fits) content e
form_is forms.Tagged bytes content fits e = tag_is bytes content fits e
form_is forms.Configuration bytes content fits e = configuration_is bytes content fits e
form_is forms.Host bytes content fits e = host_is bytes content fits e
form_is forms.Handoff bytes content fits e =
    mapped_is handoff (SaysIn forms.Handoff bytes) (λ v is. is) (handoff_in bytes) (handoff_finds bytes fits) content e
form_is forms.DescribedHandoff bytes content fits e =
    mapped_is handoff (SaysIn forms.DescribedHandoff bytes) (λ v is. is) (described_handoff_in bytes) (described_handoff_finds bytes fits)
    content e
form_is forms.Locality bytes content fits e =
    mapped_is locality (SaysIn forms.Locality bytes) (λ v is. is) (locality_in bytes) (locality_finds bytes fits) content e
form_is forms.Other bytes content fits e = absurd cc

form_only : (form : DataForm) (bytes : List ℕ) (content : Content) → SaysIn form bytes content
    → form_content form bytes ≡ Some content
form_only forms.Text bytes content is = text_only bytes content is
form_only forms.Version bytes content is = version_only bytes content is
form_only forms.Loader bytes content is = loader_only bytes content is
form_only forms.PostCode bytes content is = post_code_only bytes content is
form_only forms.Tagged bytes content is = tag_only bytes content is
form_only forms.Configuration bytes content is = configuration_only bytes content is
form_only forms.Host bytes content is = host_only bytes content is
form_only forms.Handoff bytes (handoff v) is = ap (option_map handoff) (handoff_only bytes v is)
form_only forms.DescribedHandoff bytes (handoff v) is = ap (option_map handoff) (described_handoff_only bytes v is)
form_only forms.Separator bytes (separator v) is = ap (option_map separator) (separator_only bytes v is)
form_only forms.Variable bytes (variable v rest) is =
    ap (option_map (λ (x : VariableData × List ℕ). variable x.0 x.1)) (variable_then_only bytes v rest is)
form_only forms.Image bytes (image v rest) is =
    ap (option_map (λ (x : ImageData × List ℕ). image x.0 x.1)) (image_then_only bytes v rest is)
form_only forms.Gpt bytes (gpt v) is = ap (option_map gpt) (gpt_only bytes v is)
form_only forms.PlainBlob bytes (blob v) is = ap (option_map blob) (plain_blob_only bytes v is)
form_only forms.DescribedBlob bytes (blob v) is = ap (option_map blob) (described_blob_only bytes v is)
form_only forms.Locality bytes (locality v) is = ap (option_map locality) (locality_only bytes v is)
form_only form bytes content is = absurd (search is)

form_finds : (form : DataForm) (bytes : List ℕ) → IsBytes bytes → Finds (SaysIn form bytes) (form_content form bytes)
form_finds form bytes fits =
    record { is = λ content e. form_is form bytes content fits e; only = λ content is. form_only form bytes content is }

-- ---- any type

found_says : (bytes : List ℕ) (P : Content → Type 0) (found : Option Content) → Finds P found
    → P (unwrap_or found (unknown bytes)) ⊎ ((unwrap_or found (unknown bytes) ≡ unknown bytes) × ((other : Content) → P other → ⊥))
found_says bytes P (Some x) f = inl (f.is x refl)
found_says bytes P None f = inr (refl, none_is f refl)

pub says_found : (kind : ℕ) (bytes : List ℕ) → IsBytes bytes → Says kind bytes (content_in kind bytes)
says_found kind bytes fits =
    found_says bytes (SaysKnown kind bytes) (form_content (form_of kind) bytes) (form_finds (form_of kind) bytes fits)

pub says_once : (kind : ℕ) (bytes : List ℕ) (content other : Content) → Says kind bytes content → Says kind bytes other → content ≡ other
says_once kind bytes content other (inl one) (inl two) =
    some_is content other (sym (form_only (form_of kind) bytes content one) ∙ form_only (form_of kind) bytes other two)
says_once kind bytes content other (inl one) (inr none) = absurd (none.1 content one)
says_once kind bytes content other (inr none) (inl two) = absurd (none.1 other two)
says_once kind bytes content other (inr none) (inr none_too) = none.0 ∙ sym none_too.0

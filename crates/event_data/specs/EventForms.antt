-- What the data of an event says, by its type.
use Rattle.std.specs.Prelude.{◌≡◌, ℕ, ◌⊎◌, Bool, ◌==◌, if◌then◌else◌, List, [], ◌∷◌, ◌++◌}
use Rattle.std.specs.List.{list_any}
use Rattle.event_data.specs.declared.content.EventContent.{EventContent}
use Rattle.event_data.specs.declared.content.EventContent.TheVariants as contents
use Rattle.event_data.specs.declared.content.DataForm.{DataForm}
use Rattle.event_data.specs.declared.content.DataForm.TheVariants as forms
use Rattle.event_data.specs.Forms.{CommandData, VariableData, ImageData, IsFollowed, IsSeparator, IsText, IsWideText, IsCommand, IsVariable, IsImage, command_of, variable_of, image_of}
use Rattle.event_data.specs.Blobs.{BlobData, TaggedData, IsPlainBlob, IsDescribedBlob, IsTagged, IsLocality, IsTechnology, IsGuid, blob_of, tagged_of}
use Rattle.event_data.specs.Handoffs.{HandoffData, IsHandoff, IsDescribedHandoff}
use Rattle.event_data.specs.HandoffViews.{handoff_of}
use Rattle.event_data.specs.GptForms.{GptData, IsGpt}
use Rattle.event_data.specs.Gpts.{gpt_of}

-- ---- the form of each type (TCG PC Client Platform Firmware Profile, version 1.05, section 10.4.1, 'Event Types')

abbrev pub is_among : List ℕ → ℕ → Bool
is_among kinds kind = list_any (λ other. other == kind) kinds

-- EV_ACTION, EV_S_CRTM_CONTENTS, EV_COMPACT_HASH, EV_OMIT_BOOT_DEVICE_EVENTS, EV_EFI_ACTION, EV_EFI_HCRTM_EVENT.
abbrev pub text_types : List ℕ
text_types = 0x00000005 ∷ 0x00000007 ∷ 0x0000000c ∷ 0x00000012 ∷ 0x80000007 ∷ 0x80000010 ∷ []

-- EV_EFI_VARIABLE_DRIVER_CONFIG, _BOOT, _BOOT2, _AUTHORITY, EV_EFI_SPDM_DEVICE_POLICY, _AUTHORITY.
abbrev pub variable_types : List ℕ
variable_types = 0x80000001 ∷ 0x80000002 ∷ 0x8000000c ∷ 0x800000e0 ∷ 0x800000e3 ∷ 0x800000e4 ∷ []

-- EV_EFI_BOOT_SERVICES_APPLICATION, EV_EFI_BOOT_SERVICES_DRIVER, EV_EFI_RUNTIME_SERVICES_DRIVER.
abbrev pub image_types : List ℕ
image_types = 0x80000003 ∷ 0x80000004 ∷ 0x80000005 ∷ []

-- EV_EFI_GPT_EVENT, EV_EFI_GPT_EVENT2.
abbrev pub gpt_types : List ℕ
gpt_types = 0x80000006 ∷ 0x8000000d ∷ []

-- EV_POST_CODE2, EV_EFI_PLATFORM_FIRMWARE_BLOB2.
abbrev pub described_blob_types : List ℕ
described_blob_types = 0x00000013 ∷ 0x8000000a ∷ []

-- EV_CPU_MICROCODE, EV_PLATFORM_CONFIG_FLAGS, EV_TABLE_OF_DEVICES, EV_NONHOST_CODE, EV_NONHOST_CONFIG: the manufacturer defines their data.
abbrev pub configuration_types : List ℕ
configuration_types = 0x00000009 ∷ 0x0000000a ∷ 0x0000000b ∷ 0x0000000f ∷ 0x00000010 ∷ []

-- The types that have a form of their own: EV_POST_CODE, EV_NO_ACTION, EV_SEPARATOR, EV_EVENT_TAG, EV_S_CRTM_VERSION, EV_IPL,
-- EV_NONHOST_INFO, EV_EFI_PLATFORM_FIRMWARE_BLOB, EV_EFI_HANDOFF_TABLES, EV_EFI_HANDOFF_TABLES2.
abbrev pub form_of : ℕ → DataForm
form_of kind =
    if kind == 0x00000001 then forms.PostCode
    else if kind == 0x00000003 then forms.Locality
    else if kind == 0x00000004 then forms.Separator
    else if kind == 0x00000006 then forms.Tagged
    else if kind == 0x00000008 then forms.Version
    else if kind == 0x0000000d then forms.Loader
    else if kind == 0x00000011 then forms.Host
    else if kind == 0x80000008 then forms.PlainBlob
    else if kind == 0x80000009 then forms.Handoff
    else if kind == 0x8000000b then forms.DescribedHandoff
    else if is_among text_types kind then forms.Text
    else if is_among variable_types kind then forms.Variable
    else if is_among image_types kind then forms.Image
    else if is_among gpt_types kind then forms.Gpt
    else if is_among described_blob_types kind then forms.DescribedBlob
    else if is_among configuration_types kind then forms.Configuration
    else forms.Other

-- ---- what data says

pub data Content : Type 0 where
  separator : ℕ → Content
  text : List ℕ → Content
  wide_text : List ℕ → Content
  guid : List ℕ → Content
  command : CommandData → Content
  variable : VariableData → List ℕ → Content
  image : ImageData → List ℕ → Content
  gpt : GptData → Content
  blob : BlobData → Content
  tagged : TaggedData → Content
  locality : ℕ → Content
  technology : ℕ → Content
  handoff : HandoffData → Content
  unknown : List ℕ → Content

-- Data of the form of texts says this.
abbrev pub SaysText : List ℕ → Content → Type 0
SaysText bytes (text value) = IsText bytes value
SaysText bytes (wide_text value) = IsWideText bytes value
SaysText bytes content = ⊥

-- A version says this: a text, else a GUID.
abbrev pub SaysVersion : List ℕ → Content → Type 0
SaysVersion bytes (guid value) = IsGuid bytes value × ((other : Content) → SaysText bytes other → ⊥)
SaysVersion bytes content = SaysText bytes content

-- The bytes are a text and a NUL more.
abbrev pub SaysTextAndNul : List ℕ → Content → Type 0
SaysTextAndNul bytes content = (shorter : List ℕ) × (bytes ≡ shorter ++ 0 ∷ []) × SaysText shorter content

-- The bytes are a text, else a text and a NUL more.
abbrev pub SaysLongText : List ℕ → Content → Type 0
SaysLongText bytes content =
    SaysText bytes content ⊎ (SaysTextAndNul bytes content × ((other : Content) → SaysText bytes other → ⊥))

-- What a boot loader measured says this: a command of GRUB, else a text, else a text and a NUL more. (shim and systemd-boot have counted the
-- NUL twice: shim, tpm.c; systemd, src/boot/efi/measure.c.)
abbrev pub SaysLoader : List ℕ → Content → Type 0
SaysLoader bytes (command value) = IsCommand bytes value
SaysLoader bytes content = SaysLongText bytes content × ((other : CommandData) → IsCommand bytes other → ⊥)

-- A POST code says this: a text in UTF-8, else a blob. (The last bytes of most blobs are NUL, as those of a text in UTF-16 are.)
abbrev pub SaysPostCode : List ℕ → Content → Type 0
SaysPostCode bytes (text value) = IsText bytes value
SaysPostCode bytes (blob value) = IsPlainBlob bytes value × ((other : List ℕ) → IsText bytes other → ⊥)
SaysPostCode bytes content = ⊥

-- A tagged event says this: a text in UTF-8, which logs of TDX guests have in its place, else a tag and data.
abbrev pub SaysTag : List ℕ → Content → Type 0
SaysTag bytes (text value) = IsText bytes value
SaysTag bytes (tagged value) = IsTagged bytes value × ((other : List ℕ) → IsText bytes other → ⊥)
SaysTag bytes content = ⊥

-- A configuration says this: a text in UTF-8, else a blob with a description. (The last bytes of many are NUL, as those of a text in UTF-16
-- are.)
abbrev pub SaysConfiguration : List ℕ → Content → Type 0
SaysConfiguration bytes (text value) = IsText bytes value
SaysConfiguration bytes (blob value) = IsDescribedBlob bytes value × ((other : List ℕ) → IsText bytes other → ⊥)
SaysConfiguration bytes content = ⊥

-- A host says this: how it keeps its guests apart, else a configuration.
abbrev pub SaysHost : List ℕ → Content → Type 0
SaysHost bytes (technology value) = IsTechnology bytes value
SaysHost bytes content = SaysConfiguration bytes content × ((other : ℕ) → IsTechnology bytes other → ⊥)

-- Data of this form says this.
abbrev pub SaysIn : DataForm → List ℕ → Content → Type 0
SaysIn forms.Separator bytes (separator value) = IsSeparator bytes value
SaysIn forms.Text bytes content = SaysText bytes content
SaysIn forms.Version bytes content = SaysVersion bytes content
SaysIn forms.Loader bytes content = SaysLoader bytes content
SaysIn forms.PostCode bytes content = SaysPostCode bytes content
SaysIn forms.Variable bytes (variable value rest) = IsFollowed IsVariable bytes value rest
SaysIn forms.Image bytes (image value rest) = IsFollowed IsImage bytes value rest
SaysIn forms.Gpt bytes (gpt value) = IsGpt bytes value
SaysIn forms.PlainBlob bytes (blob value) = IsPlainBlob bytes value
SaysIn forms.DescribedBlob bytes (blob value) = IsDescribedBlob bytes value
SaysIn forms.Tagged bytes content = SaysTag bytes content
SaysIn forms.Configuration bytes content = SaysConfiguration bytes content
SaysIn forms.Host bytes content = SaysHost bytes content
SaysIn forms.Handoff bytes (handoff value) = IsHandoff bytes value
SaysIn forms.DescribedHandoff bytes (handoff value) = IsDescribedHandoff bytes value
SaysIn forms.Locality bytes (locality value) = IsLocality bytes value
SaysIn form bytes content = ⊥

-- The data of an event of this type has the form that the type's data has, and says this.
abbrev pub SaysKnown : ℕ → List ℕ → Content → Type 0
SaysKnown kind bytes content = SaysIn (form_of kind) bytes content

-- The data of an event of this type says this; it is unknown where it does not have the form.
abbrev pub Says : ℕ → List ℕ → Content → Type 0
Says kind bytes content =
    SaysKnown kind bytes content ⊎ ((content ≡ unknown bytes) × ((other : Content) → SaysKnown kind bytes other → ⊥))

-- ---- what contracts see of the code's values

abbrev pub content_of : EventContent → Content
content_of (contents.Separator value) = separator value
content_of (contents.Text value) = text value.now
content_of (contents.WideText value) = wide_text value.now
content_of (contents.Guid value) = guid value.bytes.now
content_of (contents.Command value) = command (command_of value)
content_of (contents.Variable value rest) = variable (variable_of value) rest.now
content_of (contents.Image value rest) = image (image_of value) rest.now
content_of (contents.Gpt value) = gpt (gpt_of value)
content_of (contents.Blob value) = blob (blob_of value)
content_of (contents.Tagged value) = tagged (tagged_of value)
content_of (contents.Locality value) = locality value
content_of (contents.Technology value) = technology value
content_of (contents.Handoff value) = handoff (handoff_of value)
content_of (contents.Unknown value) = unknown value.now

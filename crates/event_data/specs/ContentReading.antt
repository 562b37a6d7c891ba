-- What the data of an event says, by its type: functions, where EventForms has relations.
use Rattle.std.specs.Prelude.{ℕ, List, [], ◌∷◌, Option, None, option_and_then, option_map, unwrap_or}
use Rattle.std.specs.Option.{option_or}
use Rattle.event_data.specs.declared.content.DataForm.{DataForm}
use Rattle.event_data.specs.declared.content.DataForm.TheVariants as forms
use Rattle.event_data.specs.EventForms.{Content, separator, text, wide_text, guid, command, variable, image, gpt, blob, tagged, locality, technology, handoff, unknown, form_of}
use Rattle.event_data.specs.Reading.{separator_in, variable_then, image_then}
use Rattle.event_data.specs.Results.{before_in, text_in, wide_text_in, command_in, guid_in, locality_in, technology_in}
use Rattle.event_data.specs.BlobReading.{plain_blob_in, described_blob_in, tagged_in}
use Rattle.event_data.specs.GptReading.{gpt_in}
use Rattle.event_data.specs.HandoffReading.{handoff_in, described_handoff_in}

abbrev pub text_content : List ℕ → Option Content
text_content bytes = option_or (option_map text (text_in bytes)) (option_map wide_text (wide_text_in bytes))

abbrev pub version_content : List ℕ → Option Content
version_content bytes = option_or (text_content bytes) (option_map guid (guid_in bytes))

abbrev pub text_and_nul_content : List ℕ → Option Content
text_and_nul_content bytes = option_and_then text_content (before_in (0 ∷ []) bytes)

abbrev pub long_text_content : List ℕ → Option Content
long_text_content bytes = option_or (text_content bytes) (text_and_nul_content bytes)

abbrev pub loader_content : List ℕ → Option Content
loader_content bytes = option_or (option_map command (command_in bytes)) (long_text_content bytes)

abbrev pub post_code_content : List ℕ → Option Content
post_code_content bytes = option_or (option_map text (text_in bytes)) (option_map blob (plain_blob_in bytes))

abbrev pub tag_content : List ℕ → Option Content
tag_content bytes = option_or (option_map text (text_in bytes)) (option_map tagged (tagged_in bytes))

abbrev pub configuration_content : List ℕ → Option Content
configuration_content bytes = option_or (option_map text (text_in bytes)) (option_map blob (described_blob_in bytes))

abbrev pub host_content : List ℕ → Option Content
host_content bytes = option_or (option_map technology (technology_in bytes)) (configuration_content bytes)

-- What data of this form says.
abbrev pub form_content : DataForm → List ℕ → Option Content
form_content forms.Separator bytes = option_map separator (separator_in bytes)
form_content forms.Text bytes = text_content bytes
form_content forms.Version bytes = version_content bytes
form_content forms.Loader bytes = loader_content bytes
form_content forms.PostCode bytes = post_code_content bytes
form_content forms.Variable bytes = option_map (λ x. variable x.0 x.1) (variable_then bytes)
form_content forms.Image bytes = option_map (λ x. image x.0 x.1) (image_then bytes)
form_content forms.Gpt bytes = option_map gpt (gpt_in bytes)
form_content forms.PlainBlob bytes = option_map blob (plain_blob_in bytes)
form_content forms.DescribedBlob bytes = option_map blob (described_blob_in bytes)
form_content forms.Tagged bytes = tag_content bytes
form_content forms.Configuration bytes = configuration_content bytes
form_content forms.Host bytes = host_content bytes
form_content forms.Handoff bytes = option_map handoff (handoff_in bytes)
form_content forms.DescribedHandoff bytes = option_map handoff (described_handoff_in bytes)
form_content forms.Locality bytes = option_map locality (locality_in bytes)
form_content forms.Other bytes = None

-- What the data of an event of this type says.
abbrev pub content_in : ℕ → List ℕ → Content
content_in kind bytes = unwrap_or (form_content (form_of kind) bytes) (unknown bytes)

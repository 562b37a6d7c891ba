-- What an event's data says briefly nests little, and its numbers are decimal ones.
use Rattle.std.proofs.Common.{ℕ, suc, Bool, true, false, cond, List, [], ◌∷◌, length, Option, Some, None, codes, refl}
use Rattle.std.specs.Prelude.{◌==◌, nat_le}
use Rattle.event_data.specs.Names.{Content, ImageData, LoadOptionData, SignatureData, TaggedData, ValueSays, VariableData, text_in, value_in}
use Rattle.event_data.specs.EventForms as forms
use Rattle.event_data.specs.Values as values
use Rattle.cells.proofs.LineLaws.{ArePlain, IsPlain, members_joined}
use Rattle.cells.specs.Values.{IsCount, hex_json}
use Rattle.event_lines.specs.BriefJson.{IsCountedRest, beginning_json, brief_content_json, brief_image_json, brief_json, brief_option_json, brief_payload_member, brief_rest_members, brief_signature_json, brief_tagged_json, brief_value_members, brief_variable_json}
use Rattle.event_lines.specs.ContentJson.{IsCountedContent}
use Rattle.event_lines.specs.ValueJson.{IsCountedValue}
use Rattle.event_lines.proofs.CertificateLaws.{certificate_is_plain}
use Rattle.event_lines.proofs.ContentLaws.{content_plain, path_plain, value_plain, wide_plain}

-- Digits, or an object with two members.
chosen_plain : (most : ℕ) (is_short : Bool) (bytes : List ℕ) → IsCount (length bytes)
    → IsPlain (cond is_short (hex_json bytes) (beginning_json bytes)) (suc most)
chosen_plain most true bytes fits = tt
chosen_plain most false bytes fits = (tt, ((length bytes, fits, refl), tt))

brief_plain : (most : ℕ) (bytes : List ℕ) → IsCount (length bytes) → IsPlain (brief_json bytes) (suc most)
brief_plain most bytes fits = chosen_plain most (nat_le (length bytes) 32) bytes fits

rest_if_plain : (most : ℕ) (none : Bool) (rest : List ℕ) → IsCount (length rest)
    → ArePlain (cond none [] ((codes "rest", brief_json rest) ∷ [])) (suc most)
rest_if_plain most true rest fits = tt
rest_if_plain most false rest fits = (brief_plain most rest fits, tt)

rest_plain : (most : ℕ) (rest : List ℕ) → IsCount (length rest) → ArePlain (brief_rest_members rest) (suc most)
rest_plain most rest fits = rest_if_plain most (length rest == 0) rest fits

option_plain : (o : LoadOptionData) → IsCount o.attributes → IsCount (length o.optional_data) → IsPlain (brief_option_json o) 4
option_plain o fits size = (
  (o.attributes, fits, refl),
  (wide_plain 3 (codes "description") (codes "description_hex") o.description, (path_plain 3 o.path, (brief_plain 2 o.optional_data size, tt))),
)

signature_plain : (s : SignatureData) → IsCount (length s.payload) → IsPlain (brief_signature_json s) 4
signature_plain s fits = (tt, (brief_plain 2 s.payload fits, certificate_is_plain s.payload fits))

says_plain : (says : ValueSays) → IsCountedValue says → ArePlain (brief_value_members says) 4
says_plain (values.flag value) fits = value_plain (values.flag value) fits
says_plain (values.order numbers) fits = value_plain (values.order numbers) fits
says_plain (values.option value) fits = (option_plain value fits.0 fits.1, tt)
says_plain (values.lists lists) fits = value_plain (values.lists lists) fits
says_plain (values.signature value) fits = (signature_plain value fits, tt)
says_plain (values.certificate value) fits = value_plain (values.certificate value) fits
says_plain (values.level value) fits = value_plain (values.level value) fits
says_plain values.unknown fits = tt

variable_plain : (kind : ℕ) (v : VariableData) (rest : List ℕ) → IsCount (length v.value) → IsCountedValue (value_in kind v)
    → IsCount (length rest) → IsPlain (brief_variable_json kind v rest) 5
variable_plain kind v rest size fits more = (
  tt,
  (
    wide_plain 4 (codes "name") (codes "name_hex") v.name,
    (
      brief_plain 3 v.value size,
      members_joined 4 (brief_rest_members rest) (brief_value_members (value_in kind v)) (rest_plain 3 rest more)
          (says_plain (value_in kind v) fits),
    ),
  ),
)

image_plain : (i : ImageData) (rest : List ℕ) → IsCount (length rest) → IsPlain (brief_image_json i rest) 5
image_plain i rest more = (tt, (tt, (tt, (path_plain 4 i.path, rest_plain 3 rest more))))

payload_plain : (payload : List ℕ) (text : Option (List ℕ)) → IsCount (length payload) → IsPlain (brief_payload_member payload text).1 4
payload_plain payload (Some text) fits = tt
payload_plain payload None fits = brief_plain 3 payload fits

tagged_plain : (t : TaggedData) → IsCount t.id → IsCount (length t.payload) → IsPlain (brief_tagged_json t) 5
tagged_plain t fits size = ((t.id, fits, refl), (payload_plain t.payload (text_in t.payload) size, tt))

pub brief_content_plain : (kind : ℕ) (content : Content) → IsCountedContent kind content → IsCountedRest content
    → IsPlain (brief_content_json kind content) 6
brief_content_plain kind (forms.separator value) fits more = content_plain kind (forms.separator value) fits
brief_content_plain kind (forms.text value) fits more = content_plain kind (forms.text value) fits
brief_content_plain kind (forms.wide_text value) fits more = content_plain kind (forms.wide_text value) fits
brief_content_plain kind (forms.guid value) fits more = content_plain kind (forms.guid value) fits
brief_content_plain kind (forms.command value) fits more = content_plain kind (forms.command value) fits
brief_content_plain kind (forms.variable value rest) fits more = (variable_plain kind value rest fits.0 fits.1 more, tt)
brief_content_plain kind (forms.image value rest) fits more = (image_plain value rest more, tt)
brief_content_plain kind (forms.gpt value) fits more = content_plain kind (forms.gpt value) fits
brief_content_plain kind (forms.blob value) fits more = content_plain kind (forms.blob value) fits
brief_content_plain kind (forms.tagged value) fits more = (tagged_plain value fits.0 fits.1, tt)
brief_content_plain kind (forms.locality value) fits more = content_plain kind (forms.locality value) fits
brief_content_plain kind (forms.technology value) fits more = content_plain kind (forms.technology value) fits
brief_content_plain kind (forms.handoff value) fits more = content_plain kind (forms.handoff value) fits
brief_content_plain kind (forms.unknown bytes) fits more = content_plain kind (forms.unknown bytes) fits

-- What an event's data says nests little, and its numbers are decimal ones.
use Rattle.std.proofs.Common.{ℕ, List, [], ◌∷◌, length, map, Option, Some, None, codes, cond, Bool, true, false, refl}
use Rattle.std.specs.Prelude.{◌==◌, bytes_eq}
use Rattle.std.specs.List.{AllByRecursion}
use Rattle.json.specs.Json.{Json}
use Rattle.event_data.specs.Names.{BlobData, Content, GptData, HandoffData, ImageData, ListData, LoadOptionData, PartitionData, SignatureData, TableData, TaggedData, ValueSays, VariableData, signatures_of, table_name, tables_of, text_in, value_in}
use Rattle.event_data.specs.EventForms as forms
use Rattle.event_data.specs.Values as values
use Rattle.event_texts.specs.PathTexts.{path_text}
use Rattle.event_texts.specs.WideTexts as wide
use Rattle.event_lines.specs.ContentJson.{IsCountedContent, blob_json, content_json, description_members, gpt_json, handoff_json, image_json, name_members, partition_json, table_json, tagged_json}
use Rattle.event_lines.specs.ContentTexts.{guid_json, rest_members, text_or_hex}
use Rattle.cells.specs.Values.{IsCount, hex_json, items_of}
use Rattle.event_lines.proofs.CertificateLaws.{certificate_is_plain, certificates_plain, known_is_plain}
use Rattle.event_lines.specs.ValueJson.{IsCountedList, IsCountedValue, list_json, load_option_json, option_number_json, owner_values, owners_after, value_members}
use Rattle.event_lines.specs.VariableJson.{variable_json}
use Rattle.cells.proofs.LineLaws.{ArePlain, IsPlain, ItemsArePlain, members_joined, values_joined}

-- ---- parts

-- A text, or hexadecimal digits.
shown_plain : (most : ℕ) (name hex_name bytes : List ℕ) (told : Option (List ℕ)) → IsPlain (text_or_hex name hex_name bytes told).1 most
shown_plain most name hex_name bytes (Some told) = tt
shown_plain most name hex_name bytes None = tt

pub wide_plain : (most : ℕ) (name hex_name bytes : List ℕ) → IsPlain (text_or_hex name hex_name bytes (wide.wide_text bytes)).1 most
wide_plain most name hex_name bytes = shown_plain most name hex_name bytes (wide.wide_text bytes)

pub path_plain : (most : ℕ) (bytes : List ℕ) → IsPlain (text_or_hex (codes "path") (codes "path_hex") bytes (path_text bytes)).1 most
path_plain most bytes = shown_plain most (codes "path") (codes "path_hex") bytes (path_text bytes)

rest_shown : (most : ℕ) (none : Bool) (rest : List ℕ) → ArePlain (cond none [] ((codes "rest", hex_json rest) ∷ [])) most
rest_shown most true rest = tt
rest_shown most false rest = (tt, tt)

rest_plain : (most : ℕ) (rest : List ℕ) → ArePlain (rest_members rest) most
rest_plain most rest = rest_shown most (length rest == 0) rest

each_plain : {A : Type 0} (most : ℕ) (Q : A → Type 0) (f : A → Json) → ((x : A) → Q x → IsPlain (f x) most) → (xs : List A)
    → AllByRecursion Q xs → ItemsArePlain (items_of (map f xs)) most
each_plain most Q f plain [] are = tt
each_plain most Q f plain (x ∷ xs) are = (plain x are.0, each_plain most Q f plain xs are.1)

every_plain : {A : Type 0} (most : ℕ) (f : A → Json) → ((x : A) → IsPlain (f x) most) → (xs : List A) → ItemsArePlain (items_of (map f xs)) most
every_plain most f plain [] = tt
every_plain most f plain (x ∷ xs) = (plain x, every_plain most f plain xs)

-- ---- values of variables

option_plain : (o : LoadOptionData) → IsCount o.attributes → IsPlain (load_option_json o) 4
option_plain o fits = (
  (o.attributes, fits, refl),
  (wide_plain 3 (codes "description") (codes "description_hex") o.description, (path_plain 3 o.path, (tt, tt))),
)

owner_plain : (same : Bool) (owner : List ℕ) → ItemsArePlain (items_of (cond same [] (guid_json owner ∷ []))) 1
owner_plain true owner = tt
owner_plain false owner = (tt, tt)

owners_plain : (before : List ℕ) (signatures : List SignatureData) → ItemsArePlain (items_of (owners_after before signatures)) 1
owners_plain before [] = tt
owners_plain before (first ∷ signatures) =
    values_joined 1 (owner_values before first.owner) (owners_after first.owner signatures) (owner_plain (bytes_eq before first.owner) first.owner)
    (owners_plain first.owner signatures)

list_plain : (l : ListData) → IsCountedList l → IsPlain (list_json l) 3
list_plain l fits =
    (tt, ((length (signatures_of l), fits.count, refl), (owners_plain [] (signatures_of l), certificates_plain l fits.sizes)))

pub value_plain : (says : ValueSays) → IsCountedValue says → ArePlain (value_members says) 4
value_plain (values.flag value) fits = ((value, fits, refl), tt)
value_plain (values.order numbers) fits = (every_plain 3 option_number_json (λ n. tt) numbers, tt)
value_plain (values.option value) fits = (option_plain value fits.0, tt)
value_plain (values.lists ls) fits = (each_plain 3 IsCountedList list_json list_plain ls fits, tt)
value_plain (values.signature value) fits = ((tt, (tt, certificate_is_plain value.payload fits)), tt)
value_plain (values.certificate value) fits = known_is_plain value fits
value_plain (values.level value) fits = (tt, tt)
value_plain values.unknown fits = tt

variable_plain : (kind : ℕ) (v : VariableData) (rest : List ℕ) → IsCountedValue (value_in kind v) → IsPlain (variable_json kind v rest) 5
variable_plain kind v rest fits = (
  tt,
  (
    wide_plain 4 (codes "name") (codes "name_hex") v.name,
    (tt, members_joined 4 (rest_members rest) (value_members (value_in kind v)) (rest_plain 4 rest) (value_plain (value_in kind v) fits)),
  ),
)

-- ---- other data

image_plain : (i : ImageData) (rest : List ℕ) → IsPlain (image_json i rest) 5
image_plain i rest = (tt, (tt, (tt, (path_plain 4 i.path, rest_plain 4 rest))))

partition_plain : (p : PartitionData) → IsPlain (partition_json p) 3
partition_plain p = (tt, (tt, (tt, (tt, (tt, (wide_plain 2 (codes "name") (codes "name_hex") p.name, tt))))))

gpt_plain : (g : GptData) → IsPlain (gpt_json g) 5
gpt_plain g = (tt, (every_plain 3 partition_json partition_plain g.partitions, tt))

description_plain : (description : Option (List ℕ)) → ArePlain (description_members description) 4
description_plain None = tt
description_plain (Some text) = (tt, tt)

blob_plain : (b : BlobData) → IsPlain (blob_json b) 5
blob_plain b = members_joined 4 (description_members b.description) _ (description_plain b.description) (tt, (tt, tt))

name_plain : (name : Option (List ℕ)) → ArePlain (name_members name) 2
name_plain None = tt
name_plain (Some name) = (tt, tt)

table_plain : (t : TableData) → IsPlain (table_json t) 3
table_plain t = (tt, members_joined 2 (name_members (table_name t.vendor)) _ (name_plain (table_name t.vendor)) (tt, tt))

handoff_plain : (h : HandoffData) → IsPlain (handoff_json h) 5
handoff_plain h =
    members_joined 4 (description_members h.description) _ (description_plain h.description)
    (every_plain 3 table_json table_plain (tables_of h), tt)

tagged_plain : (t : TaggedData) → IsCount t.id → IsPlain (tagged_json t) 5
tagged_plain t fits = ((t.id, fits, refl), (shown_plain 4 (codes "text") (codes "data") t.payload (text_in t.payload), tt))

pub content_plain : (kind : ℕ) (content : Content) → IsCountedContent kind content → IsPlain (content_json kind content) 6
content_plain kind (forms.separator value) fits = ((value, fits, refl), tt)
content_plain kind (forms.text value) fits = (tt, tt)
content_plain kind (forms.wide_text value) fits = (wide_plain 5 (codes "text") (codes "text_hex") value, tt)
content_plain kind (forms.guid value) fits = (tt, tt)
content_plain kind (forms.command value) fits = ((tt, (tt, tt)), tt)
content_plain kind (forms.variable value rest) fits = (variable_plain kind value rest fits.1, tt)
content_plain kind (forms.image value rest) fits = (image_plain value rest, tt)
content_plain kind (forms.gpt value) fits = (gpt_plain value, tt)
content_plain kind (forms.blob value) fits = (blob_plain value, tt)
content_plain kind (forms.tagged value) fits = (tagged_plain value fits.0, tt)
content_plain kind (forms.locality value) fits = ((value, fits, refl), tt)
content_plain kind (forms.technology value) fits = ((value, fits, refl), tt)
content_plain kind (forms.handoff value) fits = (handoff_plain value, tt)
content_plain kind (forms.unknown bytes) fits = (tt, tt)

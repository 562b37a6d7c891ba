-- The numbers that an event's data tells as those of JSON fit: each takes four bytes at most, or counts what the bytes hold.
use Rattle.std.proofs.Common.{◌≡◌, ℕ, zero, suc, ◌+◌, ◌^◌, ◌<◌, ◌≤◌, Bool, true, false, cond, List, [], ◌∷◌, ◌++◌, length, Option, Some, None, refl, ap, subst, ◌∙◌, arith}
use Rattle.std.specs.Prelude.{◌==◌, IfSome, codes, option_and_then, option_map, unwrap_or}
use Rattle.std.specs.Int.{to_le_bytes, w64}
use Rattle.std.specs.List.{AllByRecursion}
use Rattle.std.specs.Option.{option_map_or, option_or}
use Rattle.std.proofs.lemmas.List.{length-append}
use Rattle.byte_fields.specs.Spelling.{number16, number32}
use Rattle.hex.specs.Hex.{IsBytes}
use Rattle.event_data.specs.Names.{AreSignatureLists, AreSignatures, Content, ImageData, IsLoadOption, IsSignature, IsSignatureList, IsVariable, ListData, LoadOptionData, SignatureData, ValueSays, VariableData, all_taken, before_in, certificate_in, command_in, configuration_content, configuration_types, content_in, described_blob_in, described_blob_types, described_handoff_in, flag_says, form_content, form_of, gpt_in, gpt_types, guid_in, handoff_in, host_content, image_then, image_types, is_among, is_authority, is_flag, is_level, is_lists, is_load_option, is_order, is_own_certificate, lists_in, load_option_in, loader_content, locality_in, long_text_content, numbers_in, plain_blob_in, reserved, says_in, separator_in, signature_in, signatures_of, tag_content, tagged_in, technology_in, text_and_nul_content, text_content, text_in, text_types, value_in, variable_then, variable_types, wide_text_in}
use Rattle.event_data.specs.EventForms as contents
use Rattle.event_data.specs.Values as values
use Rattle.event_data.proofs.BlobLaws.{tagged_finds}
use Rattle.event_data.proofs.CertificateLaws.{certificate_finds}
use Rattle.event_data.proofs.FormLaws.{separator_finds, variable_then_is}
use Rattle.event_data.proofs.ListLaws.{list_exact, list_into, list_out, list_signatures, some_list}
use Rattle.event_data.proofs.TakenLaws.{all_takes}
use Rattle.event_data.proofs.TextLaws.{locality_finds, technology_finds}
use Rattle.event_data.proofs.ValueLaws.{load_option_takes, signature_takes}
use Rattle.event_lines.specs.ContentJson.{IsCountedContent}
use Rattle.cells.specs.Values.{IsCount}
use Rattle.event_lines.specs.ValueJson.{IsCountedList, IsCountedValue}

-- ---- parts of bytes

before : (prefix rest : List ℕ) → IsBytes (prefix ++ rest) → IsBytes prefix
before [] rest fits i = omega arith
before (byte ∷ prefix) rest fits zero = fits zero
before (byte ∷ prefix) rest fits (suc i) = before prefix rest (λ j. fits (suc j)) i

behind : (prefix rest : List ℕ) → IsBytes (prefix ++ rest) → IsBytes rest
behind [] rest fits = fits
behind (byte ∷ prefix) rest fits = behind prefix rest (λ i. fits (suc i))

-- ---- one form, else another

if_either : {F : Type 0} (P : F → Type 0) (b : Bool) (f g : F) → P f → P g → P (cond b f g)
if_either P true f g first second = first
if_either P false f g first second = second

-- ---- a variable's value

-- Bytes hold no more signatures than bytes.
few_signatures : (size : ℕ) (bytes : List ℕ) (signatures : List SignatureData) → AreSignatures size bytes signatures
    → length signatures ≤ length bytes
few_signatures size bytes [] are = omega arith
few_signatures size bytes (first ∷ signatures) are =
    let whole : length bytes ≡ length are.0 + length are.1 = ap length are.2 ∙ length-append are.0 are.1 in
    let own : length are.0 ≡ length first.owner + length first.payload =
    ap length are.3.0.spelled ∙ length-append first.owner first.payload in
    omega (arith, whole, own, are.3.0.owner_size, few_signatures size are.1 signatures are.4)

-- Each signature of a list is shorter than its size.
small_signatures : (size : ℕ) (bytes : List ℕ) (signatures : List SignatureData) → size < 2 ^ 32 → AreSignatures size bytes signatures
    → AllByRecursion (λ signature. IsCount (length signature.payload)) signatures
small_signatures size bytes [] fits are = tt
small_signatures size bytes (first ∷ signatures) fits are =
    let own : length are.0 ≡ length first.owner + length first.payload =
    ap length are.3.0.spelled ∙ length-append first.owner first.payload in
    (omega (arith, own, are.3.1, fits), small_signatures size are.1 signatures fits are.4)

-- What ends bytes is no longer than they are.
longer : (prefix rest : List ℕ) → length rest ≤ length (prefix ++ rest)
longer prefix rest = omega (arith, length-append prefix rest)

payload_within : (bytes : List ℕ) (signature : SignatureData) → IsSignature bytes signature → length signature.payload ≤ length bytes
payload_within bytes signature is =
    let whole : length bytes ≡ length (signature.owner ++ signature.payload) = ap length is.spelled in
    omega (arith, whole, longer signature.owner signature.payload)

data_within : (bytes : List ℕ) (option : LoadOptionData) → IsLoadOption bytes option → length option.optional_data ≤ length bytes
data_within bytes option is =
    let inner = option.path ++ option.optional_data in
    let named = option.description ++ 0 ∷ 0 ∷ inner in
    let sized = number16 (length option.path) ++ named in
    let whole : length bytes ≡ length (number32 option.attributes ++ sized) = ap length is.spelled in
    omega (
      arith,
      whole,
      longer (number32 option.attributes) sized,
      longer (number16 (length option.path)) named,
      longer option.description (0 ∷ 0 ∷ inner),
      longer option.path option.optional_data,
    )

lists_counted : (bytes : List ℕ) (lists : List ListData) → IsBytes bytes → AreSignatureLists bytes lists → AllByRecursion IsCountedList lists
lists_counted bytes [] fits are = tt
lists_counted bytes (list ∷ lists) fits are =
    let both : IsBytes (are.0 ++ are.1) = subst IsBytes are.2 fits in
    let signatures = list_signatures are.0 list (λ i. omega (arith, before are.0 are.1 both i)) are.3 in (
      record {
        count = omega (arith, are.3.list_fits, few_signatures list.signature_size list.signatures (signatures_of list) signatures);
        sizes = small_signatures list.signature_size list.signatures (signatures_of list) are.3.size_fits signatures;
      },
      lists_counted are.1 lists (behind are.0 are.1 both) are.4,
    )

flag_counted : (bytes : List ℕ) → IsBytes bytes → IsCountedValue (flag_says bytes)
flag_counted [] fits = tt
flag_counted (value ∷ []) fits = omega (arith, fits 0)
flag_counted (value ∷ more ∷ bytes) fits = tt

found_counted : {X : Type 0} (to : X → ValueSays) (found : Option X) → ((x : X) → found ≡ Some x → IsCountedValue (to x))
    → IsCountedValue (option_map_or to found values.unknown)
found_counted to (Some x) fits = fits x refl
found_counted to None fits = tt

-- A certificate is the whole value.
certificate_within : (bytes x : List ℕ) → IsBytes bytes → certificate_in bytes ≡ Some x → length x ≡ length bytes
certificate_within bytes x fits e = ap length ((certificate_finds bytes (λ i. omega (arith, fits i))).is x e).same

certificate_counted : (bytes : List ℕ) → length bytes < 2 ^ 64 → IsBytes bytes → (x : List ℕ) → certificate_in bytes ≡ Some x
    → IsCount (length x)
certificate_counted bytes sized fits x e = omega (arith, sized, certificate_within bytes x fits e)

authority_counted : (first : Option (List ℕ)) (second : Option SignatureData)
    → ((x : List ℕ) → first ≡ Some x → IsCount (length x)) → ((s : SignatureData) → second ≡ Some s → IsCount (length s.payload))
    → IsCountedValue (option_map_or values.certificate first (option_map_or values.signature second values.unknown))
authority_counted (Some x) second own others = own x refl
authority_counted None second own others = found_counted values.signature second others

value_counted : (kind : ℕ) (v : VariableData) → length v.value < 2 ^ 64 → IsBytes v.value → IsCountedValue (value_in kind v)
value_counted kind v sized fits =
    if_either (λ form. IsCountedValue (says_in form v.value)) (is_authority kind v) _ _
    (authority_counted (certificate_in v.value) (signature_in v.value) (certificate_counted v.value sized fits)
    (λ s e. omega (arith, sized, payload_within v.value s (signature_takes v.value s (λ i. omega (arith, fits i)) e))))
    (if_either (λ form. IsCountedValue (says_in form v.value)) (is_flag v) _ _ (flag_counted v.value fits)
    (if_either (λ form. IsCountedValue (says_in form v.value)) (is_order v) _ _
    (found_counted values.order (all_taken (numbers_in v.value)) (λ x e. tt))
    (if_either (λ form. IsCountedValue (says_in form v.value)) (is_load_option v) _ _
    (found_counted values.option (load_option_in v.value)
    (λ option e.
    let is = load_option_takes v.value option (λ i. omega (arith, fits i)) e in
    (omega (arith, is.attributes_fit), omega (arith, sized, data_within v.value option is))))
    (if_either (λ form. IsCountedValue (says_in form v.value)) (is_lists v) _ _
    (found_counted values.lists (all_taken (lists_in v.value))
    (λ lists e. lists_counted v.value lists fits
    (all_takes list_exact some_list IsSignatureList list_into list_out v.value lists (λ i. omega (arith, fits i)) e)))
    (if_either (λ form. IsCountedValue (says_in form v.value)) (is_own_certificate v) _ _
    (found_counted values.certificate (certificate_in v.value) (certificate_counted v.value sized fits))
    (if_either (λ form. IsCountedValue (says_in form v.value)) (is_level v) _ _ (found_counted values.level (text_in v.value) (λ x e. tt))
    tt))))))

-- The value of a variable that bytes are is bytes too.
value_is_bytes : (bytes : List ℕ) (v : VariableData) → IsBytes bytes → IsVariable bytes v → IsBytes v.value
value_is_bytes bytes v fits is =
    let content = v.name ++ v.value in
    let sized = to_le_bytes w64 (length v.value) ++ content in
    let whole : IsBytes (v.guid ++ (to_le_bytes w64 is.units ++ sized)) = subst IsBytes is.spelled fits in
    behind v.name v.value
    (behind (to_le_bytes w64 (length v.value)) content
    (behind (to_le_bytes w64 is.units) sized (behind v.guid (to_le_bytes w64 is.units ++ sized) whole)))

-- ---- data of each form

abbrev AreCounted : ℕ → Option Content → Type 0
AreCounted kind found = IfSome found (IsCountedContent kind)

mapped_counted : {X : Type 0} (kind : ℕ) (to : X → Content) (found : Option X)
    → ((x : X) → found ≡ Some x → IsCountedContent kind (to x)) → AreCounted kind (option_map to found)
mapped_counted kind to (Some x) fits = fits x refl
mapped_counted kind to None fits = tt

or_counted : (kind : ℕ) (first second : Option Content) → AreCounted kind first → AreCounted kind second
    → AreCounted kind (option_or first second)
or_counted kind (Some content) second fits others = fits
or_counted kind None second fits others = others

unwrapped : (kind : ℕ) (bytes : List ℕ) (found : Option Content) → AreCounted kind found
    → IsCountedContent kind (unwrap_or found (contents.unknown bytes))
unwrapped kind bytes (Some content) fits = fits
unwrapped kind bytes None fits = tt

text_counted : (kind : ℕ) (bytes : List ℕ) → AreCounted kind (text_content bytes)
text_counted kind bytes =
    or_counted kind (option_map contents.text (text_in bytes)) (option_map contents.wide_text (wide_text_in bytes))
    (mapped_counted kind contents.text (text_in bytes) (λ x e. tt))
    (mapped_counted kind contents.wide_text (wide_text_in bytes) (λ x e. tt))

version_counted : (kind : ℕ) (bytes : List ℕ) → AreCounted kind (option_or (text_content bytes) (option_map contents.guid (guid_in bytes)))
version_counted kind bytes =
    or_counted kind (text_content bytes) (option_map contents.guid (guid_in bytes)) (text_counted kind bytes)
    (mapped_counted kind contents.guid (guid_in bytes) (λ x e. tt))

shorter_counted : (kind : ℕ) (found : Option (List ℕ)) → AreCounted kind (option_and_then text_content found)
shorter_counted kind (Some shorter) = text_counted kind shorter
shorter_counted kind None = tt

loader_counted : (kind : ℕ) (bytes : List ℕ) → AreCounted kind (loader_content bytes)
loader_counted kind bytes =
    or_counted kind (option_map contents.command (command_in bytes)) (long_text_content bytes)
    (mapped_counted kind contents.command (command_in bytes) (λ x e. tt))
    (or_counted kind (text_content bytes) (text_and_nul_content bytes) (text_counted kind bytes)
    (shorter_counted kind (before_in (0 ∷ []) bytes)))

blob_counted : (kind : ℕ) (bytes : List ℕ) → AreCounted kind (option_map contents.blob (plain_blob_in bytes))
blob_counted kind bytes = mapped_counted kind contents.blob (plain_blob_in bytes) (λ x e. tt)

post_code_counted : (kind : ℕ) (bytes : List ℕ)
    → AreCounted kind (option_or (option_map contents.text (text_in bytes)) (option_map contents.blob (plain_blob_in bytes)))
post_code_counted kind bytes =
    or_counted kind (option_map contents.text (text_in bytes)) (option_map contents.blob (plain_blob_in bytes))
    (mapped_counted kind contents.text (text_in bytes) (λ x e. tt)) (blob_counted kind bytes)

separator_counted : (kind : ℕ) (bytes : List ℕ) → IsBytes bytes → AreCounted kind (option_map contents.separator (separator_in bytes))
separator_counted kind bytes fits =
    mapped_counted kind contents.separator (separator_in bytes)
    (λ x e. omega (arith, ((separator_finds bytes (λ i. omega (arith, fits i))).is x e).fits))

tag_counted : (kind : ℕ) (bytes : List ℕ) → IsBytes bytes → AreCounted kind (tag_content bytes)
tag_counted kind bytes fits =
    or_counted kind (option_map contents.text (text_in bytes)) (option_map contents.tagged (tagged_in bytes))
    (mapped_counted kind contents.text (text_in bytes) (λ x e. tt))
    (mapped_counted kind contents.tagged (tagged_in bytes)
    (λ x e.
    let is = (tagged_finds bytes (λ i. omega (arith, fits i))).is x e in
    (omega (arith, is.id_fits), omega (arith, is.size_fits))))

configuration_counted : (kind : ℕ) (bytes : List ℕ) → AreCounted kind (configuration_content bytes)
configuration_counted kind bytes =
    or_counted kind (option_map contents.text (text_in bytes)) (option_map contents.blob (described_blob_in bytes))
    (mapped_counted kind contents.text (text_in bytes) (λ x e. tt))
    (mapped_counted kind contents.blob (described_blob_in bytes) (λ x e. tt))

technology_fits : (bytes : List ℕ) (x : ℕ) → IsBytes bytes → technology_in bytes ≡ Some x → IsCount x
technology_fits bytes x fits e =
    let signature = codes "GCE NonHostInfo" ++ 0 ∷ [] in
    let whole : IsBytes (signature ++ x ∷ reserved) = subst IsBytes ((technology_finds bytes).is x e).spelled fits in
    omega (arith, behind signature (x ∷ reserved) whole 0)

host_counted : (kind : ℕ) (bytes : List ℕ) → IsBytes bytes → AreCounted kind (host_content bytes)
host_counted kind bytes fits =
    or_counted kind (option_map contents.technology (technology_in bytes)) (configuration_content bytes)
    (mapped_counted kind contents.technology (technology_in bytes) (λ x e. technology_fits bytes x fits e))
    (configuration_counted kind bytes)

locality_counted : (kind : ℕ) (bytes : List ℕ) → IsBytes bytes → AreCounted kind (option_map contents.locality (locality_in bytes))
locality_counted kind bytes fits =
    mapped_counted kind contents.locality (locality_in bytes)
    (λ x e. omega (arith, ((locality_finds bytes (λ i. omega (arith, fits i))).is x e).fits))

variable_counted : (kind : ℕ) (bytes : List ℕ) → IsBytes bytes
    → AreCounted kind (option_map (λ (x : VariableData × List ℕ). contents.variable x.0 x.1) (variable_then bytes))
variable_counted kind bytes fits =
    mapped_counted kind (λ (x : VariableData × List ℕ). contents.variable x.0 x.1) (variable_then bytes)
    (λ x e.
    let is = variable_then_is bytes x.0 x.1 (λ i. omega (arith, fits i)) e in (
      omega (arith, is.is.value_fits),
      value_counted kind x.0 is.is.value_fits (value_is_bytes is.form x.0 (before is.form x.1 (subst IsBytes is.spelled fits)) is.is),
    ))

-- ---- any type

form_counted : (kind : ℕ) (bytes : List ℕ) → IsBytes bytes → AreCounted kind (form_content (form_of kind) bytes)
form_counted kind bytes fits =
    if_either (λ form. AreCounted kind (form_content form bytes)) (kind == 0x00000001) _ _ (post_code_counted kind bytes)
    (if_either (λ form. AreCounted kind (form_content form bytes)) (kind == 0x00000003) _ _ (locality_counted kind bytes fits)
    (if_either (λ form. AreCounted kind (form_content form bytes)) (kind == 0x00000004) _ _ (separator_counted kind bytes fits)
    (if_either (λ form. AreCounted kind (form_content form bytes)) (kind == 0x00000006) _ _ (tag_counted kind bytes fits)
    (if_either (λ form. AreCounted kind (form_content form bytes)) (kind == 0x00000008) _ _ (version_counted kind bytes)
    (if_either (λ form. AreCounted kind (form_content form bytes)) (kind == 0x0000000d) _ _ (loader_counted kind bytes)
    (if_either (λ form. AreCounted kind (form_content form bytes)) (kind == 0x00000011) _ _ (host_counted kind bytes fits)
    (if_either (λ form. AreCounted kind (form_content form bytes)) (kind == 0x80000008) _ _ (blob_counted kind bytes)
    (if_either (λ form. AreCounted kind (form_content form bytes)) (kind == 0x80000009) _ _
    (mapped_counted kind contents.handoff (handoff_in bytes) (λ x e. tt))
    (if_either (λ form. AreCounted kind (form_content form bytes)) (kind == 0x8000000b) _ _
    (mapped_counted kind contents.handoff (described_handoff_in bytes) (λ x e. tt))
    (if_either (λ form. AreCounted kind (form_content form bytes)) (is_among text_types kind) _ _ (text_counted kind bytes)
    (if_either (λ form. AreCounted kind (form_content form bytes)) (is_among variable_types kind) _ _ (variable_counted kind bytes fits)
    (if_either (λ form. AreCounted kind (form_content form bytes)) (is_among image_types kind) _ _
    (mapped_counted kind (λ (x : ImageData × List ℕ). contents.image x.0 x.1) (image_then bytes) (λ x e. tt))
    (if_either (λ form. AreCounted kind (form_content form bytes)) (is_among gpt_types kind) _ _
    (mapped_counted kind contents.gpt (gpt_in bytes) (λ x e. tt))
    (if_either (λ form. AreCounted kind (form_content form bytes)) (is_among described_blob_types kind) _ _
    (mapped_counted kind contents.blob (described_blob_in bytes) (λ x e. tt))
    (if_either (λ form. AreCounted kind (form_content form bytes)) (is_among configuration_types kind) _ _ (configuration_counted kind bytes)
    tt)))))))))))))))

-- What an event's data says has numbers that fit.
pub content_counted : (kind : ℕ) (bytes : List ℕ) → IsBytes bytes → IsCountedContent kind (content_in kind bytes)
content_counted kind bytes fits = unwrapped kind bytes (form_content (form_of kind) bytes) (form_counted kind bytes fits)

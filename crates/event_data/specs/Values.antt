-- What the value of a UEFI variable says, by the variable's vendor and name.
use Rattle.std.specs.Prelude.{◌≡◌, ℕ, ◌⊎◌, Bool, true, false, not, ◌&&◌, ◌||◌, ◌==◌, nat_lt, if◌then◌else◌, List, [], ◌∷◌, length, take, drop, codes, flat_map, bytes_eq}
use Rattle.std.specs.Option.{option_map_or}
use Rattle.event_data.specs.declared.value_reader.ValueForm.{ValueForm}
use Rattle.event_data.specs.declared.value_reader.ValueForm.TheVariants as forms
use Rattle.event_data.specs.Certificates.{IsCertificate, certificate_in}
use Rattle.event_data.specs.Forms.{IsText, VariableData}
use Rattle.event_data.specs.Results.{text_in}
use Rattle.event_data.specs.ValueForms.{LoadOptionData, SignatureData, ListData, IsLoadOption, IsBootOrder, IsSignature, AreSignatureLists}
use Rattle.event_data.specs.ValueReading.{load_option_in, numbers_in, signature_in, lists_in, all_taken}

-- ---- vendors, by their GUIDs' bytes

-- 8be4df61-93ca-11d2-aa0d-00e098032b8c (UEFI 2.10, section 3.3, EFI_GLOBAL_VARIABLE).
abbrev pub global_vendor : List ℕ
global_vendor =
    0x61 ∷ 0xdf ∷ 0xe4 ∷ 0x8b ∷ 0xca ∷ 0x93 ∷ 0xd2 ∷ 0x11 ∷ 0xaa ∷ 0x0d ∷ 0x00 ∷ 0xe0 ∷ 0x98 ∷ 0x03 ∷ 0x2b ∷ 0x8c ∷ []

-- d719b2cb-3d3a-4596-a3bc-dad00e67656f (UEFI 2.10, EFI_IMAGE_SECURITY_DATABASE_GUID).
abbrev pub image_security_vendor : List ℕ
image_security_vendor =
    0xcb ∷ 0xb2 ∷ 0x19 ∷ 0xd7 ∷ 0x3a ∷ 0x3d ∷ 0x96 ∷ 0x45 ∷ 0xa3 ∷ 0xbc ∷ 0xda ∷ 0xd0 ∷ 0x0e ∷ 0x67 ∷ 0x65 ∷ 0x6f ∷ []

-- 605dab50-e046-4300-abb6-3dd810dd8b23 (shim, SHIM_LOCK_GUID).
abbrev pub shim_vendor : List ℕ
shim_vendor =
    0x50 ∷ 0xab ∷ 0x5d ∷ 0x60 ∷ 0x46 ∷ 0xe0 ∷ 0x00 ∷ 0x43 ∷ 0xab ∷ 0xb6 ∷ 0x3d ∷ 0xd8 ∷ 0x10 ∷ 0xdd ∷ 0x8b ∷ 0x23 ∷ []

-- ---- names

-- A text of ASCII, in units of two bytes.
abbrev pub wide : List ℕ → List ℕ
wide text = flat_map (λ code. code ∷ 0 ∷ []) text

-- The variable has this vendor, and this name in ASCII.
abbrev pub is_named : List ℕ → List ℕ → VariableData → Bool
is_named vendor name variable = bytes_eq variable.guid vendor && bytes_eq variable.name (wide name)

-- 0 to 9, and A to F.
abbrev pub is_digit : ℕ → Bool
is_digit code = (not (nat_lt code 48) && nat_lt code 58) || (not (nat_lt code 65) && nat_lt code 71)

-- Units of two bytes, each of them a digit.
abbrev pub are_digits : List ℕ → Bool
are_digits [] = true
are_digits (low ∷ []) = false
are_digits (low ∷ high ∷ units) = (is_digit low && (high == 0)) && are_digits units

-- `Boot` and four digits (UEFI 2.10, section 3.3).
abbrev pub is_option_name : List ℕ → Bool
is_option_name name = (length name == 16) && (bytes_eq (take 8 name) (wide (codes "Boot")) && are_digits (drop 8 name))

-- ---- the form of each variable's value (UEFI 2.10, section 3.3 and EFI_IMAGE_SECURITY_DATABASE_GUID; shim)

abbrev pub is_flag : VariableData → Bool
is_flag variable =
    is_named global_vendor (codes "SecureBoot") variable || (is_named global_vendor (codes "SetupMode") variable
    || (is_named global_vendor (codes "AuditMode") variable || (is_named global_vendor (codes "DeployedMode") variable
    || is_named shim_vendor (codes "MokListTrusted") variable)))

abbrev pub is_order : VariableData → Bool
is_order variable = is_named global_vendor (codes "BootOrder") variable

abbrev pub is_load_option : VariableData → Bool
is_load_option variable = bytes_eq variable.guid global_vendor && is_option_name variable.name

abbrev pub is_lists : VariableData → Bool
is_lists variable =
    is_named global_vendor (codes "PK") variable || (is_named global_vendor (codes "KEK") variable
    || (is_named image_security_vendor (codes "db") variable || (is_named image_security_vendor (codes "dbx") variable
    || (is_named shim_vendor (codes "MokList") variable || is_named shim_vendor (codes "MokListX") variable))))

-- The certificate that shim was built with (shim, shim.c: a variable in an event alone).
abbrev pub is_own_certificate : VariableData → Bool
is_own_certificate variable = is_named shim_vendor (codes "Shim") variable

-- The levels below which shim lets no component run (shim, SBAT.md).
abbrev pub is_level : VariableData → Bool
is_level variable = is_named shim_vendor (codes "SbatLevel") variable

-- The signature that allowed an image, in an event EV_EFI_VARIABLE_AUTHORITY (TCG PC Client Platform Firmware Profile, version 1.05,
-- section 10.4.1); shim leaves out its owner.
abbrev pub is_authority : ℕ → VariableData → Bool
is_authority kind variable =
    (kind == 0x800000e0)
    && (is_named image_security_vendor (codes "db") variable
    || (is_named shim_vendor (codes "MokList") variable || is_named shim_vendor (codes "MokListRT") variable))

abbrev pub value_form : ℕ → VariableData → ValueForm
value_form kind variable =
    if is_authority kind variable then forms.Signature
    else if is_flag variable then forms.Flag
    else if is_order variable then forms.Order
    else if is_load_option variable then forms.LoadOption
    else if is_lists variable then forms.Lists
    else if is_own_certificate variable then forms.Certificate
    else if is_level variable then forms.Level
    else forms.Other

-- ---- what values say

pub data ValueSays : Type 0 where
  flag : ℕ → ValueSays
  order : List ℕ → ValueSays
  option : LoadOptionData → ValueSays
  lists : List ListData → ValueSays
  signature : SignatureData → ValueSays
  certificate : List ℕ → ValueSays
  level : List ℕ → ValueSays
  unknown : ValueSays

-- A value of this form says this.
abbrev pub ValueSaysIn : ValueForm → List ℕ → ValueSays → Type 0
ValueSaysIn forms.Flag bytes (flag value) = bytes ≡ value ∷ []
ValueSaysIn forms.Order bytes (order numbers) = IsBootOrder bytes numbers
ValueSaysIn forms.LoadOption bytes (option value) = IsLoadOption bytes value
ValueSaysIn forms.Lists bytes (lists values) = AreSignatureLists bytes values
ValueSaysIn forms.Signature bytes (certificate value) = IsCertificate bytes value
ValueSaysIn forms.Signature bytes (signature value) = IsSignature bytes value × ((other : List ℕ) → IsCertificate bytes other → ⊥)
ValueSaysIn forms.Certificate bytes (certificate value) = IsCertificate bytes value
ValueSaysIn forms.Level bytes (level value) = IsText bytes value
ValueSaysIn form bytes says = ⊥

-- The variable's value, in an event of this type, has the form that it has by vendor and name, and says this.
abbrev pub SaysKnownValue : ℕ → VariableData → ValueSays → Type 0
SaysKnownValue kind variable says = ValueSaysIn (value_form kind variable) variable.value says

-- The variable's value, in an event of this type, says this; it is unknown where it does not have the form.
abbrev pub SaysValue : ℕ → VariableData → ValueSays → Type 0
SaysValue kind variable says =
    SaysKnownValue kind variable says ⊎ ((says ≡ unknown) × ((other : ValueSays) → SaysKnownValue kind variable other → ⊥))

-- ---- the same as functions

abbrev pub flag_says : List ℕ → ValueSays
flag_says (value ∷ []) = flag value
flag_says bytes = unknown

-- A certificate, else a signature.
abbrev pub authority_says : List ℕ → ValueSays
authority_says bytes = option_map_or certificate (certificate_in bytes) (option_map_or signature (signature_in bytes) unknown)

abbrev pub says_in : ValueForm → List ℕ → ValueSays
says_in forms.Flag bytes = flag_says bytes
says_in forms.Order bytes = option_map_or order (all_taken (numbers_in bytes)) unknown
says_in forms.LoadOption bytes = option_map_or option (load_option_in bytes) unknown
says_in forms.Lists bytes = option_map_or lists (all_taken (lists_in bytes)) unknown
says_in forms.Signature bytes = authority_says bytes
says_in forms.Certificate bytes = option_map_or certificate (certificate_in bytes) unknown
says_in forms.Level bytes = option_map_or level (text_in bytes) unknown
says_in forms.Other bytes = unknown

-- What the variable's value says, in an event of this type.
abbrev pub value_in : ℕ → VariableData → ValueSays
value_in kind variable = says_in (value_form kind variable) variable.value

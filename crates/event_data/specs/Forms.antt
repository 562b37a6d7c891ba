-- The forms of an event's data: relations between bytes and what they say (TCG PC Client Platform Firmware Profile, version 1.05,
-- chapter 10, 'Event Logging'; UEFI 2.10). All numbers are little endian.
use Rattle.std.specs.Prelude.{◌≡◌, ℕ, ◌+◌, ◌*◌, ◌^◌, ◌<◌, ◌⊎◌, Bool, true, false, not, ◌==◌, if◌then◌else◌, List, [], ◌∷◌, ◌++◌, length, codes}
use Rattle.std.specs.List.{list_all}
use Rattle.std.specs.Str.{IsUtf8}
use Rattle.byte_fields.specs.Spelling.{number16, number32, number64}
use Rattle.event_data.specs.declared.command.Command.{Command}
use Rattle.event_data.specs.declared.command.CommandKind.{CommandKind}
use Rattle.event_data.specs.declared.command.CommandKind.TheVariants.{Grub, Kernel, Module, RedHatGrub, RedHatKernel}
use Rattle.event_data.specs.declared.short_forms.Image.{Image}
use Rattle.event_data.specs.declared.variable.Variable.{Variable}

-- ---- separators and texts

-- The bytes are a number, in four bytes.
pub record IsSeparator (bytes : List ℕ) (value : ℕ) : Type 0 where
  pub fits : value < 2 ^ 32
  pub spelled : bytes ≡ number32 value

-- No byte is NUL.
abbrev pub has_no_nul : List ℕ → Bool
has_no_nul bytes = list_all (λ byte. not (byte == 0)) bytes

-- The bytes are a text: UTF-8 with no NUL, and then one NUL or none.
pub record IsText (bytes text : List ℕ) : Type 0 where
  pub utf8 : IsUtf8 text
  pub no_nul : has_no_nul text ≡ true
  pub spelled : (bytes ≡ text) ⊎ (bytes ≡ text ++ 0 ∷ [])

-- The bytes are a text in units of two bytes, and then a NUL.
pub record IsWideText (bytes text : List ℕ) : Type 0 where
  pub units : ℕ
  pub size : length text ≡ 2 * units
  pub spelled : bytes ≡ text ++ 0 ∷ 0 ∷ []

-- ---- a command of GRUB

-- The bytes begin with what has this form, and the rest follows it.
pub record IsFollowed {X : Type 0} (Is : List ℕ → X → Type 0) (bytes : List ℕ) (value : X) (rest : List ℕ) : Type 0 where
  pub form : List ℕ
  pub is : Is form value
  pub spelled : bytes ≡ form ++ rest

-- The prefix by which GRUB tells the kind of a command (grub-core/kern/verifiers.c, commands/tpm.c); and GRUB as RHEL 8 has it, 2.02 with
-- patches of its own (grub-core/script/execute.c, grub-core/lib/cmdline.c; also go-eventlog, extract/extract.go).
abbrev pub command_prefix : CommandKind → List ℕ
command_prefix Grub = codes "grub_cmd: "
command_prefix Kernel = codes "kernel_cmdline: "
command_prefix Module = codes "module_cmdline: "
command_prefix RedHatGrub = codes "grub_cmd "
command_prefix RedHatKernel = codes "grub_kernel_cmdline "

pub record CommandData : Type 0 where
  pub kind : CommandKind
  pub text : List ℕ

-- The bytes are a command: the prefix of its kind, the text, and a NUL.
pub record IsCommand (bytes : List ℕ) (command : CommandData) : Type 0 where
  pub spelled : bytes ≡ (command_prefix command.kind ++ command.text) ++ 0 ∷ []

-- GRUB hashes the NUL behind such a command too: RHEL 8's does, for a command of its own.
abbrev pub hashes_nul : CommandKind → Bool
hashes_nul Grub = false
hashes_nul Kernel = false
hashes_nul Module = false
hashes_nul RedHatGrub = true
hashes_nul RedHatKernel = false

-- The bytes whose hash GRUB extends for a command: the text, or the text and its NUL.
abbrev pub hashed_text : CommandData → List ℕ
hashed_text command = if hashes_nul command.kind then command.text ++ 0 ∷ [] else command.text

-- ---- a node of a device path

pub record NodeData : Type 0 where
  pub kind : ℕ
  pub subtype : ℕ
  pub payload : List ℕ

-- The bytes are a node: type and sub-type, a byte each, the node's length in two bytes, and what follows these four (UEFI 2.10,
-- section 10.2).
pub record IsNode (bytes : List ℕ) (node : NodeData) : Type 0 where
  pub kind_fits : node.kind < 2 ^ 8
  pub subtype_fits : node.subtype < 2 ^ 8
  pub size_fits : length node.payload + 4 < 2 ^ 16
  pub spelled : bytes ≡ node.kind ∷ node.subtype ∷ (number16 (length node.payload + 4) ++ node.payload)

-- ---- a variable

-- A UEFI variable: the vendor's GUID, the name in units of UTF-16, and the value.
pub record VariableData : Type 0 where
  pub guid : List ℕ
  pub name : List ℕ
  pub value : List ℕ

-- The bytes are a variable (UEFI_VARIABLE_DATA): the GUID, the number of the name's units, the size of the value, the name, with no NUL at
-- its end, and the value.
pub record IsVariable (bytes : List ℕ) (variable : VariableData) : Type 0 where
  pub units : ℕ
  pub guid_size : length variable.guid ≡ 16
  pub units_fit : units < 2 ^ 64
  pub value_fits : length variable.value < 2 ^ 64
  pub name_size : length variable.name ≡ 2 * units
  pub spelled : bytes ≡ variable.guid ++ (number64 units ++ (number64 (length variable.value) ++ (variable.name ++ variable.value)))

-- ---- an image

-- An image that was loaded: where, how long it is there, the address that it was linked for, and its device path.
pub record ImageData : Type 0 where
  pub location : ℕ
  pub size : ℕ
  pub link_address : ℕ
  pub path : List ℕ

-- The bytes are an image (UEFI_IMAGE_LOAD_EVENT): three numbers, the size of the device path, and the path.
pub record IsImage (bytes : List ℕ) (image : ImageData) : Type 0 where
  pub location_fits : image.location < 2 ^ 64
  pub size_fits : image.size < 2 ^ 64
  pub link_address_fits : image.link_address < 2 ^ 64
  pub path_fits : length image.path < 2 ^ 64
  pub spelled : bytes
      ≡ number64 image.location ++ (number64 image.size ++ (number64 image.link_address ++ (number64 (length image.path) ++ image.path)))

-- ---- what contracts see of the code's values

abbrev pub variable_of : Variable → VariableData
variable_of variable = record { guid = variable.guid.now; name = variable.name.now; value = variable.value.now }

abbrev pub image_of : Image → ImageData
image_of image =
    record { location = image.location; size = image.size; link_address = image.link_address; path = image.path.now }

abbrev pub command_of : Command → CommandData
command_of command = record { kind = command.kind; text = command.text.now }

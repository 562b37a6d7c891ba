-- The forms of the values of UEFI variables: relations between bytes and what they say (UEFI 2.10). All numbers are little endian.
use Rattle.std.specs.Prelude.{◌≡◌, ℕ, ◌+◌, ◌*◌, ◌^◌, ◌<◌, ◌≤◌, Bool, true, false, not, ◌&&◌, ◌==◌, List, [], ◌∷◌, ◌++◌, length}
use Rattle.byte_fields.specs.Spelling.{number16, number32}
use Rattle.byte_fields.specs.Items.{AreItems}

-- Whole units of two bytes, none of which is NUL.
abbrev pub are_units : List ℕ → Bool
are_units [] = true
are_units (low ∷ []) = false
are_units (low ∷ high ∷ units) = not (low == 0 && high == 0) && are_units units

-- ---- a load option

pub record LoadOptionData : Type 0 where
  pub attributes : ℕ
  pub description : List ℕ
  pub path : List ℕ
  pub optional_data : List ℕ

-- The bytes are a load option (UEFI 2.10, section 3.1.3, EFI_LOAD_OPTION): attributes, the size of the path list, the description in units
-- of two bytes up to its first NUL unit, the path list, and the optional data.
pub record IsLoadOption (bytes : List ℕ) (option : LoadOptionData) : Type 0 where
  pub attributes_fit : option.attributes < 2 ^ 32
  pub path_fits : length option.path < 2 ^ 16
  pub units : are_units option.description ≡ true
  pub spelled : bytes
      ≡ number32 option.attributes ++ (number16 (length option.path) ++ (option.description ++ (0 ∷ 0 ∷ (option.path ++ option.optional_data))))

-- ---- a boot order

-- The bytes are the number of a load option.
pub record IsBootNumber (bytes : List ℕ) (value : ℕ) : Type 0 where
  pub fits : value < 2 ^ 16
  pub spelled : bytes ≡ number16 value

-- The bytes are numbers of load options, one after another (UEFI 2.10, section 3.3, BootOrder).
abbrev pub IsBootOrder : List ℕ → List ℕ → Type 0
IsBootOrder bytes numbers = AreItems IsBootNumber bytes numbers

-- ---- signatures

pub record SignatureData : Type 0 where
  pub owner : List ℕ
  pub payload : List ℕ

-- The bytes are a signature (UEFI 2.10, section 32.4.1, EFI_SIGNATURE_DATA): the owner's GUID, and the signature's data.
pub record IsSignature (bytes : List ℕ) (signature : SignatureData) : Type 0 where
  pub owner_size : length signature.owner ≡ 16
  pub spelled : bytes ≡ signature.owner ++ signature.payload

-- A list of signatures: its type's GUID, the size of each signature, the header, and the bytes of the signatures, one after another.
pub record ListData : Type 0 where
  pub kind : List ℕ
  pub signature_size : ℕ
  pub header : List ℕ
  pub signatures : List ℕ

-- The bytes are a list of signatures (UEFI 2.10, section 32.4.1, EFI_SIGNATURE_LIST): the type's GUID, the size of the list with these 28
-- bytes, the size of the header, the size of each signature, the header, and so many signatures that they fill the list.
pub record IsSignatureList (bytes : List ℕ) (list : ListData) : Type 0 where
  pub count : ℕ
  pub kind_size : length list.kind ≡ 16
  pub least_size : 16 ≤ list.signature_size
  pub size_fits : list.signature_size < 2 ^ 32
  pub filled : length list.signatures ≡ count * list.signature_size
  pub list_fits : 28 + length list.header + length list.signatures < 2 ^ 32
  pub spelled : bytes
      ≡ list.kind ++ (number32 (28 + length list.header + length list.signatures) ++ (number32 (length list.header)
      ++ (number32 list.signature_size ++ (list.header ++ list.signatures))))

-- The bytes are lists of signatures, one after another.
abbrev pub AreSignatureLists : List ℕ → List ListData → Type 0
AreSignatureLists bytes lists = AreItems IsSignatureList bytes lists

-- The bytes are a signature of this size.
abbrev pub IsSignatureOf : ℕ → List ℕ → SignatureData → Type 0
IsSignatureOf size bytes signature = IsSignature bytes signature × (length bytes ≡ size)

-- The bytes are signatures of this size, one after another.
abbrev pub AreSignatures : ℕ → List ℕ → List SignatureData → Type 0
AreSignatures size bytes signatures = AreItems (IsSignatureOf size) bytes signatures

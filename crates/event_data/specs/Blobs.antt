-- Blobs of firmware, tagged events, localities and GUIDs: relations between bytes and what they say (TCG PC Client Platform Firmware
-- Profile, UEFI_PLATFORM_FIRMWARE_BLOB, UEFI_PLATFORM_FIRMWARE_BLOB2, TCG_PCClientTaggedEvent and TCG_EfiStartupLocalityEvent). All
-- numbers are little endian.
use Rattle.std.specs.Prelude.{◌≡◌, ℕ, ◌^◌, ◌<◌, List, [], ◌∷◌, ◌++◌, length, codes, Option, Some, None, option_map}
use Rattle.byte_fields.specs.Spelling.{number32, number64, sized32}
use Rattle.event_data.specs.declared.short_forms.Blob.{Blob}
use Rattle.event_data.specs.declared.short_forms.Tagged.{Tagged}

-- ---- a blob

-- A blob: what it is called, where the form tells it, where it was in memory, and the number of its bytes.
pub record BlobData : Type 0 where
  pub description : Option (List ℕ)
  pub base : ℕ
  pub size : ℕ

-- The bytes are a blob without a description: two numbers.
pub record IsPlainBlob (bytes : List ℕ) (blob : BlobData) : Type 0 where
  pub no_description : blob.description ≡ None
  pub base_fits : blob.base < 2 ^ 64
  pub size_fits : blob.size < 2 ^ 64
  pub spelled : bytes ≡ number64 blob.base ++ number64 blob.size

-- The bytes are a blob with a description: the number of the description's bytes, in one byte, the description, and two numbers.
pub record IsDescribedBlob (bytes : List ℕ) (blob : BlobData) : Type 0 where
  pub text : List ℕ
  pub description : blob.description ≡ Some text
  pub description_fits : length text < 2 ^ 8
  pub base_fits : blob.base < 2 ^ 64
  pub size_fits : blob.size < 2 ^ 64
  pub spelled : bytes ≡ length text ∷ (text ++ (number64 blob.base ++ number64 blob.size))

abbrev pub blob_of : Blob → BlobData
blob_of blob =
    record { description = option_map (λ text. text.now) blob.description; base = blob.base; size = blob.size }

-- ---- a tagged event

-- A tagged event: the tag, and the data.
pub record TaggedData : Type 0 where
  pub id : ℕ
  pub payload : List ℕ

-- The bytes are a tagged event: the tag, the number of the data's bytes, in four bytes each, and the data.
pub record IsTagged (bytes : List ℕ) (tagged : TaggedData) : Type 0 where
  pub id_fits : tagged.id < 2 ^ 32
  pub size_fits : length tagged.payload < 2 ^ 32
  pub spelled : bytes ≡ number32 tagged.id ++ sized32 tagged.payload

abbrev pub tagged_of : Tagged → TaggedData
tagged_of tagged = record { id = tagged.id; payload = tagged.payload.now }

-- ---- the locality of the startup command

-- The bytes are a locality: a signature of 16 bytes, and the locality in one byte.
pub record IsLocality (bytes : List ℕ) (locality : ℕ) : Type 0 where
  pub fits : locality < 2 ^ 8
  pub spelled : bytes ≡ (codes "StartupLocality" ++ 0 ∷ []) ++ locality ∷ []

-- ---- what a host says

-- Bytes that are reserved: fifteen, all NUL.
abbrev pub reserved : List ℕ
reserved = 0 ∷ 0 ∷ 0 ∷ 0 ∷ 0 ∷ 0 ∷ 0 ∷ 0 ∷ 0 ∷ 0 ∷ 0 ∷ 0 ∷ 0 ∷ 0 ∷ 0 ∷ []

-- The bytes tell how a host of Google keeps its guests apart (go-eventlog, ParseGCENonHostInfo, GCEConfidentialTechnology): a signature of
-- 16 bytes, the technology in one byte, and reserved bytes.
pub record IsTechnology (bytes : List ℕ) (technology : ℕ) : Type 0 where
  pub spelled : bytes ≡ (codes "GCE NonHostInfo" ++ 0 ∷ []) ++ technology ∷ reserved

-- ---- a GUID

-- The bytes are a GUID.
pub record IsGuid (bytes guid : List ℕ) : Type 0 where
  pub size : length guid ≡ 16
  pub spelled : bytes ≡ guid

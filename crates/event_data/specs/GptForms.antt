-- A table of a disk's partitions: relations between bytes and what they say (TCG PC Client Platform Firmware Profile, UEFI_GPT_DATA;
-- UEFI 2.10, section 5.3, 'GUID Partition Table (GPT) Disk Layout'). All numbers are little endian.
use Rattle.std.specs.Prelude.{◌≡◌, ℕ, ◌+◌, ◌^◌, ◌<◌, ◌≤◌, ◌&&◌, ◌==◌, if◌then◌else◌, List, [], ◌∷◌, ◌++◌, length, codes}
use Rattle.byte_fields.specs.Items.{AreItems}
use Rattle.byte_fields.specs.Spelling.{number32, number64}

-- The units of two bytes before the first that is NUL.
unfoldable pub up_to_nul : List ℕ → List ℕ
up_to_nul [] = []
up_to_nul (low ∷ []) = []
up_to_nul (low ∷ high ∷ bytes) = if (low == 0) && (high == 0) then [] else low ∷ high ∷ up_to_nul bytes

-- A partition: the GUID of its type, its own GUID, its first and last logical block, its attributes, and its name in units of UTF-16.
pub record PartitionData : Type 0 where
  pub kind : List ℕ
  pub guid : List ℕ
  pub first : ℕ
  pub last : ℕ
  pub attributes : ℕ
  pub name : List ℕ

-- The bytes are a partition's entry of this size: two GUIDs, three numbers, the name in 72 bytes, and what is beyond these 128 bytes.
pub record IsPartition (size : ℕ) (bytes : List ℕ) (partition : PartitionData) : Type 0 where
  pub name_field : List ℕ
  pub beyond : List ℕ
  pub kind_size : length partition.kind ≡ 16
  pub guid_size : length partition.guid ≡ 16
  pub first_fits : partition.first < 2 ^ 64
  pub last_fits : partition.last < 2 ^ 64
  pub attributes_fits : partition.attributes < 2 ^ 64
  pub name_size : length name_field ≡ 72
  pub name_is : partition.name ≡ up_to_nul name_field
  pub size_is : length beyond + 128 ≡ size
  pub spelled : bytes
      ≡ partition.kind ++ (partition.guid ++ (number64 partition.first ++ (number64 partition.last
      ++ (number64 partition.attributes ++ (name_field ++ beyond)))))

-- A table: the disk's GUID, and its partitions.
pub record GptData : Type 0 where
  pub disk : List ℕ
  pub partitions : List PartitionData

-- The bytes are a table: the header of 92 bytes, the number of partitions, and an entry for each, of the size that the header tells.
-- The header is a signature; 48 bytes of revision, header size, check, a reserved number, and four block numbers; the disk's GUID; 12
-- bytes of where the disk has its entries, and how many; the size of an entry; and a check in four bytes.
pub record IsGpt (bytes : List ℕ) (gpt : GptData) : Type 0 where
  pub places : List ℕ
  pub array : List ℕ
  pub size : ℕ
  pub check : List ℕ
  pub entries : List ℕ
  pub places_size : length places ≡ 48
  pub disk_size : length gpt.disk ≡ 16
  pub array_size : length array ≡ 12
  pub size_fits : size < 2 ^ 32
  pub wide : 128 ≤ size
  pub check_size : length check ≡ 4
  pub count_fits : length gpt.partitions < 2 ^ 64
  pub are : AreItems (IsPartition size) entries gpt.partitions
  pub spelled : bytes
      ≡ codes "EFI PART" ++ (places ++ (gpt.disk ++ (array ++ (number32 size ++ (check ++ (number64 (length gpt.partitions) ++ entries))))))

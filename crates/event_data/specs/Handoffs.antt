-- Vendor tables that firmware hands over: relations between bytes and what they say (TCG PC Client Platform Firmware Profile, version 1.05,
-- UEFI_HANDOFF_TABLE_POINTERS and UEFI_HANDOFF_TABLE_POINTERS2). All numbers are little endian.
use Rattle.std.specs.Prelude.{◌≡◌, ℕ, ◌*◌, ◌^◌, ◌<◌, List, ◌∷◌, ◌++◌, length, Option, Some, None}
use Rattle.byte_fields.specs.Items.{AreItems}
use Rattle.byte_fields.specs.Spelling.{number64}

-- A vendor table: its GUID, and where it is in memory.
pub record TableData : Type 0 where
  pub vendor : List ℕ
  pub address : ℕ

-- The bytes point to a table (UEFI 2.10, section 4.6, EFI_CONFIGURATION_TABLE).
pub record IsTable (bytes : List ℕ) (table : TableData) : Type 0 where
  pub vendor_size : length table.vendor ≡ 16
  pub address_fits : table.address < 2 ^ 64
  pub spelled : bytes ≡ table.vendor ++ number64 table.address

-- The bytes point to tables, one after another.
abbrev pub AreTables : List ℕ → List TableData → Type 0
AreTables bytes tables = AreItems IsTable bytes tables

-- Tables that are handed over: what they are called, where the form tells it, and the bytes that point to them, 24 for each.
pub record HandoffData : Type 0 where
  pub description : Option (List ℕ)
  pub pointers : List ℕ

-- The bytes are handed over tables without a description: their number in eight bytes, and so many pointers.
pub record IsHandoff (bytes : List ℕ) (handoff : HandoffData) : Type 0 where
  pub count : ℕ
  pub no_description : handoff.description ≡ None
  pub count_fits : count < 2 ^ 64
  pub filled : length handoff.pointers ≡ 24 * count
  pub spelled : bytes ≡ number64 count ++ handoff.pointers

-- The bytes are handed over tables with a description: the number of the description's bytes, in one byte, the description, and the tables.
pub record IsDescribedHandoff (bytes : List ℕ) (handoff : HandoffData) : Type 0 where
  pub text : List ℕ
  pub count : ℕ
  pub description : handoff.description ≡ Some text
  pub description_fits : length text < 2 ^ 8
  pub count_fits : count < 2 ^ 64
  pub filled : length handoff.pointers ≡ 24 * count
  pub spelled : bytes ≡ length text ∷ (text ++ (number64 count ++ handoff.pointers))

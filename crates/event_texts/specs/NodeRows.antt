-- The texts of nodes as rows: a name, and the fields that are shown in parentheses (UEFI 2.10, section 10.6.1; section 10.3 for the nodes'
-- layouts). A row is for a type, a sub-type and an exact size of what follows the node's length.
use Rattle.std.specs.Prelude.{ℕ, ◌%◌, ◌==◌, ◌&&◌, nat_lt, if◌then◌else◌, List, [], ◌∷◌, ◌++◌, codes, length, slice_index, Option, Some, None}
use Rattle.std.specs.Int.{w32, from_le_bytes}
use Rattle.event_data.specs.Names.{NodeData}
use Rattle.event_texts.specs.declared.node_row.Field.{Field}
use Rattle.event_texts.specs.declared.node_row.Field.TheVariants.{Kind, Subtype, U8, U16, U32, U64, Decimal, Guid, Bytes, Rest, Eui, Pnp, Gpt, Mbr}
use Rattle.event_texts.specs.declared.node_row.NodeRow.{NodeRow}
use Rattle.event_texts.specs.NodeFields.{fields_text}

pub record RowData : Type 0 where
  pub name : List ℕ
  pub fields : List Field

-- What contracts see of a row.
abbrev pub row_data : NodeRow → RowData
row_data row = record { name = row.name.now; fields = row.fields.now }

abbrev pub row : List ℕ → List Field → RowData
row name fields = record { name = name; fields = fields }

-- A vendor's node: a GUID, and bytes after it if there are some.
abbrev pub vendor_row : List ℕ → ℕ → Option RowData
vendor_row name size =
    if nat_lt size 16 then None
    else if size == 16 then Some (row name (Guid 0 ∷ []))
    else Some (row name (Guid 0 ∷ Rest 16 ∷ []))

-- Hardware Device Path: PCI, which has the function before the device; memory mapped; vendor; controller.
abbrev pub hardware_row : ℕ → ℕ → Option RowData
hardware_row subtype size =
    if subtype == 1 && size == 2 then Some (row (codes "Pci") (U8 1 ∷ U8 0 ∷ []))
    else if subtype == 3 && size == 20 then Some (row (codes "MemoryMapped") (U32 0 ∷ U64 4 ∷ U64 12 ∷ []))
    else if subtype == 4 then vendor_row (codes "VenHw") size
    else if subtype == 5 && size == 4 then Some (row (codes "Ctrl") (U32 0 ∷ []))
    else None

-- The low half of the identifiers that PNP gives: 'PNP' compressed.
abbrev pub pnp_vendor : ℕ
pnp_vendor = 0x41d0

-- An ACPI node without a name of its own: its PNP identifier, or else its hardware identifier as a number.
abbrev pub other_acpi_row : ℕ → RowData
other_acpi_row hid =
    if hid % 0x10000 == pnp_vendor then row (codes "Acpi") (Pnp 2 ∷ U32 4 ∷ []) else row (codes "Acpi") (U32 0 ∷ U32 4 ∷ [])

-- ACPI Device Path, by its hardware identifier: this, and a unique one.
abbrev pub acpi_row : ℕ → RowData
acpi_row hid =
    if hid == 0x0a0341d0 then row (codes "PciRoot") (U32 4 ∷ [])
    else if hid == 0x0a0841d0 then row (codes "PcieRoot") (U32 4 ∷ [])
    else if hid == 0x060441d0 then row (codes "Floppy") (U32 4 ∷ [])
    else if hid == 0x030141d0 then row (codes "Keyboard") (U32 4 ∷ [])
    else if hid == 0x050141d0 then row (codes "Serial") (U32 4 ∷ [])
    else if hid == 0x040141d0 then row (codes "ParallelPort") (U32 4 ∷ [])
    else other_acpi_row hid

-- A network interface's address, of which six bytes are shown for the interface types 0 and 1.
abbrev pub mac_row : ℕ → RowData
mac_row interface =
    if nat_lt interface 2 then row (codes "MAC") (Bytes 0 6 ∷ U8 32 ∷ []) else row (codes "MAC") (Bytes 0 32 ∷ U8 32 ∷ [])

-- Messaging Device Path: SCSI, USB, vendor, MAC address, logical unit, SATA, NVM Express, UFS, SD, eMMC.
abbrev pub messaging_row : ℕ → List ℕ → Option RowData
messaging_row subtype payload =
    if subtype == 2 && length payload == 4 then Some (row (codes "Scsi") (U16 0 ∷ U16 2 ∷ []))
    else if subtype == 5 && length payload == 2 then Some (row (codes "USB") (U8 0 ∷ U8 1 ∷ []))
    else if subtype == 10 then vendor_row (codes "VenMsg") (length payload)
    else if subtype == 11 && length payload == 33 then Some (mac_row (slice_index payload 32))
    else if subtype == 17 && length payload == 1 then Some (row (codes "Unit") (U8 0 ∷ []))
    else if subtype == 18 && length payload == 6 then Some (row (codes "Sata") (U16 0 ∷ U16 2 ∷ U16 4 ∷ []))
    else if subtype == 23 && length payload == 12 then Some (row (codes "NVMe") (U32 0 ∷ Eui 4 ∷ []))
    else if subtype == 25 && length payload == 2 then Some (row (codes "UFS") (U8 0 ∷ U8 1 ∷ []))
    else if subtype == 26 && length payload == 1 then Some (row (codes "SD") (U8 0 ∷ []))
    else if subtype == 29 && length payload == 1 then Some (row (codes "eMMC") (U8 0 ∷ []))
    else None

-- A hard drive, by the type of its signature: the four bytes of an MBR, or a GUID.
abbrev pub drive_row : ℕ → Option RowData
drive_row signature_type =
    if signature_type == 1 then Some (row (codes "HD") (Decimal 0 ∷ Mbr ∷ U32 20 ∷ U64 4 ∷ U64 12 ∷ []))
    else if signature_type == 2 then Some (row (codes "HD") (Decimal 0 ∷ Gpt ∷ Guid 20 ∷ U64 4 ∷ U64 12 ∷ []))
    else None

-- Media Device Path: hard drive, CD-ROM, vendor, PIWG firmware file and volume, relative offset range.
abbrev pub media_row : ℕ → List ℕ → Option RowData
media_row subtype payload =
    if subtype == 1 && length payload == 38 then drive_row (slice_index payload 37)
    else if subtype == 2 && length payload == 20 then Some (row (codes "CDROM") (U32 0 ∷ U64 4 ∷ U64 12 ∷ []))
    else if subtype == 3 then vendor_row (codes "VenMedia") (length payload)
    else if subtype == 6 && length payload == 16 then Some (row (codes "FvFile") (Guid 0 ∷ []))
    else if subtype == 7 && length payload == 16 then Some (row (codes "Fv") (Guid 0 ∷ []))
    else if subtype == 8 && length payload == 20 then Some (row (codes "Offset") (U64 4 ∷ U64 12 ∷ []))
    else None

-- The row of a node, where its type, its sub-type and its size have one.
abbrev pub known_row : NodeData → Option RowData
known_row node =
    if node.kind == 1 then hardware_row node.subtype (length node.payload)
    else if node.kind == 2 && node.subtype == 1 && length node.payload == 8 then Some (acpi_row (from_le_bytes w32 node.payload))
    else if node.kind == 3 then messaging_row node.subtype node.payload
    else if node.kind == 4 then media_row node.subtype node.payload
    else None

-- The generic form of any node: its type, its sub-type, and its bytes if there are some.
abbrev pub generic_row : NodeData → RowData
generic_row node =
    if length node.payload == 0 then row (codes "Path") (Kind ∷ Subtype ∷ [])
    else row (codes "Path") (Kind ∷ Subtype ∷ Rest 0 ∷ [])

abbrev pub or_generic : NodeData → Option RowData → RowData
or_generic node (Some known) = known
or_generic node None = generic_row node

-- The row of any node.
abbrev pub row_of : NodeData → RowData
row_of node = or_generic node (known_row node)

abbrev pub row_text : RowData → NodeData → List ℕ
row_text row node = row.name ++ codes "(" ++ fields_text row.fields node ++ codes ")"

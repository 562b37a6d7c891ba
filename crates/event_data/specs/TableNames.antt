-- The names of vendor tables (UEFI 2.10, section 4.6, 'Industry Standard Configuration Tables', by the names that Linux has for them in
-- include/linux/efi.h; and one of EDK2, OvmfPkg/OvmfPkg.dec).
use Rattle.std.specs.Prelude.{ℕ, List, [], ◌∷◌, if◌then◌else◌, bytes_eq, codes, Option, Some, None}

-- eb9d2d2f-2d88-11d3-9a16-0090273fc14d.
abbrev pub mps_vendor : List ℕ
mps_vendor =
    0x2f ∷ 0x2d ∷ 0x9d ∷ 0xeb ∷ 0x88 ∷ 0x2d ∷ 0xd3 ∷ 0x11 ∷ 0x9a ∷ 0x16 ∷ 0x00 ∷ 0x90 ∷ 0x27 ∷ 0x3f ∷ 0xc1 ∷ 0x4d ∷ []

-- eb9d2d30-2d88-11d3-9a16-0090273fc14d.
abbrev pub acpi_vendor : List ℕ
acpi_vendor =
    0x30 ∷ 0x2d ∷ 0x9d ∷ 0xeb ∷ 0x88 ∷ 0x2d ∷ 0xd3 ∷ 0x11 ∷ 0x9a ∷ 0x16 ∷ 0x00 ∷ 0x90 ∷ 0x27 ∷ 0x3f ∷ 0xc1 ∷ 0x4d ∷ []

-- 8868e871-e4f1-11d3-bc22-0080c73c8881.
abbrev pub acpi_20_vendor : List ℕ
acpi_20_vendor =
    0x71 ∷ 0xe8 ∷ 0x68 ∷ 0x88 ∷ 0xf1 ∷ 0xe4 ∷ 0xd3 ∷ 0x11 ∷ 0xbc ∷ 0x22 ∷ 0x00 ∷ 0x80 ∷ 0xc7 ∷ 0x3c ∷ 0x88 ∷ 0x81 ∷ []

-- eb9d2d31-2d88-11d3-9a16-0090273fc14d.
abbrev pub smbios_vendor : List ℕ
smbios_vendor =
    0x31 ∷ 0x2d ∷ 0x9d ∷ 0xeb ∷ 0x88 ∷ 0x2d ∷ 0xd3 ∷ 0x11 ∷ 0x9a ∷ 0x16 ∷ 0x00 ∷ 0x90 ∷ 0x27 ∷ 0x3f ∷ 0xc1 ∷ 0x4d ∷ []

-- f2fd1544-9794-4a2c-992e-e5bbcf20e394.
abbrev pub smbios_3_vendor : List ℕ
smbios_3_vendor =
    0x44 ∷ 0x15 ∷ 0xfd ∷ 0xf2 ∷ 0x94 ∷ 0x97 ∷ 0x2c ∷ 0x4a ∷ 0x99 ∷ 0x2e ∷ 0xe5 ∷ 0xbb ∷ 0xcf ∷ 0x20 ∷ 0xe3 ∷ 0x94 ∷ []

-- b1b621d5-f19c-41a5-830b-d9152c69aae0.
abbrev pub device_tree_vendor : List ℕ
device_tree_vendor =
    0xd5 ∷ 0x21 ∷ 0xb6 ∷ 0xb1 ∷ 0x9c ∷ 0xf1 ∷ 0xa5 ∷ 0x41 ∷ 0x83 ∷ 0x0b ∷ 0xd9 ∷ 0x15 ∷ 0x2c ∷ 0x69 ∷ 0xaa ∷ 0xe0 ∷ []

-- 93bb96af-b9f2-4eb8-9462-e0ba74564236.
abbrev pub ovmf_vendor : List ℕ
ovmf_vendor =
    0xaf ∷ 0x96 ∷ 0xbb ∷ 0x93 ∷ 0xf2 ∷ 0xb9 ∷ 0xb8 ∷ 0x4e ∷ 0x94 ∷ 0x62 ∷ 0xe0 ∷ 0xba ∷ 0x74 ∷ 0x56 ∷ 0x42 ∷ 0x36 ∷ []

-- The name of the table with this GUID, where one is known.
abbrev pub table_name : List ℕ → Option (List ℕ)
table_name vendor =
    if bytes_eq vendor mps_vendor then Some (codes "MPS_TABLE_GUID")
    else if bytes_eq vendor acpi_vendor then Some (codes "ACPI_TABLE_GUID")
    else if bytes_eq vendor acpi_20_vendor then Some (codes "ACPI_20_TABLE_GUID")
    else if bytes_eq vendor smbios_vendor then Some (codes "SMBIOS_TABLE_GUID")
    else if bytes_eq vendor smbios_3_vendor then Some (codes "SMBIOS3_TABLE_GUID")
    else if bytes_eq vendor device_tree_vendor then Some (codes "DEVICE_TREE_GUID")
    else if bytes_eq vendor ovmf_vendor then Some (codes "gUefiOvmfPkgTokenSpaceGuid")
    else None

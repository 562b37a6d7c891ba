-- The variables of the firmware that answers speak of (UEFI 2.10, chapter 'Boot Manager', 'Globally Defined Variables').
use Rattle.std.specs.Prelude.{ℕ, List, [], ◌∷◌}
use Rattle.event_data.specs.Names.{IsVariable}

-- EFI_GLOBAL_VARIABLE, 8be4df61-93ca-11d2-aa0d-00e098032b8c, as a GUID is spelled: its first three numbers in little endian.
abbrev pub global_guid : List ℕ
global_guid =
    0x61 ∷ 0xdf ∷ 0xe4 ∷ 0x8b ∷ 0xca ∷ 0x93 ∷ 0xd2 ∷ 0x11 ∷ 0xaa ∷ 0x0d ∷ 0x00 ∷ 0xe0 ∷ 0x98 ∷ 0x03 ∷ 0x2b ∷ 0x8c ∷ []

-- The text in units of two bytes, of one byte each.
abbrev pub wide : List ℕ → List ℕ
wide [] = []
wide (byte ∷ bytes) = byte ∷ 0 ∷ wide bytes

-- The bytes are the variable of this vendor and name, with this value, whatever the event's type.
abbrev pub IsNamed : List ℕ → List ℕ → List ℕ → List ℕ → Type 0
IsNamed guid name bytes value = IsVariable bytes (record { guid = guid; name = name; value = value })

-- What the text of a node shows of the node, field by field (UEFI 2.10, section 10.6.1). All numbers are little endian.
use Rattle.std.specs.Prelude.{ℕ, List, [], ◌∷◌, ◌++◌, codes, decimal, drop, take, slice_index, flat_map}
use Rattle.std.specs.Int.{w16, w32, w64, from_le_bytes}
use Rattle.hex.specs.Hex.{encode_lower}
use Rattle.event_data.specs.Names.{NodeData}
use Rattle.event_texts.specs.declared.node_row.Field.{Field}
use Rattle.event_texts.specs.declared.node_row.Field.TheVariants.{Kind, Subtype, U8, U16, U32, U64, Decimal, Guid, Bytes, Rest, Eui, Pnp, Gpt, Mbr}
use Rattle.event_texts.specs.Guids.{bytes_at, guid_text}
use Rattle.event_texts.specs.Numbers.{hex_number}

-- The bytes in hexadecimal, with a '-' between each two.
abbrev pub dashed : List ℕ → List ℕ
dashed [] = []
dashed (first ∷ others) = encode_lower (first ∷ []) ++ flat_map (λ byte. codes "-" ++ encode_lower (byte ∷ [])) others

-- What a field shows of the bytes from its place on. A number is in hexadecimal.
abbrev pub field_text : Field → NodeData → List ℕ
-- the node's type, and its sub-type
field_text Kind node = decimal node.kind
field_text Subtype node = decimal node.subtype
-- a number of one, two, four or eight bytes
field_text (U8 place) node = hex_number (slice_index node.payload place)
field_text (U16 place) node = hex_number (from_le_bytes w16 (drop place node.payload))
field_text (U32 place) node = hex_number (from_le_bytes w32 (drop place node.payload))
field_text (U64 place) node = hex_number (from_le_bytes w64 (drop place node.payload))
-- a number of four bytes, in decimal
field_text (Decimal place) node = decimal (from_le_bytes w32 (drop place node.payload))
field_text (Guid place) node = guid_text (drop place node.payload)
-- so many bytes, and all bytes, in hexadecimal
field_text (Bytes place count) node = encode_lower (take count (drop place node.payload))
field_text (Rest place) node = encode_lower (drop place node.payload)
-- an EUI-64: eight bytes, the last one first
field_text (Eui place) node = dashed (bytes_at (7 ∷ 6 ∷ 5 ∷ 4 ∷ 3 ∷ 2 ∷ 1 ∷ 0 ∷ []) (drop place node.payload))
-- the number of a PNP identifier, two bytes
field_text (Pnp place) node = codes "PNP" ++ encode_lower (bytes_at (1 ∷ 0 ∷ []) (drop place node.payload))
-- words
field_text Gpt node = codes "GPT"
field_text Mbr node = codes "MBR"

-- Fields, with a ',' between each two.
abbrev pub fields_text : List Field → NodeData → List ℕ
fields_text [] node = []
fields_text (first ∷ others) node = field_text first node ++ flat_map (λ field. codes "," ++ field_text field node) others

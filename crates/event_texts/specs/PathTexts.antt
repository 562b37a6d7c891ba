-- Device paths as text (UEFI 2.10, section 10.6).
use Rattle.std.specs.Prelude.{ℕ, ◌-◌, ◌==◌, ◌&&◌, ◌||◌, not, nat_lt, Bool, bytes_eq, if◌then◌else◌, List, [], ◌∷◌, ◌++◌, codes, drop, take, length, Option, Some, None}
use Rattle.std.specs.List.{list_all}
use Rattle.event_data.specs.Names.{NodeData, nodes_in}
use Rattle.event_texts.specs.NodeRows.{row_of, row_text}
use Rattle.event_texts.specs.WideTexts.{wide_text}

-- The text of a file path (File Path Media Device Path): what precedes the NUL at its end, as it is; none where it is no UTF-16.
abbrev pub file_text : List ℕ → Option (List ℕ)
file_text payload =
    if bytes_eq (drop (length payload - 2) payload) (0 ∷ 0 ∷ []) then wide_text (take (length payload - 2) payload) else None

-- Whether a byte may stand in a URI's text: a printable character of ASCII other than ')'.
abbrev pub is_uri_byte : ℕ → Bool
is_uri_byte byte = nat_lt 32 byte && nat_lt byte 127 && not (byte == 41)

-- The text of a URI (Uniform Resource Identifiers Device Path).
abbrev pub uri_text : List ℕ → Option (List ℕ)
uri_text payload = if list_all is_uri_byte payload then Some (codes "Uri(" ++ payload ++ codes ")") else None

-- The text of a node that shows a text.
abbrev pub told_text : NodeData → Option (List ℕ)
told_text node =
    if node.kind == 4 && node.subtype == 4 then file_text node.payload
    else if node.kind == 3 && node.subtype == 24 then uri_text node.payload
    else None

abbrev pub or_row : NodeData → Option (List ℕ) → List ℕ
or_row node (Some text) = text
or_row node None = row_text (row_of node) node

-- The text of a node: that which it shows, else its name and fields, else the generic form.
abbrev pub node_text : NodeData → List ℕ
node_text node = or_row node (told_text node)

-- Whether a node ends a path, or one of the paths at the same place (Device Path End Structure).
abbrev pub is_end : NodeData → Bool
is_end node = node.kind == 0x7f && (node.subtype == 0x01 || node.subtype == 0xff) && length node.payload == 0

-- The texts of nodes, of which the first has `lead` before it: '/' before each that follows another of its path, and ',' before the first
-- of a path that follows another. An end says nothing.
abbrev pub nodes_text : List ℕ → List NodeData → List ℕ
nodes_text lead [] = []
nodes_text lead (node ∷ others) =
    if is_end node then nodes_text (codes ",") others else lead ++ node_text node ++ nodes_text (codes "/") others

abbrev pub if_whole : List NodeData × List ℕ → Option (List ℕ)
if_whole nodes = if length nodes.1 == 0 then Some (nodes_text [] nodes.0) else None

-- The text of a device path; none where the bytes are not whole nodes.
unfoldable pub path_text : List ℕ → Option (List ℕ)
path_text path = if_whole (nodes_in path)

-- Cells: a part of a result, described once for text and for JSON (RFC 8259).
use Rattle.std.specs.Prelude.{◌≡◌, ℕ, Bool, List, [], ◌∷◌, ◌++◌, codes, decimal, flat_map, if◌then◌else◌, Option, Some, None, Result, OnOk}
use Rattle.hex.specs.Hex.{encode_lower}
use Rattle.json.specs.Token.{Token}
use Rattle.json.specs.Json.{Json, boolean, string}
use Rattle.json.specs.Print.{print}
use Rattle.json.specs.Tree.{json_tokens}
use Rattle.cells.specs.Values.{Member, array_of, hex_json, member_tokens, number_json, object_of}
use Rattle.cells.specs.declared.writer.Form.{Form}
use Rattle.cells.specs.declared.writer.Form.TheVariants as forms
use Rattle.cells.specs.declared.writer.CellWriter.{CellWriter}
use Rattle.cells.specs.declared.writer.CellWriter.TheVariants as writers

-- A part of a result: its text, and its JSON, which is members of an object or items of an array. Either may be empty.
pub record Cell (A : Type 0) : Type 0 where
  pub text : List ℕ
  pub json : List A

abbrev pub nothing : {A : Type 0} → Cell A
nothing = record { text = []; json = [] }

-- The first cell, and then the second.
unfoldable pub beside : {A : Type 0} → Cell A → Cell A → Cell A
beside first second = record { text = first.text ++ second.text; json = first.json ++ second.json }

-- All these cells, in order.
abbrev pub in_order : {A : Type 0} → List (Cell A) → Cell A
in_order [] = nothing
in_order (cell ∷ []) = cell
in_order (first ∷ second ∷ cells) = beside first (in_order (second ∷ cells))

-- The cells of all items, in order.
unfoldable pub each : {X A : Type 0} → (X → Cell A) → List X → Cell A
each cell_of xs = record { text = flat_map (λ x. (cell_of x).text) xs; json = flat_map (λ x. (cell_of x).json) xs }

-- The cell, if the condition holds.
abbrev pub when : {A : Type 0} → Bool → Cell A → Cell A
when is cell = if is then cell else nothing

-- The cell of the value, if there is one.
abbrev pub if_some : {X A : Type 0} → Option X → (X → Cell A) → Cell A
if_some None cell_of = nothing
if_some (Some x) cell_of = cell_of x

-- ---- in text alone

abbrev pub text : List ℕ → Cell Member
text shown = record { text = shown; json = [] }

-- A number after these words.
abbrev pub count : List ℕ → ℕ → Cell Member
count before number = text (before ++ decimal number)

-- ---- in both forms

-- A number: in text after these words, in JSON the member of this name.
abbrev pub number : List ℕ → List ℕ → ℕ → Cell Member
number before key n = record { text = before ++ decimal n; json = (key, number_json n) ∷ [] }

-- A word.
abbrev pub word : List ℕ → List ℕ → List ℕ → Cell Member
word before key w = record { text = before ++ w; json = (key, string w) ∷ [] }

-- Bytes in lower case hexadecimal.
abbrev pub hex : List ℕ → List ℕ → List ℕ → Cell Member
hex before key bytes = record { text = before ++ encode_lower bytes; json = (key, hex_json bytes) ∷ [] }

-- A number in an array: in text between these words.
abbrev pub item_number : List ℕ → ℕ → List ℕ → Cell Json
item_number before n after = record { text = before ++ (decimal n ++ after); json = number_json n ∷ [] }

-- ---- in JSON alone

abbrev pub member : List ℕ → Json → Cell Member
member key value = record { text = []; json = (key, value) ∷ [] }

-- These members.
abbrev pub members : List Member → Cell Member
members ms = record { text = []; json = ms }

abbrev pub number_member : List ℕ → ℕ → Cell Member
number_member key n = member key (number_json n)

abbrev pub word_member : List ℕ → List ℕ → Cell Member
word_member key w = member key (string w)

abbrev pub hex_member : List ℕ → List ℕ → Cell Member
hex_member key bytes = member key (hex_json bytes)

abbrev pub flag_member : List ℕ → Bool → Cell Member
flag_member key flag = member key (boolean flag)

-- An object, as an item of an array. Its text is that of its members.
unfoldable pub object : Cell Member → Cell Json
object cell = record { text = cell.text; json = object_of cell.json ∷ [] }

-- An object, as the member of this name.
unfoldable pub object_at : List ℕ → Cell Member → Cell Member
object_at key cell = record { text = cell.text; json = (key, object_of cell.json) ∷ [] }

-- An array, as the member of this name.
unfoldable pub list_at : List ℕ → Cell Json → Cell Member
list_at key cell = record { text = cell.text; json = (key, array_of cell.json) ∷ [] }

-- ---- what a writer holds

-- These tokens, and no text.
abbrev pub bare : List Token → Cell Token
bare tokens = record { text = []; json = tokens }

-- The text, or the line of the tokens.
abbrev pub printed : Form → Cell Token → List ℕ
printed forms.Text shown = shown.text
printed forms.Json shown = print shown.json ++ codes "\n"

-- The writer has this form, and holds this much.
abbrev pub HasShown : Form → CellWriter → Cell Token → Type 0
HasShown forms.Text (writers.Text text) shown = text.items ≡ shown.text
HasShown forms.Json (writers.Json writer) shown = (writer.before ≡ []) × (writer.tokens ≡ shown.json)
HasShown form out shown = ⊥

-- The cell was added to what the writer held, where each of its members or items has these tokens.
abbrev pub IsAdded : {A : Type 0} → (A → List Token) → CellWriter → CellWriter → Cell A → Type 0
IsAdded tokens_of old new cell =
    (form : Form) (shown : Cell Token) → HasShown form old shown
    → HasShown form new (record { text = shown.text ++ cell.text; json = shown.json ++ flat_map tokens_of cell.json })

-- The cell was added, unless memory ran out.
pub record Shows {A : Type 0} {E : Type 0} (tokens_of : A → List Token) (result : Result (Unit {0}) E) (old new : CellWriter) (cell : Cell A) : Type 0 where
  pub shown : OnOk result (IsAdded tokens_of old new cell)

abbrev pub ShowsMembers : {E : Type 0} → Result (Unit {0}) E → CellWriter → CellWriter → Cell Member → Type 0
ShowsMembers result old new cell = Shows member_tokens result old new cell

abbrev pub ShowsItems : {E : Type 0} → Result (Unit {0}) E → CellWriter → CellWriter → Cell Json → Type 0
ShowsItems result old new cell = Shows json_tokens result old new cell

abbrev pub one_token : Token → List Token
one_token token = token ∷ []

abbrev pub ShowsTokens : {E : Type 0} → Result (Unit {0}) E → CellWriter → CellWriter → Cell Token → Type 0
ShowsTokens result old new cell = Shows one_token result old new cell

-- The result in this form: its text, or its members as one object on one line.
abbrev pub rendered : Form → Cell Member → List ℕ
rendered forms.Text cell = cell.text
rendered forms.Json cell = print (json_tokens (object_of cell.json)) ++ codes "\n"

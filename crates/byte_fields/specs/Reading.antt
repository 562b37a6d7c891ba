-- Reading fields from left to right, up to the first fault.
use Rattle.std.specs.Prelude.{◌≡◌, ◌⊎◌, ℕ, zero, suc, ◌+◌, nat_lt, if◌then◌else◌, List, [], ◌∷◌, ◌++◌, length, take, drop, Result, Ok, Err}
use Rattle.std.specs.Int.{Width, w32, byte_len, from_be_bytes, from_le_bytes}

-- ---- steps that may fail

infixl 10 ◌>>=◌
abbrev pub ◌>>=◌ : {A B E : Type 0} → Result A E → (A → Result B E) → Result B E
(Ok x) >>= f = f x
(Err e) >>= f = Err e

-- The result, with its value passed through `view`, equals `reading`.
abbrev pub Reads : {X Y E : Type 0} → (X → Y) → Result X E → Result Y E → Type 0
Reads view (Ok x) reading = reading ≡ Ok (view x)
Reads view (Err fault) reading = reading ≡ Err fault

-- The result is the reading's, unless it is the fault `memory`, which means out of memory.
abbrev pub ReadsInMemory : {X Y E : Type 0} → E → (X → Y) → Result X E → Result Y E → Type 0
ReadsInMemory memory view (Ok x) reading = reading ≡ Ok (view x)
ReadsInMemory memory view (Err fault) reading = (fault ≡ memory) ⊎ (reading ≡ Err fault)

-- ---- fields: a value and the remaining bytes, or the given fault where there are too few bytes

-- A number of this width, which `value` makes of its bytes.
abbrev pub number_by : {E : Type 0} → (Width → List ℕ → ℕ) → E → Width → List ℕ → Result (ℕ × List ℕ) E
number_by value fault width bytes =
    if nat_lt (length bytes) (byte_len width) then Err fault
    else Ok (value width (take (byte_len width) bytes), drop (byte_len width) bytes)

-- A little-endian number.
abbrev pub number_at : {E : Type 0} → E → Width → List ℕ → Result (ℕ × List ℕ) E
number_at fault width bytes = number_by from_le_bytes fault width bytes

-- A big-endian number.
abbrev pub big_number_at : {E : Type 0} → E → Width → List ℕ → Result (ℕ × List ℕ) E
big_number_at fault width bytes = number_by from_be_bytes fault width bytes

abbrev pub part_at : {E : Type 0} → E → ℕ → List ℕ → Result (List ℕ × List ℕ) E
part_at fault count bytes = if nat_lt (length bytes) count then Err fault else Ok (take count bytes, drop count bytes)

abbrev pub byte_at : {E : Type 0} → E → List ℕ → Result (ℕ × List ℕ) E
byte_at fault [] = Err fault
byte_at fault (byte ∷ bytes) = Ok (byte, bytes)

-- Length-prefixed bytes: the length takes four bytes.
unfoldable pub sized_at : {E : Type 0} → E → List ℕ → Result (List ℕ × List ℕ) E
sized_at fault bytes = do
  size ← number_at fault w32 bytes
  part_at fault size.0 size.1

-- ---- items one after another

-- `count` more items, each read by a reader that is given the items before it.
unfoldable pub items_at : {X E : Type 0} → (List X → List ℕ → Result (X × List ℕ) E) → ℕ → List X → List ℕ → Result (List X × List ℕ) E
items_at item_at zero before bytes = Ok (before, bytes)
items_at item_at (suc count) before bytes = do
  item ← item_at before bytes
  items_at item_at count (before ++ item.0 ∷ []) item.1

-- ---- items to the end of the bytes

-- The items from number k to the end of the bytes. Each takes at least one byte, so as many steps as bytes are enough; `lost` is
-- the fault if the steps run out.
unfoldable pub items_within : {X E : Type 0} → (ℕ → List ℕ → Result (X × List ℕ) E) → (ℕ → E) → ℕ → ℕ → List ℕ → Result (List X) E
items_within item_at lost steps k [] = Ok []
items_within item_at lost zero k (byte ∷ bytes) = Err (lost k)
items_within item_at lost (suc steps) k (byte ∷ bytes) = do
  first ← item_at k (byte ∷ bytes)
  others ← items_within item_at lost steps (k + 1) first.1
  Ok (first.0 ∷ others)

abbrev pub items_from : {X E : Type 0} → (ℕ → List ℕ → Result (X × List ℕ) E) → (ℕ → E) → ℕ → List ℕ → Result (List X) E
items_from item_at lost k bytes = items_within item_at lost (length bytes) k bytes

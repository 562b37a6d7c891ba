-- Texts whose lines state registers, whatever the form of the lines.
use Rattle.std.specs.Prelude.{◌≡◌, ℕ, ◌-◌, ◌<◌, ◌&&◌, ◌==◌, Bool, IsTrue, if◌then◌else◌, List, [], ◌∷◌, ◌++◌, length, take, drop, map, bytes_eq, Option, Some, option_to_list}
use Rattle.std.specs.List.{IsDistinct, list_any}
use Rattle.pcr_banks.specs.Names.{same_alg}
use Rattle.pcr_values.specs.declared.expected.Expected.{Expected}
use Rattle.pcr_values.specs.declared.expected.ExpectFault.{ExpectFault}
use Rattle.pcr_values.specs.declared.expected.ExpectFault.TheVariants.{BadLine, DoubleLine}

-- ---- lines

-- The lines, with this byte put before the first one.
abbrev pub onto_first : ℕ → List (List ℕ) → List (List ℕ)
onto_first byte [] = []
onto_first byte (line ∷ lines) = (byte ∷ line) ∷ lines

-- A text, split at its line feeds: one more line than there are line feeds.
abbrev pub split_at_feeds : List ℕ → List (List ℕ)
split_at_feeds [] = [] ∷ []
split_at_feeds (byte ∷ text) = if byte == 10 then [] ∷ split_at_feeds text else onto_first byte (split_at_feeds text)

-- A line without its trailing carriage return, if it has one.
abbrev pub without_return : List ℕ → List ℕ
without_return line = if bytes_eq (drop (length line - 1) line) (13 ∷ []) then take (length line - 1) line else line

-- The lines of a text.
abbrev pub lines_of : List ℕ → List (List ℕ)
lines_of text = map without_return (split_at_feeds text)

-- ---- what lines state

-- What lines of one form say: a line at the position `before`, which is the beginning of a text or follows a line, leads to the position
-- `after` and states at most one register.
abbrev pub Saying : Type 0 → Type 1
Saying Position = (before : Position) (line : List ℕ) (after : Position) (stated : Option Expected) → Type 0

-- Lines from the position `before` lead to the position `after`, and state these registers, in order.
abbrev pub SayAll : {Position : Type 0} → Saying Position → Position → List (List ℕ) → Position → List Expected → Type 0
SayAll {Position} Says before [] after expected = (after ≡ before) × (expected ≡ [])
SayAll {Position} Says before (line ∷ lines) after expected =
    (next : Position) × (first : Option Expected) × (others : List Expected)
    × Says before line next first × SayAll Says next lines after others × (expected ≡ option_to_list first ++ others)

-- Whether two name the same register of the same bank.
abbrev pub same_register : Expected → Expected → Bool
same_register first second = same_alg first.alg second.alg && (first.register == second.register)

-- The lines at the start of a text lead from its beginning to this position and state these registers, and no register of a bank
-- occurs twice.
pub record AreStated {Position : Type 0} (Says : Saying Position) (start : Position) (lines : List (List ℕ)) (position : Position) (expected : List Expected)
    : Type 0 where
  pub say : SayAll Says start lines position expected
  pub distinct : IsDistinct same_register expected

-- The text states these registers.
pub record States {Position : Type 0} (Says : Saying Position) (start : Position) (text : List ℕ) (expected : List Expected) : Type 0 where
  pub end : Position
  pub stated : AreStated Says start (lines_of text) end expected

-- The text begins with lines that state at least one register.
pub record BeginsWithStated {Position : Type 0} (Says : Saying Position) (start : Position) (text : List ℕ) : Type 0 where
  pub lines : List (List ℕ)
  pub after : List (List ℕ)
  pub position : Position
  pub expected : List Expected
  pub parts : lines_of text ≡ lines ++ after
  pub stated : AreStated Says start lines position expected
  pub some : 0 < length expected

-- ---- faults

-- The fault of this line, which has this number and stands at this position, after lines that state `earlier`: it is none of the lines
-- that may stand there, or it states a register that is among them.
abbrev pub IsFaultOfLine : {Position : Type 0} → Saying Position → List Expected → Position → List ℕ → ℕ → ExpectFault → Type 0
IsFaultOfLine {Position} Says earlier position line number (BadLine at) =
    (at ≡ number) × ((next : Position) (stated : Option Expected) → Says position line next stated → ⊥)
IsFaultOfLine {Position} Says earlier position line number (DoubleLine at) =
    (at ≡ number) × ((next : Position) × (e : Expected) × Says position line next (Some e) × IsTrue (list_any (λ x. same_register x e) earlier))
IsFaultOfLine {Position} Says earlier position line number fault = ⊥

-- The fault is that of the first wrong line. Lines count from 1.
pub record HasFaultOfFirst {Position : Type 0} (Says : Saying Position) (start : Position) (text : List ℕ) (fault : ExpectFault) : Type 0 where
  pub before : List (List ℕ)
  pub line : List ℕ
  pub after : List (List ℕ)
  pub position : Position
  pub earlier : List Expected
  pub parts : lines_of text ≡ before ++ line ∷ after
  pub stated : AreStated Says start before position earlier
  pub fault_is : IsFaultOfLine Says earlier position line (length (before ++ line ∷ [])) fault

-- Where a line's state is, and a text with the sequences around the states on its lines.
use Rattle.std.specs.Prelude.{ℕ, ◌+◌, ◌-◌, ◌==◌, ◌||◌, Bool, IsTrue, true, false, if◌then◌else◌, List, [], ◌∷◌, ◌++◌, Option, drop, flat_map, length, min, not, option_map, take}
use Rattle.std.specs.List.{list_all, onto_first, position_or_len, starts_with}
use Rattle.std.specs.Option.{option_map_or, option_or}
use Rattle.terminal_colors.specs.States.{reset, sequence_of, state_at, style_of, text_of}
use Rattle.terminal_colors.specs.declared.states.State.{State}
use Rattle.terminal_colors.specs.declared.states.State.TheVariants.{Refused, Failed}

-- The length of the first piece of these bytes, which ends with this byte, or with all of them.
abbrev pub piece_end : ℕ → List ℕ → ℕ
piece_end end bytes = min (position_or_len (λ byte. byte == end) bytes + 1) (length bytes)

-- Where the word after the one at this place begins.
abbrev pub next_word : List ℕ → ℕ → ℕ
next_word line start = start + piece_end 32 (drop start line)

-- This place and the state there, if there is one.
abbrev pub mark_at : List ℕ → ℕ → Option (ℕ × State)
mark_at line start = option_map (λ state. (start, state)) (state_at (drop start line))

-- Where the line's state begins, and which it is: at the line's start, or after one or two words.
unfoldable pub mark_of : List ℕ → Option (ℕ × State)
mark_of line =
    let second = next_word line 0 in
    option_or (option_or (mark_at line 0) (mark_at line second)) (mark_at line (next_word line second))

-- The line with a sequence before this state's words at this place, and one after them.
abbrev pub colored_at : List ℕ → ℕ × State → List ℕ
colored_at line mark =
    let count = length (text_of mark.1) - 1 in
    let rest = drop mark.0 line in
    take mark.0 line ++ (sequence_of (style_of mark.1) ++ (take count rest ++ (reset ++ drop count rest)))

-- The line with a colour for its state, if it has one.
abbrev pub colored_line : List ℕ → List ℕ
colored_line line = option_map_or (colored_at line) (mark_of line) line

-- The lines of a text, each with its line feed; what follows the last line feed is one, too.
unfoldable pub lines_of : List ℕ → List (List ℕ)
lines_of [] = []
lines_of (byte ∷ bytes) = if byte == 10 then (byte ∷ []) ∷ lines_of bytes else onto_first byte (lines_of bytes)

-- The text with a colour for the states on its lines.
abbrev pub colored_lines : List ℕ → List ℕ
colored_lines text = flat_map colored_line (lines_of text)

-- The text says that something is refused or failed.
abbrev pub tells_fault : List ℕ → Bool
tells_fault text = starts_with (λ a b. a == b) text (text_of Refused) || starts_with (λ a b. a == b) text (text_of Failed)

-- The text with colours. A fault is told in one text, of which only the start has a colour: a name in it may have line feeds.
abbrev pub colored : List ℕ → List ℕ
colored text = if tells_fault text then colored_line text else colored_lines text

-- What remains without the sequences, each from its ESC to the next `m`; within one or not.
unfoldable pub plain_from : Bool → List ℕ → List ℕ
plain_from within [] = []
plain_from false (byte ∷ bytes) = if byte == 27 then plain_from true bytes else byte ∷ plain_from false bytes
plain_from true (byte ∷ bytes) = if byte == 109 then plain_from false bytes else plain_from true bytes

-- The text without sequences.
abbrev pub plain : List ℕ → List ℕ
plain text = plain_from false text

-- The text has no sequence: no byte is ESC.
abbrev pub IsPlain : List ℕ → Type 0
IsPlain text = IsTrue (list_all (λ byte. not (byte == 27)) text)

-- The words of a report that are coloured, and their colours: the sequences SGR of ECMA-48 (fifth edition, section 8.3.117).
use Rattle.std.specs.Prelude.{ℕ, ◌==◌, List, [], ◌∷◌, codes, find, Option}
use Rattle.std.specs.List.{starts_with}
use Rattle.terminal_colors.specs.declared.states.State.{State}
use Rattle.terminal_colors.specs.declared.states.State.TheVariants.{Match, MatchAtReset, Differ, DiffersFrom, Absent, Missing, Good, OldKernel, Wrong, NoBank, Confirmed, Unconfirmed, UnconfirmedFrom, Extends, Unknown, Valid, NotChecked, AtReset, Nowhere, NotLocated, MatchInShort, DifferInShort, NoVerdict, Refused, Failed}
use Rattle.terminal_colors.specs.declared.states.Style.{Style}
use Rattle.terminal_colors.specs.declared.states.Style.TheVariants.{Green, Red, Yellow, Faint}

-- All states, each once.
abbrev pub all_states : List State
all_states =
    Match ∷ MatchAtReset ∷ Differ ∷ DiffersFrom ∷ Absent ∷ Missing ∷ Good ∷ OldKernel ∷ Wrong ∷ NoBank ∷ Confirmed ∷ Unconfirmed
    ∷ UnconfirmedFrom ∷ Extends ∷ Unknown ∷ Valid ∷ NotChecked ∷ AtReset ∷ Nowhere ∷ NotLocated ∷ MatchInShort ∷ DifferInShort
    ∷ NoVerdict ∷ Refused ∷ Failed ∷ []

-- A state's words, and the byte after them: the line's end, or a space.
abbrev pub text_of : State → List ℕ
text_of Match = codes "match\n"
text_of MatchAtReset = codes "match at reset\n"
text_of Differ = codes "differ\n"
text_of DiffersFrom = codes "differ "
text_of Absent = codes "absent\n"
text_of Missing = codes "missing\n"
text_of Good = codes "good\n"
text_of OldKernel = codes "old_kernel\n"
text_of Wrong = codes "wrong\n"
text_of NoBank = codes "nobank\n"
text_of Confirmed = codes "confirmed\n"
text_of Unconfirmed = codes "unconfirmed\n"
text_of UnconfirmedFrom = codes "unconfirmed: "
text_of Extends = codes "extends "
text_of Unknown = codes "unknown "
text_of Valid = codes "valid\n"
text_of NotChecked = codes "not checked\n"
text_of AtReset = codes "at reset\n"
text_of Nowhere = codes "nowhere\n"
text_of NotLocated = codes "not located\n"
text_of MatchInShort = codes "match: "
text_of DifferInShort = codes "differ: "
text_of NoVerdict = codes "no verdict: "
text_of Refused = codes "refused: "
text_of Failed = codes "failed: "

-- Green if this holds, red if the comparison or the run ends by it, yellow if it decides nothing alone, and faint if it confirms
-- nothing.
abbrev pub style_of : State → Style
style_of Match = Green
style_of Good = Green
style_of Confirmed = Green
style_of Valid = Green
style_of MatchInShort = Green
style_of OldKernel = Yellow
style_of Unconfirmed = Yellow
style_of UnconfirmedFrom = Yellow
style_of MatchAtReset = Faint
style_of AtReset = Faint
style_of state = Red

-- The sequence that begins it. (27 is ESC.)
abbrev pub sequence_of : Style → List ℕ
sequence_of Green = 27 ∷ codes "[32m"
sequence_of Red = 27 ∷ codes "[31m"
sequence_of Yellow = 27 ∷ codes "[33m"
sequence_of Faint = 27 ∷ codes "[2m"

-- The sequence that ends it.
abbrev pub reset : List ℕ
reset = 27 ∷ codes "[0m"

-- The state at the start of this text, if there is one.
abbrev pub state_at : List ℕ → Option State
state_at text = find (λ state. starts_with (λ a b. a == b) text (text_of state)) all_states

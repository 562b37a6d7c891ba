-- Whether a report is coloured.
use Rattle.std.specs.Prelude.{Bool, true, false, ◌&&◌, ◌==◌, not, String, Result, Ok, Err, bytes_eq, codes, length, string_bytes}
use Rattle.std.specs.Global.{Global}
use Rattle.std.specs.declared.env.VarError.{VarError}
use Rattle.std.specs.declared.env.VarError.TheVariants.{NotPresent}
use Rattle.terminal_colors.specs.declared.choice.ColorChoice.{ColorChoice}
use Rattle.terminal_colors.specs.declared.choice.ColorChoice.TheVariants.{Auto, Always, Never}

-- `NO_COLOR` is set, to anything but nothing. So it is if it cannot be read.
abbrev pub asks_no_color : Result (String Global) VarError → Bool
asks_no_color (Ok text) = not (length (string_bytes text) == 0)
asks_no_color (Err NotPresent) = false
asks_no_color (Err error) = true

-- `TERM` names a terminal that shows colours.
abbrev pub names_terminal : Result (String Global) VarError → Bool
names_terminal (Ok text) = not (length (string_bytes text) == 0) && not (bytes_eq (string_bytes text) (codes "dumb"))
names_terminal (Err error) = false

-- The report is coloured: this is chosen; or it is left open, and standard output is a terminal that shows colours, of which nobody
-- asks for none.
abbrev pub is_colored : ColorChoice → Bool → Result (String Global) VarError → Result (String Global) VarError → Bool
is_colored Auto is_terminal no_color term = is_terminal && (not (asks_no_color no_color) && names_terminal term)
is_colored Always is_terminal no_color term = true
is_colored Never is_terminal no_color term = false

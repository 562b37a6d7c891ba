use Rattle.std.proofs.Common.{◌≡◌, true, string_bytes}
use Rattle.std.specs.List.{list_all}
use Rattle.hints.specs.Escaping.{is_shown}
use Rattle.hints.proofs.escapes.shown_lines.Given as goal

-- The lines so far are shown.
abbrev pub invariant-loop-line : goal.invariant-loop-line
invariant-loop-line l = list_all is_shown (string_bytes l.lines) ≡ true

use Rattle.std.proofs.Common.{◌≡◌, take, true, string_bytes}
use Rattle.std.specs.Prelude.{flat_map}
use Rattle.std.specs.List.{list_all}
use Rattle.hints.specs.Escaping.{is_shown}
use Rattle.hints.specs.HintTexts.{shown_hint}
use Rattle.hints.proofs.hints.lines_of.Given as goal

-- The lines so far are those of the hints so far.
abbrev pub invariant-loop-hint : goal.invariant-loop-hint
invariant-loop-hint l = record {
  lines : string_bytes l.lines ≡ flat_map shown_hint (take l.hint-index l.hints);
  shown : list_all is_shown (string_bytes l.lines) ≡ true;
}

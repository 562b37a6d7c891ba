use Rattle.std.proofs.Common.{◌≡◌, map, take, string_bytes}
use Rattle.hints.specs.Escaping.{escape}
use Rattle.hints.proofs.escapes.escape_each.Given as goal

-- The texts so far are escaped.
abbrev pub invariant-loop-text : goal.invariant-loop-text
invariant-loop-text l =
    map string_bytes l.shown.items ≡ map (λ text. escape (string_bytes text)) (take l.text-index l.texts)

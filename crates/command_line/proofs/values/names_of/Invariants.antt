use Rattle.std.proofs.Common.{◌≡◌, map, take, string_bytes}
use Rattle.command_line.proofs.values.names_of.Given as goal

-- The names are copies of the words so far.
abbrev pub invariant-loop-word : goal.invariant-loop-word
invariant-loop-word l = map string_bytes l.names.items ≡ map (λ word. word.now) (take l.word-index l.words)

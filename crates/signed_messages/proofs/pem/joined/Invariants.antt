use Rattle.std.proofs.Common.{◌≡◌, ◌++◌, List, ℕ}
use Rattle.std.specs.Slice.Iter.{chunks_rest, chunks_size}
use Rattle.tpm_keys.specs.KeyInfo.{in_lines}
use Rattle.signed_messages.proofs.pem.joined.Given as goal

-- If these are the lines of a text, what is left are the lines of a text too, which comes after what was joined.
abbrev pub invariant-loop-line : goal.invariant-loop-line
invariant-loop-line l =
    goal.iterator-loop-line.can_next l.line-iterator
    × goal.iterator-loop-line.is_finite l.line-iterator
    × (chunks_size l.line-iterator ≡ 65)
    × ((text : List ℕ) → l.fn.lines ≡ in_lines text
    → (rest : List ℕ) × (chunks_rest l.line-iterator ≡ in_lines rest) × (l.text.items ++ rest ≡ text))

use Rattle.std.proofs.Common.{◌≡◌, ◌++◌}
use Rattle.std.specs.Slice.Iter.{chunks_rest, chunks_size}
use Rattle.tpm_keys.specs.KeyInfo.{in_lines}
use Rattle.tpm_keys.proofs.der.push_lines.Given as goal

-- What was appended, and the lines of what is left, are the lines of the text.
abbrev pub invariant-loop-line : goal.invariant-loop-line
invariant-loop-line l =
    goal.iterator-loop-line.can_next l.line-iterator
    × goal.iterator-loop-line.is_finite l.line-iterator
    × (chunks_size l.line-iterator ≡ 64)
    × (l.pem.items ++ in_lines (chunks_rest l.line-iterator) ≡ l.initial.pem.items ++ in_lines l.fn.text)

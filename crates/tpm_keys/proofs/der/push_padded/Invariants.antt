use Rattle.std.proofs.Common.{◌≡◌, ◌++◌, replicate}
use Rattle.tpm_keys.proofs.der.push_padded.Given as goal

abbrev pub invariant-loop : goal.invariant-loop
invariant-loop l = l.point.items ≡ l.initial.point.items ++ replicate l.counter 0

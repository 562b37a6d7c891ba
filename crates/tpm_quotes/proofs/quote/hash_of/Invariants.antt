use Rattle.std.proofs.Common.{map, take}
use Rattle.tpm_quotes.specs.Spelling.{selection_of}
use Rattle.tpm_quotes.proofs.JoiningLaws.{HasJoined}
use Rattle.tpm_quotes.proofs.quote.hash_of.Given as goal

abbrev pub invariant-loop-selection : goal.invariant-loop-selection
invariant-loop-selection g l =
    HasJoined l.hasher l.fn.alg (g.V.RegisterValues.values l.fn.registers) (map selection_of (take l.selection-index l.selections))

use Rattle.std.proofs.Common.{length}
use Rattle.known_files.proofs.ListedLaws.{ReadsSome}
use Rattle.known_files.proofs.listed.ListedFiles.read.Given as goal

abbrev pub invariant-loop-rest : goal.invariant-loop-rest
invariant-loop-rest l = ReadsSome l.fn.text l.fn.self l.self l.number l.rest

abbrev pub decreases-loop-rest : goal.decreases-loop-rest
decreases-loop-rest l = length l.rest

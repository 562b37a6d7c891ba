use Rattle.measuring.specs.Measuring.{HasFiles}
use Rattle.measuring.specs.parts.{names_borrowed}
use Rattle.measuring.proofs.named_files.NamedFiles.check.Given as goal

-- Each file so far was read.
abbrev pub invariant-loop-index : goal.invariant-loop-index
invariant-loop-index g l = HasFiles (g.S.SharedFiles.held l.self.files.now) (names_borrowed l.self.names.now) l.index

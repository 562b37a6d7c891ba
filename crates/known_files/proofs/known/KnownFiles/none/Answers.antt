use Rattle.std.proofs.Common.{[]}
use Rattle.known_files.proofs.known.KnownFiles.none.Goals as goal

pub returns : goal.returns
returns c = c.of.ensures [] c.new.ensures

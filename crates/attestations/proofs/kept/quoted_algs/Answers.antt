use Rattle.std.proofs.Common.{ap, ◌∙◌}
use Rattle.attestations.specs.Kept.{algs_of}
use Rattle.attestations.proofs.kept.quoted_algs.Goals as goal

pub returns : goal.returns
returns c = c.algs_of.ensures ∙ ap algs_of c.selections.ensures

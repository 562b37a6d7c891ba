use Rattle.std.proofs.Common.{ap, ◌∙◌}
use Rattle.std.proofs.lemmas.List.{map-id}
use Rattle.boot_verdict.specs.Names.{is_complete}
use Rattle.boot_verdict.proofs.requirement.Requirement.is_met.Goals as goal

pub returns : goal.returns
returns c = c.is_met_by.ensures ∙ ap (is_complete c.args.self.now) (map-id c.args.expected.now)

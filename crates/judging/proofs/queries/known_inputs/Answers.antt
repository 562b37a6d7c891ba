use Rattle.std.proofs.Common.{◌∙◌, ap, map}
use Rattle.std.proofs.lemmas.List.{take_all}
use Rattle.judging.proofs.queries.known_inputs.Goals as goal

pub returns-clause-inputs : goal.returns-clause-inputs
returns-clause-inputs c = c.loop-name.invariant ∙ ap (map _) (take_all _ _ c.loop-name-test.false) ∙ c.known_names-name-items.ensures

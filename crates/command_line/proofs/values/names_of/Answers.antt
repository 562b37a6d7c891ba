use Rattle.std.proofs.Common.{ap, map, ◌∙◌}
use Rattle.std.proofs.lemmas.List.{take_all}
use Rattle.command_line.proofs.values.names_of.Goals as goal

pub returns : goal.returns
returns c = c.loop-word.invariant ∙ ap (map _) (take_all _ _ c.loop-word-test.false)

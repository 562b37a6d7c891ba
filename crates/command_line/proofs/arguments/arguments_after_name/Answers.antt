use Rattle.std.proofs.Common.{rules}
use Rattle.command_line.proofs.WordLemmas.{collected_after}
use Rattle.command_line.proofs.arguments.arguments_after_name.Goals as goal

pub returns : goal.returns
returns c =
    let collected = collected_after c.args.arguments c.skip.result 1 c.collect.result c.skip.ensures.source c.skip.ensures.count in search rules

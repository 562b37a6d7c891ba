use Rattle.std.proofs.Common.{refl, rules}
use Rattle.command_line.specs.Arguments.{HasHelpWord}
use Rattle.command_line.proofs.arguments.help_of.Goals as goal

pub returns-in_ok-format-in-DisplayHelp : goal.returns-in_ok-format-in-DisplayHelp
returns-in_ok-format-in-DisplayHelp c =
    let request : HasHelpWord c.args.arguments.now = search rules in (request, (c.in_ok-format-in-DisplayHelp.field-0, refl), search rules)

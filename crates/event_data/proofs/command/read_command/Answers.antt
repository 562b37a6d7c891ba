use Rattle.std.proofs.Common.{rules, ◌∙◌}
use Rattle.event_data.specs.Names.{command_of}
use Rattle.event_data.proofs.CommandLaws.{command_finds}
use Rattle.event_data.proofs.Finding.{view_is}
use Rattle.event_data.proofs.command.read_command.Goals as goal

pub returns-clause-value : goal.returns-clause-value
returns-clause-value c = search rules

pub returns-clause-found : goal.returns-clause-found
returns-clause-found c = view_is command_of c.line_as_any.result (command_finds c.args.bytes.now) (returns-clause-value c)

pub returns-clause-only : goal.returns-clause-only
returns-clause-only c value is = returns-clause-value c ∙ (command_finds c.args.bytes.now).only value is

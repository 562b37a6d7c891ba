use Rattle.std.proofs.Common.{take}
use Rattle.std.specs.List.{fold}
use Rattle.clap.specs.Words.{new_app}
use Rattle.command_line.specs.parts.Commands.{IsCommand, with_argument_row}
use Rattle.command_line.proofs.command_table.command.Given as goal

-- The command has the arguments of the rows so far.
abbrev pub invariant-loop-argument_row : goal.invariant-loop-argument_row
invariant-loop-argument_row l =
    IsCommand (fold (with_argument_row l.known) (new_app l.row.name.now) (take l.argument_row-index l.argument_row-items)) l.command

use Rattle.std.proofs.Common.{take}
use Rattle.std.specs.List.{fold}
use Rattle.command_line.specs.parts.Commands.{IsCommand, with_row}
use Rattle.command_line.specs.Arguments.{program_app}
use Rattle.command_line.proofs.command_table.all_commands.Given as goal

-- The program has the commands of the rows so far.
abbrev pub invariant-loop-row : goal.invariant-loop-row
invariant-loop-row l = IsCommand (fold (with_row l.known) program_app (take l.row-index l.rows)) l.program

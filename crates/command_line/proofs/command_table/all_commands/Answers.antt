use Rattle.std.proofs.Common.{◌∙◌, ap}
use Rattle.std.specs.List.{fold}
use Rattle.std.proofs.lemmas.List.{take_all}
use Rattle.command_line.specs.parts.Commands.{with_row}
use Rattle.command_line.specs.Arguments.{program_app}
use Rattle.command_line.proofs.command_table.all_commands.Goals as goal

pub returns : goal.returns
returns c =
    let table = c.rows-rows.ensures c.args.known in
    let all = ap (fold (with_row c.args.known) program_app) (take_all _ _ c.loop-row-test.false) in
    (table.0, record { app_is = c.loop-row.invariant.app_is ∙ all ∙ table.1 })

use Rattle.std.specs.Prelude.{◌==◌}
use Rattle.terminal_colors.proofs.PieceLaws.{end_none, end_some}
use Rattle.terminal_colors.proofs.lines.piece_end.Goals as goal

pub returns-in-Some-clause-value : goal.returns-in-Some-clause-value
returns-in-Some-clause-value c = end_some (λ byte. byte == c.args.end) c.args.bytes.now c.in-Some.place c.in-Some.ensures.value

pub returns-in-None-clause-value : goal.returns-in-None-clause-value
returns-in-None-clause-value c = end_none (λ byte. byte == c.args.end) c.args.bytes.now c.in-None.ensures.value

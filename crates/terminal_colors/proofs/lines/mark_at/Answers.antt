use Rattle.std.proofs.Common.{◌-◌, length, take, drop, ap, ◌∙◌, length-drop, sym, arith}
use Rattle.byte_streams.proofs.SinkLaws.{take-drop-all}
use Rattle.terminal_colors.specs.States.{all_states}
use Rattle.terminal_colors.proofs.PieceLaws.{found_within}
use Rattle.terminal_colors.proofs.lines.mark_at.Goals as goal

pub returns-clause-within : goal.returns-clause-within
returns-clause-within c =
    let line = c.args.line.now in
    let start = c.args.start in
    let rest = take (length line - start) (drop start line) in
    let within = found_within all_states rest c.in_ok-state.state (sym c.state_at.ensures ∙ c.in_ok-state.was) in
    omega (arith, within, ap length (take-drop-all start line), length-drop start line)

use Rattle.std.proofs.Common.{ℕ, ◌+◌, ◌≤◌, length, refl}
use Rattle.terminal_colors.specs.States.{text_of}
use Rattle.terminal_colors.specs.Lines.{mark_of}
use Rattle.terminal_colors.specs.declared.states.State.{State}
use Rattle.terminal_colors.proofs.PieceLaws.{IfSome-or}
use Rattle.terminal_colors.proofs.lines.mark_of.Goals as goal

pub returns-clause-value : goal.returns-clause-value
unfolding mark_of
returns-clause-value c =
    rw (
      c.or-2.ensures,
      c.or.ensures,
      c.mark_at.ensures.value,
      c.mark_at-2.ensures.value,
      c.mark_at-3.ensures.value,
      c.next_word-third.ensures.value,
      c.next_word-second.ensures.value,
    ) refl

pub returns-clause-within : goal.returns-clause-within
returns-clause-within c =
    let IsIn = λ (mark : ℕ × State). mark.0 + length (text_of mark.1) ≤ length c.args.line.now in
    rw (c.or-2.ensures, c.or.ensures)
    (IfSome-or IsIn _ c.mark_at-3.result (IfSome-or IsIn c.mark_at.result c.mark_at-2.result c.mark_at.ensures.within c.mark_at-2.ensures.within)
    c.mark_at-3.ensures.within)

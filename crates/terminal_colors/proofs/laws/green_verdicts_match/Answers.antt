use Rattle.std.proofs.Common.{refl, sym, ap, ◌∙◌}
use Rattle.terminal_colors.specs.Lines.{mark_of, plain, plain_from}
use Rattle.terminal_colors.proofs.PlainLaws.{plain_line}
use Rattle.terminal_colors.proofs.laws.green_verdicts_match.Goals as goal

pub returns-clause-green : goal.returns-clause-green
unfolding mark_of
returns-clause-green c = refl

pub returns-clause-only : goal.returns-clause-only
unfolding plain_from
returns-clause-only c = λ line all same. sym (plain_line line all) ∙ ap plain same

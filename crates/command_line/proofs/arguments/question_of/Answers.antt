use Rattle.command_line.proofs.arguments.question_of.Goals as goal

pub returns-in_ok-comparison_of-in-verify-clause-values : goal.returns-in_ok-comparison_of-in-verify-clause-values
returns-in_ok-comparison_of-in-verify-clause-values c = c.in_ok-comparison_of-in-verify.ensures.values _ (
  c.in-verify.is,
  c.in_ok-log_of-in-verify.ensures,
  c.in_ok-flag_of-in-verify.ensures,
  c.in_ok-text_if_given-in-verify.ensures,
  c.in_ok-text_if_given-in-verify-2.ensures,
)

pub returns-in_ok-comparison_of-in-locate-clause-values : goal.returns-in_ok-comparison_of-in-locate-clause-values
returns-in_ok-comparison_of-in-locate-clause-values c = c.in_ok-comparison_of-in-locate.ensures.values _ (c.in-locate.is, c.in_ok-log-in-locate.ensures)

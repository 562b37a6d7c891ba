use Rattle.terminal_colors.proofs.PlainLaws.{plain_colored, same_colored}
use Rattle.terminal_colors.proofs.laws.colors_say_nothing.Goals as goal

pub returns-clause-plain : goal.returns-clause-plain
returns-clause-plain c = plain_colored

pub returns-clause-same : goal.returns-clause-same
returns-clause-same c = same_colored

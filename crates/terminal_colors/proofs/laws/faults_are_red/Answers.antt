use Rattle.std.proofs.Common.{refl}
use Rattle.terminal_colors.specs.Lines.{mark_of}
use Rattle.terminal_colors.proofs.laws.faults_are_red.Goals as goal

pub returns-clause-refused : goal.returns-clause-refused
unfolding mark_of
returns-clause-refused c = λ rest. refl

pub returns-clause-failed : goal.returns-clause-failed
unfolding mark_of
returns-clause-failed c = λ rest. refl

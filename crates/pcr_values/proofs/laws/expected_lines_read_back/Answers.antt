use Rattle.pcr_values.specs.Names.{names}
use Rattle.pcr_values.proofs.WrittenLaws.{all_read_back, those_read_back}
use Rattle.pcr_values.proofs.laws.expected_lines_read_back.Goals as goal

pub returns-clause-selected : goal.returns-clause-selected
returns-clause-selected c = λ text expected ranges. those_read_back text expected (λ e. names ranges e.alg e.register)

pub returns-clause-all : goal.returns-clause-all
returns-clause-all c = all_read_back

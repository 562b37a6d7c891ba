use Rattle.std.proofs.Common.{rules}
use Rattle.pcr_banks.proofs.AlgLaws.{every_alg, every_passes, list_passes, some_passes, list_has}
use Rattle.pcr_banks.proofs.laws.each_alg_once.Goals as goal

pub returns-clause-once : goal.returns-clause-once
returns-clause-once c = every_alg _ (search rules)

pub returns-clause-every : goal.returns-clause-every
returns-clause-every c = λ test. (every_passes test, list_passes test)

pub returns-clause-some : goal.returns-clause-some
returns-clause-some c = λ test. (some_passes test, λ found. list_has test found.0 found.1)

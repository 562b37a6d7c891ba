use Rattle.boot_verdict.proofs.AggregateLaws.{good_by_any, taken_as_old}
use Rattle.boot_verdict.proofs.laws.older_kernel_is_never_taken_silently.Goals as goal

pub returns-clause-asked : goal.returns-clause-asked
returns-clause-asked c = λ rule algs events entries e. (taken_as_old rule algs events entries e).0

pub returns-clause-older : goal.returns-clause-older
returns-clause-older c = λ rule algs events entries e. (taken_as_old rule algs events entries e).1

pub returns-clause-good : goal.returns-clause-good
returns-clause-good c = good_by_any

use Rattle.boot_verdict.proofs.KeptLaws.{kept_same, kept_values}
use Rattle.boot_verdict.proofs.kept.banks_for.Goals as goal

pub returns-clause-asked : goal.returns-clause-asked
returns-clause-asked c =
    kept_same c.args.expected.now c.keep.result c.args.banks.now
    (kept_values c.args.expected.now c.keep.result c.args.banks.now (rw c.algs_of.ensures at c.keep.ensures.values))

pub returns-clause-values : goal.returns-clause-values
returns-clause-values c = kept_values c.args.expected.now c.keep.result c.args.banks.now (rw c.algs_of.ensures at c.keep.ensures.values)

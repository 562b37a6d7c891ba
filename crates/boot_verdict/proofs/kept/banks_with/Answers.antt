use Rattle.boot_verdict.proofs.KeptLaws.{kept_besides, kept_with}
use Rattle.boot_verdict.proofs.kept.banks_with.Goals as goal

pub returns-clause-asked : goal.returns-clause-asked
returns-clause-asked c =
    kept_with c.args.expected.now c.args.more c.keep.result c.args.banks.now
    (kept_besides c.args.expected.now c.args.more c.union.result c.keep.result c.args.banks.now (rw c.algs_of.ensures at c.union.ensures)
    c.keep.ensures.values)

pub returns-clause-values : goal.returns-clause-values
returns-clause-values c =
    kept_besides c.args.expected.now c.args.more c.union.result c.keep.result c.args.banks.now (rw c.algs_of.ensures at c.union.ensures)
    c.keep.ensures.values

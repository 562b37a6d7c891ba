use Rattle.tpm_quotes.specs.Spelling.{quote_of}
use Rattle.attestations.proofs.KeptLaws.{kept_same, kept_values}
use Rattle.attestations.proofs.kept.banks_for.Goals as goal

pub returns-clause-selected : goal.returns-clause-selected
returns-clause-selected c =
    let selections = (quote_of c.args.quote.now).selections in
    kept_same selections c.keep.result c.args.banks.now
    (kept_values selections c.keep.result c.args.banks.now (rw c.quoted_algs.ensures at c.keep.ensures.values))

pub returns-clause-values : goal.returns-clause-values
returns-clause-values c =
    kept_values (quote_of c.args.quote.now).selections c.keep.result c.args.banks.now (rw c.quoted_algs.ensures at c.keep.ensures.values)

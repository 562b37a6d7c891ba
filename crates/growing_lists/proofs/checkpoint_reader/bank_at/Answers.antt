use Rattle.growing_lists.proofs.CheckpointLaws.{bank_none, bank_some}
use Rattle.growing_lists.proofs.checkpoint_reader.bank_at.Goals as goal

pub returns-in-Some : goal.returns-in-Some
returns-in-Some c =
    λ known more have stands is.
    bank_none known c.args.banks c.without.result c.args.alg more c.in-Some.rest.now c.args.text.now have is c.in-Some.ensures.found
    c.without.ensures.values

pub returns-in-None : goal.returns-in-None
returns-in-None c =
    λ known more have stands is.
    let lines = bank_some known c.args.alg more c.args.text.now have is c.in-None.ensures.none in
    c.values_at.ensures known c.args.alg more have stands lines.0 lines.1

use Rattle.std.proofs.Common.{sym, ◌∙◌}
use Rattle.std.proofs.lemmas.Bool.{false≢true}
use Rattle.growing_lists.proofs.DataLaws.{counted_same}
use Rattle.growing_lists.proofs.checkpoint_reader.check_text.Goals as goal

pub returns-then-not-is_counted-clause-only : goal.returns-then-not-is_counted-clause-only
returns-then-not-is_counted-clause-only c =
    λ known possible same is.
    let counted = counted_same c.args.state.checkpoint known.checkpoint c.banks_have_values.ensures c.banks_have_values-2.ensures possible.checkpoint
    same.checkpoint in
    absurd (false≢true (sym c.if-not-is_counted.true ∙ c.is_counted.ensures.1 counted))

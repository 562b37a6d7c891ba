use Rattle.growing_lists.proofs.DataLaws.{counted_list}
use Rattle.growing_lists.proofs.laws.counted_checkpoint_is_possible.Goals as goal

pub returns-clause-possible : goal.returns-clause-possible
returns-clause-possible c =
    λ counted. record {
      counted = counted;
      before = c.banks_have_values.ensures;
      after = c.banks_have_values-2.ensures;
      recorded = c.aggregate_is_a_hash.ensures;
      told = c.aggregate_is_a_hash-2.ensures;
    }

pub returns-clause-counted : goal.returns-clause-counted
returns-clause-counted c = counted_list c.args.checkpoint.now

use Rattle.std.proofs.Common.{◌≡◌, ◌+◌, ◌<◌, length, get_or, vec_len, sym, ap, ◌∙◌, arith}
use Rattle.std.specs.Prelude.{slice_get}
use Rattle.std.proofs.lemmas.Option.{slice_get-get_or}
use Rattle.hash_workers.proofs.ScatterLaws.{prefix_less, prefix_last, placed_more, kept_more}
use Rattle.hash_workers.proofs.scatter.place.Goals as goal

pub loop-outcome-preserved : goal.loop-outcome-preserved
loop-outcome-preserved c =
    let kept = c.loop-outcome.invariant in
    let popped = c.in-Some.ensures.items in
    let step : vec_len c.pop.new.self + 1 ≡ vec_len c.loop-outcome.group = c.in-Some.ensures.cases in
    let last : c.len.result ≡ vec_len c.pop.new.self = c.len.ensures in
    let inside : c.len.result < length c.args.taken.now = omega arith in
    let took = ap (slice_get c.args.taken.now) (sym last) ∙ slice_get-get_or c.args.taken.now c.len.result 0 inside in
    let below : get_or c.args.taken.now c.len.result 0 < vec_len c.args.outcomes.now = c.requires.below.each _ _ took in
    let sizes = c.requires.sizes in
    let got = prefix_last c.args.group.items c.loop-outcome.group.items c.pop.new.self.items c.in-Some.outcome (vec_len c.pop.new.self)
    popped (omega arith) kept.prefix in
    record {
      within = omega arith;
      prefix = prefix_less c.args.group.items c.loop-outcome.group.items c.pop.new.self.items c.in-Some.outcome popped kept.prefix;
      placed = rw (c.put.ensures.outcomes, c.put.ensures.by) (placed_more c.args.taken.now c.args.group.items c.loop-outcome.outcomes.items c.loop-outcome.by.items c.args.worker
          (vec_len c.pop.new.self)
          (vec_len c.loop-outcome.group) (get_or c.args.taken.now c.len.result 0) c.in-Some.outcome step c.requires.rise took got
          (omega arith) (omega arith) kept.placed);
      kept = rw (c.put.ensures.outcomes, c.put.ensures.by) (kept_more c.args.taken.now c.args.outcomes.now.items c.loop-outcome.outcomes.items c.args.by.now.items
          c.loop-outcome.by.items c.args.worker
          (vec_len c.pop.new.self) (vec_len c.loop-outcome.group) (get_or c.args.taken.now c.len.result 0) c.in-Some.outcome step took
          kept.kept);
      outcomes_len = c.put.ensures.sizes.0 ∙ kept.outcomes_len;
      by_len = c.put.ensures.sizes.1 ∙ kept.by_len;
    }

use Rattle.std.proofs.Common.{◌≡◌, ◌+◌, length, map, vec_len, Some, ◌∙◌, ap, arith}
use Rattle.std.specs.Prelude.{slice_get}
use Rattle.hash_workers.specs.Names.{items_of}
use Rattle.hash_workers.proofs.ListLaws.{at_map}
use Rattle.hash_workers.proofs.ScatterLaws.{items_here, below_of, rise_of, prefix_less, prefix_last, scattered_more}
use Rattle.hash_workers.proofs.TakingLaws.{take_each}
use Rattle.hash_workers.proofs.scatter.scatter.Goals as goal

-- The list taken out of the takings is that of the worker.
pub place-requires-clause-below : goal.place-requires-clause-below
place-requires-clause-below c =
    let kept = c.loop-group.invariant in
    let step : vec_len c.pop.new.self + 1 ≡ vec_len c.loop-group.groups = c.in-Some.ensures.cases in
    let last : c.len-worker.result ≡ vec_len c.pop.new.self = c.len-worker.ensures in
    let here = items_here c.args.takings.now c.len-worker.result c.index-takings-worker.result (omega arith) c.index-takings-worker.is in
    let known = below_of (vec_len c.args.outcomes.now) (map items_of c.args.takings.now) c.len-worker.result
    c.index-takings-worker.result.items
    (take_each (vec_len c.args.outcomes.now) (map items_of c.args.takings.now) c.requires.each) here in
    rw (c.deref.ensures.value, kept.outcomes_len) known

pub place-requires-clause-rise : goal.place-requires-clause-rise
place-requires-clause-rise c =
    let kept = c.loop-group.invariant in
    let step : vec_len c.pop.new.self + 1 ≡ vec_len c.loop-group.groups = c.in-Some.ensures.cases in
    let last : c.len-worker.result ≡ vec_len c.pop.new.self = c.len-worker.ensures in
    let here = items_here c.args.takings.now c.len-worker.result c.index-takings-worker.result (omega arith) c.index-takings-worker.is in
    rw c.deref.ensures.value
    (rise_of (map items_of c.args.takings.now) c.len-worker.result c.index-takings-worker.result.items c.requires.rise here)

pub place-requires-clause-pairs : goal.place-requires-clause-pairs
place-requires-clause-pairs c =
    let kept = c.loop-group.invariant in
    let step : vec_len c.pop.new.self + 1 ≡ vec_len c.loop-group.groups = c.in-Some.ensures.cases in
    let last : c.len-worker.result ≡ vec_len c.pop.new.self = c.len-worker.ensures in
    let here = items_here c.args.takings.now c.len-worker.result c.index-takings-worker.result (omega arith) c.index-takings-worker.is in
    let group = at_map items_of c.args.groups.items c.len-worker.result c.in-Some.group
    (prefix_last c.args.groups.items c.loop-group.groups.items c.pop.new.self.items c.in-Some.group c.len-worker.result
    c.in-Some.ensures.items (omega arith) kept.prefix) in
    let pairs : length c.in-Some.group.items ≡ length c.index-takings-worker.result.items = c.requires.pairs.each _ _ _ here group in
    let same : c.deref.result.now ≡ c.index-takings-worker.result.items = c.deref.ensures.value in
    let lengths : length c.deref.result.now ≡ length c.index-takings-worker.result.items = ap length same in
    omega arith

pub loop-group-preserved : goal.loop-group-preserved
loop-group-preserved c =
    let kept = c.loop-group.invariant in
    let step : vec_len c.pop.new.self + 1 ≡ vec_len c.loop-group.groups = c.in-Some.ensures.cases in
    let last : c.len-worker.result ≡ vec_len c.pop.new.self = c.len-worker.ensures in
    let here : slice_get (map items_of c.args.takings.now) (vec_len c.pop.new.self) ≡ Some c.deref.result.now = rw (← last, c.deref.ensures.value)
    (items_here c.args.takings.now c.len-worker.result c.index-takings-worker.result (omega arith) c.index-takings-worker.is) in
    let group = at_map items_of c.args.groups.items (vec_len c.pop.new.self) c.in-Some.group
    (prefix_last c.args.groups.items c.loop-group.groups.items c.pop.new.self.items c.in-Some.group (vec_len c.pop.new.self)
    c.in-Some.ensures.items (omega arith) kept.prefix) in
    record {
      within = omega arith;
      prefix = prefix_less c.args.groups.items c.loop-group.groups.items c.pop.new.self.items c.in-Some.group c.in-Some.ensures.items
          kept.prefix;
      scattered = scattered_more (vec_len c.args.outcomes.now) (map items_of c.args.takings.now) (map items_of c.args.groups.items)
          (vec_len c.pop.new.self)
          (vec_len c.loop-group.groups) c.deref.result.now c.in-Some.group.items c.loop-group.outcomes.items c.place.new.outcomes.items
          c.loop-group.by.items c.place.new.by.items step
          (take_each (vec_len c.args.outcomes.now) (map items_of c.args.takings.now) c.requires.each) here group (rw last at c.place.ensures.placed)
          c.place.ensures.kept kept.scattered;
      outcomes_len = c.place.ensures.sizes.0 ∙ kept.outcomes_len;
      by_len = c.place.ensures.sizes.1 ∙ kept.by_len;
    }

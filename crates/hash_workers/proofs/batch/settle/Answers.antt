use Rattle.std.proofs.Common.{refl, sym, inl, ◌∙◌, arith}
use Rattle.std.proofs.lemmas.Bool.{true≢false}
use Rattle.std.proofs.lemmas.List.{length-map}
use Rattle.measure_book.specs.declared.gathers.GatherFault.TheVariants.{ForeignBook}
use Rattle.hash_workers.specs.Names.{items_of, takings_of}
use Rattle.hash_workers.proofs.BatchLaws.{batch_of}
use Rattle.hash_workers.proofs.TakingLaws.{take_each}
use Rattle.hash_workers.proofs.batch.settle.Goals as goal

pub returns-then-all-clause-fault : goal.returns-then-all-clause-fault
returns-then-all-clause-fault g c = inl (record {
  made = λ same. absurd (true≢false (sym c.if-all.true ∙ same));
  reason = ForeignBook;
  first = rw c.if-all.true;
  fault_is = refl;
})

pub returns-clause-batch : goal.returns-clause-batch
returns-clause-batch g c =
    let sizes = c.scatter.ensures.sizes in
    let places = c.requires.all.places c.in_default.is in
    let places_by = c.requires.all.places_by c.in_default.is in
    batch_of c.args.origin.now (g.J.Jobs.total c.args._jobs.now) (g.J.Jobs.makes c.args._jobs.now c.args.origin.now.alg) c.args.workers c.args.book
    (takings_of c.args.all) c.args.all.groups.items c.scatter.new.outcomes.items c.scatter.new.by.items
    (record {
      one_each = length-map c.args.all.takings.items items_of ∙ c.requires.all.one_each;
      of_jobs = c.requires.all.of_jobs;
      hands = take_each (g.J.Jobs.total c.args._jobs.now) (takings_of c.args.all) (c.requires.all.each c.if-all.false c.in_default.is);
      rises = c.requires.all.rise;
      pairs = c.requires.all.pairs;
      scattered = rw c.deref-2.ensures.value at c.scatter.ensures.scattered;
      accounts = rw c.deref.ensures.value at c.in_ok-check_accounts.ensures.accounts;
      outcomes_len = omega arith;
      by_len = omega arith;
    })

pub returns-clause-made : goal.returns-clause-made
returns-clause-made g c = c.requires.all.made c.if-all.false c.in_default.is

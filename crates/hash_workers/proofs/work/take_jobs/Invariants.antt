use Rattle.std.proofs.Common.{◌≡◌, ◌-◌, false, length, map}
use Rattle.std.specs.Prelude.{IfSome}
use Rattle.measure_book.specs.Names.{book_outcome_of}
use Rattle.hash_workers.specs.declared.work.End.TheVariants.{NoneLeft}
use Rattle.hash_workers.specs.Names.{AreHad, AreMadeUnlessMemory, IsSeat, IsTakenUnmade, IsWorked, NumbersRise, TellsAll}
use Rattle.hash_workers.proofs.work.take_jobs.Given as goal

abbrev pub invariant-loop-number : goal.invariant-loop-number
invariant-loop-number g l =
    let count = g.J.Jobs.total l.jobs in
    let Makes = g.J.Jobs.makes l.jobs l.origin.alg in
    record {
      seat : IsSeat l.claims 1 l.work.taken.items false l.work.seat;
      rises : NumbersRise l.work.taken.items;
      worked : IsWorked l.origin count Makes l.work.taken.items (map book_outcome_of l.work.outcomes.items);
      had : AreHad Makes l.work.taken.items l.work.unmade;
      unmade : IfSome l.work.unmade (IsTakenUnmade count (g.J.Jobs.fails l.jobs) l.work.taken.items);
      tells : TellsAll l.origin Makes (g.B.Recorder.told l.fn.recorder) (g.B.Recorder.told l.recorder) l.work.taken.items
          (map book_outcome_of l.work.outcomes.items) NoneLeft;
      end : l.work.end ≡ NoneLeft;
      made : AreMadeUnlessMemory Makes (g.J.Jobs.fails l.jobs) l.work.taken.items;
    }

abbrev pub decreases-loop-number : goal.decreases-loop-number
decreases-loop-number g l = l.claims.jobs - length l.work.taken.items

-- What other crates name of the definitions of `hash_workers`.
pub use Rattle.hash_workers.specs.Batches.{IsBatch, IsBatchOf, IsReceiptOfJob, IsRefusalOfJob}
pub use Rattle.hash_workers.specs.Claims.{ClaimsState, DrawsMore, HandsOutEach, IsSeat, SeatState, times}
pub use Rattle.hash_workers.specs.Faults.{IsAgentFaultOf, IsJobsFaultOf, IsNumberOfWorkers, MayBegin, fault_of_book, fault_of_gather, jobs_fault_of_book}
pub use Rattle.hash_workers.specs.Jobs.{operation_of, operations_of}
pub use Rattle.hash_workers.specs.Outcomes.{IsOutcomeOf, MayBecome}
pub use Rattle.hash_workers.specs.Reasons.{AllMadeUnlessMemory, IsFirstUnmade, IsMadeUnlessMemory, IsReasonOf}
pub use Rattle.hash_workers.specs.parts.ClaimRule.{AreClaimed, IsViewOf, KeepsRule, Looks, MayDraw, MayDrawAll, drawn_view, emptied_view, ended_places_of, giver, merged, places_of, spent, taker, total, view_of}
pub use Rattle.hash_workers.specs.parts.Ending.{AnyReason, AreHad, AreMadeUnlessMemory, Becomes, IsEnd, IsFound, IsFrom, IsHad, IsNoted, IsTakenUnmade, IsTurnAfter, IsUnmadeAfter, KeepsOne, StopsFor, TakesOne, TellsAll, TellsOp, TurnsPrivateBook}
pub use Rattle.hash_workers.specs.parts.Faults.{fault_for, fault_of_unmade}
pub use Rattle.hash_workers.specs.parts.Scattering.{AreBelow, AreKept, ArePairs, ArePlaced, AreScattered, got_at, items_of}
pub use Rattle.hash_workers.specs.parts.Seats.{AreJoined, AreWorksOf, HandBack, HasEnd, HasNoEnd, HasUnmade, HaveUnmade, IsEarlier, IsLeastUnmade, IsNewSeat, IsSeatEnd, IsSinglePlace, outcomes_of, seat_of, some_ended, taken_of}
pub use Rattle.hash_workers.specs.parts.Settling.{AreTakenBefore, IsAllWork, IsFirstReason, IsMadeOf, IsUnmadeOf, IsUnsettled, outcomes_by_worker, takings_of}
pub use Rattle.hash_workers.specs.parts.Taking.{IsTaken, NumbersRise, NumbersRiseForEach, Took, job_at}
pub use Rattle.hash_workers.specs.parts.Working.{AreDoneInOrder, IsDoneAfter, IsEntered, IsWorked, Records}

use Rattle.std.proofs.Common.{◌≡◌, ◌+◌, [], false, vec_len}
use Rattle.std.specs.List.{All}
use Rattle.hash_workers.specs.Names.{IsNewSeat, IsSeat}
use Rattle.hash_workers.proofs.fan.seats_of.Given as goal

abbrev pub invariant-loop-rest : goal.invariant-loop-rest
invariant-loop-rest l = record {
  giver : IsSeat l.claims l.giver.places [] false l.giver;
  places : l.giver.places + vec_len l.seats ≡ l.fn.first.places;
  each : All (IsNewSeat l.claims) l.seats.items;
}

abbrev pub decreases-loop-rest : goal.decreases-loop-rest
decreases-loop-rest l = l.giver.places

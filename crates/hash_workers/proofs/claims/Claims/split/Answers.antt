use Rattle.std.proofs.Common.{arith, refl, sym, ap, ◌∙◌}
use Rattle.hash_workers.specs.Names.{ClaimsState, SeatState}
use Rattle.hash_workers.specs.declared.claims.view.Allotment.{Allotment}
use Rattle.hash_workers.proofs.ClaimLaws.{splits}
use Rattle.hash_workers.proofs.claims.Claims.split.Goals as goal

pub split_seat-new-requires : goal.split_seat-new-requires
split_seat-new-requires c =
    let same = ap (λ (s : SeatState). s.claims) c.seat.view_is ∙ c.requires ∙ sym c.self.view_is in
    let key = c.self.invariant.2 in (
      ap (λ (s : ClaimsState). s.word) same,
      omega (arith, c.self.invariant.0),
      splits _ _ _ (ap (λ (s : ClaimsState). s.jobs) same ∙ sym (ap (λ (a : Allotment). a.jobs) key))
          (ap (λ (s : ClaimsState). s.seats) same ∙ sym (ap (λ (a : Allotment). a.seats) key)) (omega (arith, c.seat.invariant)),
    )

pub returns-then-seat-eq1-clause-err : goal.returns-then-seat-eq1-clause-err
returns-then-seat-eq1-clause-err c = (refl, sym (ap (λ (s : SeatState). s.places) c.seat.view_is) ∙ c.if-seat-eq1.true)

pub overflow_sub-giver : goal.overflow_sub-giver
overflow_sub-giver c = omega (arith, c.seat.invariant)

use Rattle.std.proofs.Common.{arith, sym, ap, ◌∙◌}
use Rattle.hash_workers.specs.Names.{ClaimsState, SeatState}
use Rattle.hash_workers.specs.declared.claims.view.Allotment.{Allotment}
use Rattle.hash_workers.proofs.ClaimLaws.{joins, looks}
use Rattle.hash_workers.proofs.claims.Claims.join.Goals as goal

pub join_seat-requires : goal.join_seat-requires
join_seat-requires c =
    let same = ap (λ (s : SeatState). s.claims) c.seat.view_is ∙ c.requires.0 ∙ sym c.self.view_is in
    let other = ap (λ (s : SeatState). s.claims) c.other.view_is ∙ c.requires.1 ∙ sym c.self.view_is in
    let key = c.self.invariant.2 in (
      ap (λ (s : ClaimsState). s.word) same,
      ap (λ (s : ClaimsState). s.word) other,
      c.other.invariant.0,
      omega (arith, c.self.invariant.0),
      joins _ _ _ _ _ (ap (λ (s : ClaimsState). s.jobs) same ∙ sym (ap (λ (a : Allotment). a.jobs) key))
          (ap (λ (s : ClaimsState). s.seats) same ∙ sym (ap (λ (a : Allotment). a.seats) key)) (omega (arith, c.seat.invariant))
          (omega (arith, c.other.invariant)),
    )

pub load-requires : goal.load-requires
load-requires c =
    let same = ap (λ (s : SeatState). s.claims) c.seat.view_is ∙ c.requires.0 ∙ sym c.self.view_is in
    let key = c.self.invariant.2 in (
      c.join_seat.ensures.0 ∙ ap (λ (s : ClaimsState). s.word) same,
      omega (arith, c.self.invariant.0),
      looks _ _ _ _ (ap (λ holder. holder.0.seats) c.join_seat.ensures.2 ∙ ap (λ (s : ClaimsState). s.seats) same
          ∙ sym (ap (λ (a : Allotment). a.seats) key)),
    )

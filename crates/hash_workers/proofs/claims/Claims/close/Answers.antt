use Rattle.std.proofs.Common.{arith, sym, ap, ◌∙◌}
use Rattle.hash_workers.specs.Names.{ClaimsState, SeatState}
use Rattle.hash_workers.specs.declared.claims.view.Allotment.{Allotment}
use Rattle.hash_workers.proofs.ClaimLaws.{all_drawn}
use Rattle.hash_workers.proofs.claims.Claims.close.Goals as goal

pub free-requires : goal.free-requires
free-requires c = λ slot within. absurd (omega (arith, c.self.invariant, c.close_with.ensures.counts))

pub returns : goal.returns
returns c = λ ended.
    let all = ap (λ (s : SeatState). s.places) c.seat.view_is ∙ c.requires.1 ∙ sym (ap (λ (s : ClaimsState). s.seats) c.self.view_is) in
    let key = c.self.invariant.2 in
    let drawn = all_drawn _ _ _ _ _ c.close_with.ensures.values.2
    (sym c.seat.invariant.1 ∙ all ∙ sym (ap (λ (a : Allotment). a.seats) key))
    (sym c.seat.invariant.2 ∙ ap (λ (s : SeatState). s.ended) c.seat.view_is ∙ ended) in
    rw (← ap (λ (s : SeatState). s.draws) c.seat.view_is, ← ap (λ (s : ClaimsState). s.jobs) c.self.view_is, ← ap (λ (a : Allotment). a.jobs) key)
    drawn

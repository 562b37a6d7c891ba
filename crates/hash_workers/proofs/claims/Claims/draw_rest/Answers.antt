use Rattle.std.proofs.Common.{ℕ, ◌++◌, ◌-◌, arith, sym, ap, ◌∙◌}
use Rattle.std.specs.List.{range_with_len}
use Rattle.hash_workers.specs.Names.{ClaimsState, SeatState}
use Rattle.hash_workers.specs.declared.claims.view.Allotment.{Allotment}
use Rattle.hash_workers.specs.declared.claims.view.SeatView.{SeatView}
use Rattle.hash_workers.proofs.ClaimSums.{draws_more}
use Rattle.hash_workers.proofs.ClaimLaws.{empties}
use Rattle.hash_workers.proofs.claims.Claims.draw_rest.Goals as goal

pub take_all-requires-clause-draws : goal.take_all-requires-clause-draws
take_all-requires-clause-draws c =
    let same = ap (λ (s : SeatState). s.claims) c.seat.view_is ∙ c.requires ∙ sym c.self.view_is in
    let key = c.self.invariant.2 in
    empties _ _ _ _ (ap (λ (s : ClaimsState). s.jobs) same ∙ sym (ap (λ (a : Allotment). a.jobs) key))
    (ap (λ (s : ClaimsState). s.seats) same ∙ sym (ap (λ (a : Allotment). a.seats) key)) (omega (arith, c.seat.invariant))
    (sym c.seat.invariant.2 ∙ c.if-seat.false)

pub returns-clause-draws : goal.returns-clause-draws
returns-clause-draws c =
    let same = ap (λ (s : SeatState). s.claims) c.seat.view_is ∙ c.requires in
    let jobs = ap (λ (s : ClaimsState). s.jobs) same in
    let drawn = ap (λ (s : SeatState). s.draws) c.seat.view_is in
    let found : ℕ = c.take_all.ensures.drawn.0 in
    let told = c.take_all.ensures.drawn.1 in
    rw (← drawn) (draws_more c.args.self.now.jobs found c.seat.inside.seat.me.0.draws c.take_all.new.seat.me.0.draws
    (ap (λ (v : SeatView). v.draws) told.0
    ∙ ap (λ (n : ℕ). c.seat.inside.seat.me.0.draws ++ range_with_len found (n - found)) jobs) told.2)

use Rattle.std.proofs.Common.{ℕ, ◌<◌, List, [], ◌∷◌, ◌++◌, arith, sym, ap, ◌∙◌}
use Rattle.hash_workers.specs.Names.{ClaimsState, SeatState}
use Rattle.hash_workers.specs.declared.claims.view.Allotment.{Allotment}
use Rattle.hash_workers.specs.declared.claims.view.SeatView.{SeatView}
use Rattle.hash_workers.proofs.ClaimSums.{all_below}
use Rattle.hash_workers.proofs.ClaimLaws.{draws, drawn_below}
use Rattle.hash_workers.proofs.claims.Claims.draw.Goals as goal

pub add_one-found-requires-clause-word : goal.add_one-found-requires-clause-word
add_one-found-requires-clause-word c =
    let same = ap (λ (s : SeatState). s.claims) c.seat.view_is ∙ c.requires ∙ sym c.self.view_is in
    (ap (λ (s : ClaimsState). s.word) same, omega (arith, c.self.invariant.0))

pub add_one-found-requires-clause-draws : goal.add_one-found-requires-clause-draws
add_one-found-requires-clause-draws c =
    let same = ap (λ (s : SeatState). s.claims) c.seat.view_is ∙ c.requires ∙ sym c.self.view_is in
    let key = c.self.invariant.2 in
    draws _ _ _ _ (ap (λ (s : ClaimsState). s.jobs) same ∙ sym (ap (λ (a : Allotment). a.jobs) key))
    (ap (λ (s : ClaimsState). s.seats) same ∙ sym (ap (λ (a : Allotment). a.seats) key)) (omega (arith, c.seat.invariant))
    (sym c.seat.invariant.2 ∙ c.if-seat.false)

pub returns-then-found-from-clause-some : goal.returns-then-found-from-clause-some
returns-then-found-from-clause-some c =
    let same = ap (λ (s : SeatState). s.claims) c.seat.view_is ∙ c.requires ∙ sym c.self.view_is in
    let jobs = ap (λ (s : ClaimsState). s.jobs) same in
    let number : ℕ = c.add_one-found.result in
    let view : SeatView = c.seat.inside.seat.me.0 in
    let below : number < view.jobs = omega (arith, jobs, c.if-found-from.true, c.from.ensures) in
    let told = c.add_one-found.ensures.drawn in
    let drawn = ap (λ (s : SeatState). s.draws) c.seat.view_is in (
      omega (arith, c.if-found-from.true, c.from.ensures, ap (λ (s : ClaimsState). s.jobs) c.self.view_is),
      rw (← drawn) (all_below number view.draws told.2),
      ap (λ (v : SeatView). v.draws) (told.0 ∙ drawn_below view number below) ∙ ap (λ (l : List ℕ). l ++ number ∷ []) drawn,
      sym (ap (λ (s : SeatState). s.ended) c.seat.view_is) ∙ c.if-seat.false,
      c.if-seat.false,
    )

use Rattle.std.proofs.Common.{List, ℕ, inr, refl, subst, sym}
use Rattle.std.proofs.lemmas.Result.{err_from_is_err_and}
use Rattle.boot_log.specs.Names.{IsLog}
use Rattle.confirming.proofs.matches.places_in.Goals as goal

pub returns-clause-matched : goal.returns-clause-matched
returns-clause-matched c =
    let (table, events, is) = c.in_ok-view.ensures.sound in
    let viewed = subst (λ (bytes : List ℕ). IsLog bytes table events) (sym c.in_ok-view.ensures.found) is in
    (table, events, is, c.in_ok-matched_places.ensures.places table events viewed)

pub returns-in_err-matched_places-clause-fault : goal.returns-in_err-matched_places-clause-fault
returns-in_err-matched_places-clause-fault c =
    let p = err_from_is_err_and c.from_residual-in_err-matched_places.result c.from_residual-in_err-matched_places.ensures.1 in
    let (table, events, is) = c.in_ok-view.ensures.sound in
    rw (p.1, p.2) (inr (refl, record { table = table; events = events; log_is = is }))

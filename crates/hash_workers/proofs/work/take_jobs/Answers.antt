use Rattle.std.proofs.Common.{ℕ, List, [], ◌∷◌, ◌++◌, refl, sym, ap, ◌∙◌}
use Rattle.hash_workers.specs.declared.work.End.TheVariants.{NoOperation}
use Rattle.hash_workers.proofs.WorkLaws.{had_more, made_more, unmade_below, rise_more, tells_end, tells_stop, turn_smaller, turn_worked, turn_tells}
use Rattle.hash_workers.proofs.work.take_jobs.Goals as goal

-- The job is above all that the worker took, which is what its seat drew.
pub loop-number-smaller : goal.loop-number-smaller
loop-number-smaller g c =
    let kept = c.loop-number.invariant in
    let drawn = c.in-Some.ensures.some in
    turn_smaller _ _ _ c.in-Some.number kept.rises (rw kept.seat.2 at drawn.1) drawn.0 c.in-Ok-Next.ensures.takes.takes

pub loop-number-preserved : goal.loop-number-preserved
loop-number-preserved g c =
    let kept = c.loop-number.invariant in
    let drawn = c.in-Some.ensures.some in
    let same = c.in-Some.ensures.same in
    let one = c.in-Ok-Next.ensures.takes in
    let stays = c.in-Ok-Next.ensures.same in
    let after = c.in-Ok-Next.ensures.unmade in
    let number : ℕ = c.in-Some.number in
    let above = rw kept.seat.2 at drawn.1 in
    record {
      seat = rw stays.0
          (same.0, same.1 ∙ kept.seat.1, drawn.2 ∙ ap (λ (xs : List ℕ). xs ++ number ∷ []) kept.seat.2 ∙ sym one.takes, drawn.4);
      rises = rise_more _ _ number kept.rises above one.takes;
      worked = turn_worked number _ _ _ _ _ _ _ _ _ one kept.worked;
      had = had_more _ _ _ number _ _ kept.had one.takes (after.had (unmade_below _ _ _ number _ above kept.unmade)) after.before;
      unmade = after.right kept.unmade;
      tells = turn_tells number _ _ _ _ _ _ _ _ _ one _ kept.tells;
      end = stays.1 ∙ kept.end;
      made = made_more _ _ _ _ number kept.made one.takes (rw c.in-Ok-Next.field-0-is at c.in-Ok-Next.ensures.turn);
    }

pub returns-in-Ok-Last-clause-stopped : goal.returns-in-Ok-Last-clause-stopped
returns-in-Ok-Last-clause-stopped g c = λ is. (c.in-Some.number, rw c.in-Ok-Last.field-0-is at c.in-Ok-Last.ensures.turn)

pub returns-in-Err-clause-told : goal.returns-in-Err-clause-told
returns-in-Err-clause-told g c =
    rw (c.in-Err.ensures.refused.0, c.in-Err.ensures.refused.1)
    (tells_stop _ _ _ _ _ _ _ c.in-Err.end c.loop-number.invariant.tells c.in-Err.ensures.takes)

pub returns-in-Ok-Last-clause-taken : goal.returns-in-Ok-Last-clause-taken
returns-in-Ok-Last-clause-taken g c =
    let kept = c.loop-number.invariant in
    rise_more _ _ c.in-Some.number kept.rises (rw kept.seat.2 at c.in-Some.ensures.some.1) c.in-Ok-Last.ensures.takes.takes

pub returns-in-Ok-Last-clause-worked : goal.returns-in-Ok-Last-clause-worked
returns-in-Ok-Last-clause-worked g c =
    turn_worked c.in-Some.number _ _ _ _ _ _ _ _ _ c.in-Ok-Last.ensures.takes c.loop-number.invariant.worked

pub returns-in-Ok-Last-clause-had : goal.returns-in-Ok-Last-clause-had
returns-in-Ok-Last-clause-had g c =
    let kept = c.loop-number.invariant in
    let after = c.in-Ok-Last.ensures.unmade in
    had_more _ _ _ c.in-Some.number _ _ kept.had c.in-Ok-Last.ensures.takes.takes
    (after.had (unmade_below _ _ _ c.in-Some.number _ (rw kept.seat.2 at c.in-Some.ensures.some.1) kept.unmade)) after.before

pub returns-in-Ok-Last-clause-told : goal.returns-in-Ok-Last-clause-told
returns-in-Ok-Last-clause-told g c =
    tells_end _ _ _ _ _ _ _ NoOperation (λ is. cc) refl
    (turn_tells c.in-Some.number _ _ _ _ _ _ _ _ _ c.in-Ok-Last.ensures.takes _ c.loop-number.invariant.tells)

pub returns-in-Err-clause-made : goal.returns-in-Err-clause-made
returns-in-Err-clause-made g c = λ other. rw c.in-Err.ensures.refused.0 c.loop-number.invariant.made

pub returns-in-Err-clause-stopped : goal.returns-in-Err-clause-stopped
returns-in-Err-clause-stopped g c = λ is. absurd (rw is at c.in-Err.ensures.takes)

-- A worker that stops for a fault keeps what it had.
pub returns-in-Err-clause-seat : goal.returns-in-Err-clause-seat
returns-in-Err-clause-seat g c =
    let same = c.in-Some.ensures.same in
    rw c.in-Err.ensures.same.0 (same.0, same.1 ∙ c.loop-number.invariant.seat.1)

pub returns-in-Err-clause-taken : goal.returns-in-Err-clause-taken
returns-in-Err-clause-taken g c = rw c.in-Err.ensures.refused.0 c.loop-number.invariant.rises

pub returns-in-Err-clause-worked : goal.returns-in-Err-clause-worked
returns-in-Err-clause-worked g c = rw (c.in-Err.ensures.refused.0, c.in-Err.ensures.refused.1) c.loop-number.invariant.worked

pub returns-in-Err-clause-had : goal.returns-in-Err-clause-had
returns-in-Err-clause-had g c = rw (c.in-Err.ensures.refused.0, c.in-Err.ensures.refused.2) c.loop-number.invariant.had

pub returns-in-Err-clause-unmade : goal.returns-in-Err-clause-unmade
returns-in-Err-clause-unmade g c = rw (c.in-Err.ensures.refused.0, c.in-Err.ensures.refused.2) c.loop-number.invariant.unmade

pub returns-in-Ok-Last-clause-unmade : goal.returns-in-Ok-Last-clause-unmade
returns-in-Ok-Last-clause-unmade g c = c.in-Ok-Last.ensures.unmade.right c.loop-number.invariant.unmade

pub returns-in-Ok-Last-clause-made : goal.returns-in-Ok-Last-clause-made
returns-in-Ok-Last-clause-made g c = λ other. absurd (other refl)

-- A worker that finds no job left.
pub returns-clause-taken : goal.returns-clause-taken
returns-clause-taken g c = c.loop-number.invariant.rises

pub returns-clause-worked : goal.returns-clause-worked
returns-clause-worked g c = c.loop-number.invariant.worked

pub returns-clause-had : goal.returns-clause-had
returns-clause-had g c = c.loop-number.invariant.had

pub returns-clause-unmade : goal.returns-clause-unmade
returns-clause-unmade g c = c.loop-number.invariant.unmade

pub returns-clause-made : goal.returns-clause-made
returns-clause-made g c = λ other. c.loop-number.invariant.made

pub returns-clause-told : goal.returns-clause-told
returns-clause-told g c = rw c.loop-number.invariant.end c.loop-number.invariant.tells

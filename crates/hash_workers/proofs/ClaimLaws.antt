-- Each step on the claims' word keeps the claim rule.
use Rattle.std.proofs.Common.{◌≡◌, ℕ, suc, ◌+◌, ◌-◌, ◌%◌, ◌<◌, ◌≤◌, ◌⊎◌, max, min, Bool, true, false, cond, ltb, ◌||◌, List, [], ◌∷◌, ◌++◌, get_or, set, map, sym, refl, ap, ◌∙◌, subst, inl, inr, ⊎_elim, arith, length-set, get_or-set_same}
use Rattle.std.specs.List.{concat, range_with_len}
use Rattle.std.proofs.lemmas.Bool.Decides.{nat_tests}
use mathlib.Core.Logic.{dite}
use mathlib.Core.Option.{none, some}
use native.Mathlib.Decide.{dec_le}
use lib.ListN.{get_elem?}
use Rattle.atomic_table.specs.Table.{State, Me, step, keeps, stepped, Allows, Splits, Joins, Final, Seen}
use Rattle.atomic_table.proofs.Lists.{at_set, at_snoc, set_again, set_else}
use Rattle.hash_workers.specs.declared.claims.view.SeatView.{SeatView}
use Rattle.hash_workers.specs.declared.claims.view.Allotment.{Allotment}
use Rattle.hash_workers.specs.Names.{AreClaimed, HandsOutEach, IsViewOf, KeepsRule, Looks, MayDraw, MayDrawAll, drawn_view, emptied_view, ended_places_of, giver, merged, places_of, spent, taker, times, total, view_of}
use Rattle.hash_workers.specs.parts.ClaimRule.{draws_of}
use Rattle.hash_workers.proofs.ClaimSums.{total-set, total-push, total_at, ended_within, times_of, times-append, times-range, times-concat, once_below, below_one_more, is_below, each_once, hands_out}

abbrev Holder : Type 0
Holder = Me (Unit {0}) SeatView

-- ---- draws, as sums over the views

-- How often all seats drew the number.
abbrev drawn_times : ℕ → List SeatView → ℕ
drawn_times number views = total (times_of number) views

counted : (count : ℕ) (views : List SeatView) → HandsOutEach count (concat (map draws_of views)) → (number : ℕ)
    → drawn_times number views ≡ once_below number count
counted count views hands number = sym (times-concat number views) ∙ each_once count (concat (map draws_of views)) hands number

handed : (count : ℕ) (views : List SeatView) → ((number : ℕ) → drawn_times number views ≡ once_below number count)
    → HandsOutEach count (concat (map draws_of views))
handed count views each = hands_out count (concat (map draws_of views)) (λ number. times-concat number views ∙ each number)

-- ---- a draw

pub drawn_below : (view : SeatView) (number : ℕ) → number < view.jobs
    → drawn_view view number ≡ view_of view.jobs view.seats view.places (view.draws ++ number ∷ []) view.ended
drawn_below view number below = let test : ltb number view.jobs ≡ true = grind (arith, nat_tests) in rw test refl

pub drawn_past : (view : SeatView) (number : ℕ) → view.jobs ≤ number
    → drawn_view view number ≡ view_of view.jobs view.seats view.places view.draws true
drawn_past view number past = let test : ltb number view.jobs ≡ false = grind (arith, nat_tests) in rw test refl

-- A view of the claims stays one when the word grows.
later_view : (jobs seats word next : ℕ) (view : SeatView) → word ≤ next → IsViewOf jobs seats word view → IsViewOf jobs seats next view
later_view jobs seats word next view grows (inl is) = inl is
later_view jobs seats word next view grows (inr known) =
    inr (known.0, known.1, known.2, λ ended. let past = known.3 ended in omega arith)

-- The word grows, and one seat's view changes, which then has the numbers from the word on that are drawn.
replaced : (jobs seats word next : ℕ) (views : List SeatView) (seat : ℕ) (view new : SeatView) → AreClaimed jobs seats word views
    → get_elem? views seat ≡ some view → word ≤ next → IsViewOf jobs seats next new → new.places ≡ view.places
    → ((number : ℕ) → times number new.draws + once_below number (min word jobs) ≡ times number view.draws + once_below number (min next jobs))
    → next ≤ jobs + total ended_places_of (set views seat new) → AreClaimed jobs seats next (set views seat new)
replaced jobs seats word next views seat view new rule here grows is same drawn bound = record {
  few = rule.few;
  each = λ other found at. ⊎_elim
      (λ one. subst (IsViewOf jobs seats next) one.1 is)
      (λ old. later_view jobs seats word next found grows (rule.each other found old.1)) (at_set views seat other new found at);
  places = let sums = total-set places_of views seat view new here in let places = rule.places in omega arith;
  drawn = handed (min next jobs) (set views seat new) (λ number.
      let sums = total-set (times_of number) views seat view new here in
      let known = counted (min word jobs) views rule.drawn number in
      let more = drawn number in
      omega arith);
  bound = bound;
}

below_kept : (seats word : ℕ) (views : List SeatView) (seat : ℕ) (view : SeatView) → AreClaimed view.jobs seats word views
    → get_elem? views seat ≡ some view → view.seats ≡ seats → 1 ≤ view.places → view.ended ≡ false → word < view.jobs
    → AreClaimed view.jobs seats (word + 1) (set views seat (view_of view.jobs view.seats view.places (view.draws ++ word ∷ []) view.ended))
below_kept seats word views seat view rule here same placed going below =
    let new : SeatView = view_of view.jobs view.seats view.places (view.draws ++ word ∷ []) view.ended in
    let least : min word view.jobs ≡ word = omega arith in
    let next : min (word + 1) view.jobs ≡ word + 1 = omega arith in
    replaced view.jobs seats word (word + 1) views seat view new rule here (omega arith)
    (inr (refl, same, placed, λ end. absurd (let no = sym going ∙ end in cc))) refl
    (λ number. let longer = times-append number view.draws (word ∷ []) in let more = below_one_more number word in
    rw (least, next) (omega arith))
    (omega arith)

past_kept : (seats word : ℕ) (views : List SeatView) (seat : ℕ) (view : SeatView) → AreClaimed view.jobs seats word views
    → get_elem? views seat ≡ some view → view.seats ≡ seats → 1 ≤ view.places → view.ended ≡ false → view.jobs ≤ word
    → AreClaimed view.jobs seats (word + 1) (set views seat (view_of view.jobs view.seats view.places view.draws true))
past_kept seats word views seat view rule here same placed going past =
    let new : SeatView = view_of view.jobs view.seats view.places view.draws true in
    let least : min word view.jobs ≡ view.jobs = omega arith in
    let next : min (word + 1) view.jobs ≡ view.jobs = omega arith in
    let sums = total-set ended_places_of views seat view new here in
    let bound = rule.bound in
    let no_end : ended_places_of view ≡ 0 = rw going refl in
    replaced view.jobs seats word (word + 1) views seat view new rule here (omega arith) (inr (refl, same, placed, λ _. omega arith)) refl
    (λ number. rw (least, next)) (omega arith)

-- How often a number occurs among those that are left.
left_times : (number jobs word : ℕ)
    → times number (range_with_len word (jobs - word)) + once_below number (min word jobs) ≡ once_below number jobs
left_times number jobs word = dite (dec_le jobs word)
    (λ past.
    let none : jobs - word ≡ 0 = omega arith in
    let least : min word jobs ≡ jobs = omega arith in
    rw (none, least) (omega arith))
    (λ not_past.
    let least : min word jobs ≡ word = omega arith in
    let end : word + (jobs - word) ≡ jobs = omega arith in
    let sums = times-range number word (jobs - word) in
    let last : once_below number (word + (jobs - word)) ≡ once_below number jobs = ap (once_below number) end in
    let first : once_below number (min word jobs) ≡ once_below number word = ap (once_below number) least in
    omega arith)

emptied_kept : (seats word : ℕ) (views : List SeatView) (seat : ℕ) (view : SeatView) → AreClaimed view.jobs seats word views
    → get_elem? views seat ≡ some view → view.seats ≡ seats → 1 ≤ view.places → view.ended ≡ false
    → AreClaimed view.jobs seats (max word view.jobs) (set views seat (emptied_view view word))
emptied_kept seats word views seat view rule here same placed going =
    let new : SeatView = emptied_view view word in
    let next : min (max word view.jobs) view.jobs ≡ view.jobs = omega arith in
    let sums = total-set ended_places_of views seat view new here in
    let bound = rule.bound in
    let no_end : ended_places_of view ≡ 0 = rw going refl in
    replaced view.jobs seats word (max word view.jobs) views seat view new rule here (omega arith)
    (inr (refl, same, placed, λ _. omega arith)) refl
    (λ number. let longer = times-append number view.draws (range_with_len word (view.jobs - word)) in
    let left = left_times number view.jobs word in rw next (omega arith))
    (omega arith)

-- The word never wraps.
never_wraps : (jobs seats word : ℕ) (views : List SeatView) → AreClaimed jobs seats word views
    → (word + 1) % 18446744073709551616 ≡ word + 1
never_wraps jobs seats word views rule =
    let bound = rule.bound in let within = ended_within views in let places = rule.places in let few = rule.few in omega arith

-- What a seat drew is below the word.
drawn_before : (jobs seats word : ℕ) (views : List SeatView) (seat : ℕ) (view : SeatView) → AreClaimed jobs seats word views
    → get_elem? views seat ≡ some view → (number : ℕ) → 1 ≤ times number view.draws → number < word
drawn_before jobs seats word views seat view rule here number drawn =
    let within = total_at (times_of number) views seat view here in
    let known = counted (min word jobs) views rule.drawn number in
    let some_here : 1 ≤ once_below number (min word jobs) = omega arith in
    let below = is_below number (min word jobs) some_here in
    omega arith

module _ (allotment : Allotment) (slots seat : ℕ) (holder : Holder) where
  -- The word and the seat's view change together.
  moved : (state : State (Unit {0}) SeatView) (view : SeatView) (word : ℕ) → KeepsRule allotment state
      → AreClaimed allotment.jobs allotment.seats word (set state.views seat view)
      → KeepsRule allotment (stepped state 0 word seat holder.1 view keeps)
  moved state view word kept rule =
      let one = kept.0 in
      (length-set state.words 0 word ∙ one, rw (get_or-set_same state.words 0 word 0 (omega arith)) rule)

  pub draws : holder.0.jobs ≡ allotment.jobs → holder.0.seats ≡ allotment.seats → 1 ≤ holder.0.places → holder.0.ended ≡ false
      → MayDraw allotment slots seat holder
  draws jobs_are seats_are placed going state kept _ here _ =
      let view : SeatView = holder.0 in
      let word : ℕ = get_or state.words 0 0 in
      let rule : AreClaimed view.jobs allotment.seats word state.views = rw jobs_are kept.1 in
      let At : SeatView → Type 0 = λ v. AreClaimed allotment.jobs allotment.seats (word + 1) (set state.views seat v) in
      let done : At (drawn_view view word) = dite (dec_le view.jobs word)
      (λ past. subst At (sym (drawn_past view word past))
      (rw (← jobs_are) (past_kept allotment.seats word state.views seat view rule here seats_are placed going past)))
      (λ not_past. let below : word < view.jobs = omega arith in
      subst At (sym (drawn_below view word below))
      (rw (← jobs_are) (below_kept allotment.seats word state.views seat view rule here seats_are placed going below))) in
      let To : ℕ → Type 0 = λ n. KeepsRule allotment (stepped state 0 n seat holder.1 (drawn_view view word) keeps) in (
        drawn_view view word,
        keeps,
        tt,
        subst To (sym (never_wraps allotment.jobs allotment.seats word state.views kept.1))
            (moved state (drawn_view view word) (word + 1) kept done),
        (refl, refl, drawn_before allotment.jobs allotment.seats word state.views seat view kept.1 here),
      )

module _ (allotment : Allotment) (slots seat : ℕ) (holder : Holder) where
  pub empties : holder.0.jobs ≡ allotment.jobs → holder.0.seats ≡ allotment.seats → 1 ≤ holder.0.places → holder.0.ended ≡ false
      → MayDrawAll allotment slots seat holder
  empties jobs_are seats_are placed going state kept _ here _ =
      let view : SeatView = holder.0 in
      let word : ℕ = get_or state.words 0 0 in
      let rule : AreClaimed view.jobs allotment.seats word state.views = rw jobs_are kept.1 in
      let Of : ℕ → Type 0 = λ n. AreClaimed n allotment.seats (max word n) (set state.views seat (emptied_view view word)) in
      let done : Of allotment.jobs = subst Of jobs_are (emptied_kept allotment.seats word state.views seat view rule here seats_are placed going) in (
        emptied_view view word,
        keeps,
        tt,
        moved allotment slots seat holder state (emptied_view view word) (max word allotment.jobs) kept done,
        (refl, refl, drawn_before allotment.jobs allotment.seats word state.views seat view kept.1 here),
      )

  unmoved : (state : State (Unit {0}) SeatView) → get_elem? state.views seat ≡ some holder.0 → KeepsRule allotment state
      → KeepsRule allotment (stepped state 0 (get_or state.words 0 0) seat holder.1 holder.0 keeps)
  unmoved state here kept =
      moved allotment slots seat holder state holder.0 (get_or state.words 0 0) kept
      (subst (AreClaimed allotment.jobs allotment.seats (get_or state.words 0 0)) (sym (set_again state.views seat holder.0 here)) kept.1)

  pub looks : holder.0.seats ≡ allotment.seats
      → Allows (KeepsRule allotment) slots seat holder 0 (λ word. word) (Looks (step slots 0 0 0 none) holder)
  looks seats_are state kept _ here _ =
      let within = total_at places_of state.views seat holder.0 here in let places = kept.1.places in
      (holder.0, keeps, tt, unmoved state here kept, (refl, omega arith))

-- ---- a split

cut_places : (view : SeatView) → 2 ≤ view.places → ended_places_of (giver view) + ended_places_of (taker view) ≡ ended_places_of view
cut_places view two = grind (arith, nat_tests)

pub splits : (allotment : Allotment) (seat : ℕ) (view : SeatView) → view.jobs ≡ allotment.jobs → view.seats ≡ allotment.seats
    → 2 ≤ view.places → Splits (KeepsRule allotment) seat view (giver view) (taker view)
splits allotment seat view jobs_are seats_are two state kept here =
    let rule = kept.1 in
    let word : ℕ = get_or state.words 0 0 in
    let views = set state.views seat (giver view) in
    let past : view.ended ≡ true → allotment.jobs ≤ word =
    λ ended. ⊎_elim (λ is. absurd (let no_place : view.places ≡ 0 = ap places_of is in omega arith)) (λ known. known.3 ended)
    (rule.each seat view here) in (
      kept.0,
      record {
        few = rule.few;
        each = λ other found is. ⊎_elim
            (λ old. ⊎_elim (λ at. subst (IsViewOf allotment.jobs allotment.seats word) at.1 (inr (jobs_are, seats_are, omega arith, past))) (λ at. rule.each other found at.1)
            (at_set state.views seat other (giver view) found old))
            (λ new. rw (← new) (inr (jobs_are, seats_are, omega arith, past)))
            (at_snoc views (taker view) found other is);
        places = let cut = total-set places_of state.views seat view (giver view) here in
            let longer = total-push places_of views (taker view) in let places = rule.places in omega arith;
        drawn = handed (min word allotment.jobs) (views ++ taker view ∷ []) (λ number.
            let cut = total-set (times_of number) state.views seat view (giver view) here in
            let longer = total-push (times_of number) views (taker view) in
            let known = counted (min word allotment.jobs) state.views rule.drawn number in
            omega arith);
        bound = let cut = total-set ended_places_of state.views seat view (giver view) here in
            let longer = total-push ended_places_of views (taker view) in
            let bound = rule.bound in let same = cut_places view two in omega arith;
      },
    )

-- ---- a join

both_ended : (one other : Bool) (m n : ℕ) → cond one m 0 + cond other n 0 ≤ cond (one || other) (m + n) 0
both_ended one other m n = grind (arith, nat_tests)

either_ended : (one other : Bool) → (one || other) ≡ true → (one ≡ true) ⊎ (other ≡ true)
either_ended one other is = grind arith

past_of : (jobs seats word : ℕ) (views : List SeatView) (seat : ℕ) (view : SeatView) → AreClaimed jobs seats word views
    → get_elem? views seat ≡ some view → 1 ≤ view.places → view.ended ≡ true → jobs ≤ word
past_of jobs seats word views seat view rule here placed ended =
    ⊎_elim (λ is. absurd (let no_place : view.places ≡ 0 = ap places_of is in omega arith)) (λ known. known.3 ended) (rule.each seat view here)

pub joins : (allotment : Allotment) (seat taken : ℕ) (view other : SeatView) → view.jobs ≡ allotment.jobs → view.seats ≡ allotment.seats
    → 1 ≤ view.places → 1 ≤ other.places → Joins (KeepsRule allotment) seat view taken other (merged view other) spent
joins allotment seat taken view other jobs_are seats_are placed other_placed state kept here apart there =
    let rule = kept.1 in
    let word : ℕ = get_or state.words 0 0 in
    let middle = set state.views seat (merged view other) in
    let before : get_elem? state.views taken ≡ some other = sym (set_else state.views seat taken (merged view other) apart) ∙ there in
    let past : (view.ended || other.ended) ≡ true → allotment.jobs ≤ word =
    λ ended. ⊎_elim (past_of allotment.jobs allotment.seats word state.views seat view rule here placed)
    (past_of allotment.jobs allotment.seats word state.views taken other rule before other_placed)
    (either_ended view.ended other.ended ended) in (
      kept.0,
      record {
        few = rule.few;
        each = λ at_seat found is. ⊎_elim
            (λ at. rw (← at.1) (inl refl))
            (λ old. ⊎_elim (λ at. subst (IsViewOf allotment.jobs allotment.seats word) at.1 (inr (jobs_are, seats_are, omega arith, past))) (λ at. rule.each at_seat found at.1)
            (at_set state.views seat at_seat (merged view other) found old.1))
            (at_set middle taken at_seat spent found is);
        places = let one = total-set places_of state.views seat view (merged view other) here in
            let two = total-set places_of middle taken other spent there in let places = rule.places in omega arith;
        drawn = handed (min word allotment.jobs) (set middle taken spent) (λ number.
            let one = total-set (times_of number) state.views seat view (merged view other) here in
            let two = total-set (times_of number) middle taken other spent there in
            let known = counted (min word allotment.jobs) state.views rule.drawn number in
            let both = times-append number view.draws other.draws in
            omega arith);
        bound = let one = total-set ended_places_of state.views seat view (merged view other) here in
            let two = total-set ended_places_of middle taken other spent there in
            let bound = rule.bound in let both = both_ended view.ended other.ended view.places other.places in omega arith;
      },
    )

-- ---- the end

-- If no view has a place, nothing was drawn.
nothing_drawn : (jobs seats word number : ℕ) (views : List SeatView)
    → ((seat : ℕ) (view : SeatView) → get_elem? views seat ≡ some view → IsViewOf jobs seats word view)
    → total places_of views ≡ 0 → drawn_times number views ≡ 0
nothing_drawn jobs seats word number [] each empty = refl
nothing_drawn jobs seats word number (view ∷ views) each empty =
    let others = nothing_drawn jobs seats word number views (λ seat found is. each (suc seat) found is) (omega arith) in
    let here : times number view.draws ≡ 0 =
    ⊎_elim (λ is. ap (λ (v : SeatView). times number v.draws) is) (λ known. absurd (omega arith)) (each 0 view refl) in
    omega arith

-- A seat that has all places and is ended drew every number.
pub all_drawn : (allotment : Allotment) (seat : ℕ) (view : SeatView) (words : List ℕ) (values : List (Unit {0}))
    → Final (Seen (KeepsRule allotment) seat view) words values → view.places ≡ allotment.seats → view.ended ≡ true
    → HandsOutEach allotment.jobs view.draws
all_drawn allotment seat view words values final all ended =
    let state = final.0 in
    let rule = final.1.0.1 in
    let here = final.1.1 in
    let word : ℕ = get_or state.words 0 0 in
    let few = rule.few in
    let past = past_of allotment.jobs allotment.seats word state.views seat view rule here (omega arith) ended in
    let others = set state.views seat spent in
    let cut = total-set places_of state.views seat view spent here in
    let places = rule.places in
    let empty : total places_of others ≡ 0 = omega arith in
    let each : (at_seat : ℕ) (found : SeatView) → get_elem? others at_seat ≡ some found → IsViewOf allotment.jobs allotment.seats word found =
    λ at_seat found is. ⊎_elim (λ at. rw (← at.1) (inl refl)) (λ at. rule.each at_seat found at.1)
    (at_set state.views seat at_seat spent found is) in
    let least : min word allotment.jobs ≡ allotment.jobs = omega arith in
    let drawn = rw least at rule.drawn in
    hands_out allotment.jobs view.draws (λ number.
    let sums = total-set (times_of number) state.views seat view spent here in
    let known = counted allotment.jobs state.views drawn number in
    let quiet = nothing_drawn allotment.jobs allotment.seats word number others each empty in
    omega arith)

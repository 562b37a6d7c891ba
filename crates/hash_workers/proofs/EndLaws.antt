-- Whether some worker ended for a reason, and the first job without an operation.
use Rattle.std.proofs.Common.{◌≡◌, ◌≢◌, ℕ, ◌+◌, ◌<◌, Bool, true, false, List, length, get_or, Option, None, Some, refl, sym, ◌∙◌, ap, inl, inr, arith}
use Rattle.std.specs.Prelude.{slice_get, IfSome}
use Rattle.std.proofs.lemmas.Bool.{cases_lt, true≢false}
use Rattle.std.proofs.lemmas.Option.{same_Some, slice_get_read}
use Rattle.std.proofs.Math.Nat.{le_refl}
use denote.Enum.Bare.{sameb, same_true, true_same}
use Rattle.hash_workers.specs.contracts.work.End as ends
use Rattle.hash_workers.specs.declared.work.End.{End}
use Rattle.hash_workers.specs.declared.work.Work.{Work}
use Rattle.hash_workers.specs.declared.work.Unmade.{Unmade}
use Rattle.hash_workers.specs.Names.{HasEnd, HasNoEnd, HasUnmade, IsEarlier, IsFrom, IsLeastUnmade}

pub has_end_here : (works : List Work) (end : End) (i : ℕ) (work : Work) (b : Bool) → i < length works → work ≡ get_or works i work
    → b ≡ sameb ends.the_type work.end end → b ≡ true → HasEnd works end
has_end_here works end i work b within is test passes = record {
  worker = i;
  work = work;
  stands = slice_get_read works (length works) i work refl within is;
  ends = same_true ends.the_type tt work.end end (sym test ∙ passes);
}

pub no_end_more : (works : List Work) (end : End) (i : ℕ) (work : Work) (b : Bool) → i < length works → work ≡ get_or works i work
    → b ≡ sameb ends.the_type work.end end → b ≡ false → HasNoEnd works end i → HasNoEnd works end (i + 1)
no_end_more works end i work b within is test fails none = record {
  each = λ worker other below has. elim (cases_lt worker i) [
    | inl less ↦ none.each worker other less has
    | inr more ↦ λ ends_so.
        let same : worker ≡ i = omega arith in
        let here = slice_get_read works (length works) i work refl within is in
        let one : work ≡ other = same_Some work other (sym here ∙ ap (slice_get works) (sym same) ∙ has) in
        true≢false (sym (true_same ends.the_type work.end end (ap (λ (w : Work). w.end) one ∙ ends_so)) ∙ (sym test ∙ fails))
  ];
}

-- ---- the first unmade job

pub some_unmade : (first : Option Unmade) → first ≢ None → (unmade : Unmade) × (first ≡ Some unmade)
some_unmade None is = absurd (is refl)
some_unmade (Some unmade) is = (unmade, refl)

earlier_old : (old here new : Option Unmade) (job : ℕ) → IsEarlier old here new → IsFrom old job → IsFrom new job
earlier_old None here new job is from = absurd from
earlier_old (Some one) None new job is from = rw is from
earlier_old (Some one) (Some other) new job (inl is) from = rw is.0 from
earlier_old (Some one) (Some other) new job (inr is) from = rw is.0 (omega (arith, is.1))

earlier_here : (old new : Option Unmade) (unmade : Unmade) → IsEarlier old (Some unmade) new → IsFrom new unmade.job
earlier_here None new unmade is = rw is (le_refl unmade.job)
earlier_here (Some one) new unmade (inl is) = rw is.0 is.1
earlier_here (Some one) new unmade (inr is) = rw is.0 (le_refl unmade.job)

unmade_here : (works : List Work) (i : ℕ) (work : Work) (unmade : Option Unmade) → slice_get works i ≡ Some work → work.unmade ≡ unmade
    → IfSome unmade (HasUnmade works)
unmade_here works i work None stands is = tt
unmade_here works i work (Some unmade) stands is = record { worker = i; work = work; stands = stands; has = is }

earlier_has : (works : List Work) (old here new : Option Unmade) → IsEarlier old here new → IfSome old (HasUnmade works)
    → IfSome here (HasUnmade works) → IfSome new (HasUnmade works)
earlier_has works None here new is has also = rw is also
earlier_has works (Some one) None new is has also = rw is has
earlier_has works (Some one) (Some other) new (inl is) has also = rw is.0 has
earlier_has works (Some one) (Some other) new (inr is) has also = rw is.0 also

pub least_more : (works : List Work) (i : ℕ) (work : Work) (old new : Option Unmade) → i < length works → work ≡ get_or works i work
    → IsEarlier old work.unmade new → IsLeastUnmade works i old → IsLeastUnmade works (i + 1) new
least_more works i work old new within is earlier least =
    let here = slice_get_read works (length works) i work refl within is in
    record {
      some = earlier_has works old work.unmade new earlier least.some (unmade_here works i work work.unmade here refl);
      none_before = λ worker other unmade below has fails. elim (cases_lt worker i) [
        | inl less ↦ earlier_old old work.unmade new unmade.job earlier (least.none_before worker other unmade less has fails)
        | inr more ↦
            let same : worker ≡ i = omega arith in
            let one : work ≡ other = same_Some work other (sym here ∙ ap (slice_get works) (sym same) ∙ has) in
            earlier_here old new unmade (rw (ap (λ (w : Work). w.unmade) one ∙ fails) at earlier)
      ];
    }

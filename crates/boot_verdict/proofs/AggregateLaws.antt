-- Where a boot aggregate is an older kernel's, and where it is good.
use Rattle.std.proofs.Common.{◌≡◌, ℕ, Bool, true, false, cond, List, Option, None, Some, refl}
use Rattle.std.specs.Prelude.{bytes_eq}
use Rattle.pcr_banks.specs.declared.alg.Alg.{Alg}
use Rattle.pcr_banks.specs.declared.sets.AlgSet.{AlgSet}
use Rattle.boot_log.specs.Names.{LogEvent}
use Rattle.ima_list.specs.Names.{ListEntry}
use Rattle.boot_verdict.specs.declared.aggregate_rule.AggregateRule.{AggregateRule}
use Rattle.boot_verdict.specs.declared.report.Aggregate.{Aggregate}
use Rattle.boot_verdict.specs.declared.report.Aggregate.TheVariants.{Good, Wrong, NoBank, Missing, Old}
use Rattle.boot_verdict.specs.Names.{aggregate_of, aggregate_state, aggregate_under, booted_aggregate, is_old, or_old, pcr_after_log, recorded_aggregate, taken_by, told_aggregate}

-- Compared with the registers after the log alone, no aggregate is an older kernel's.
never_old : (algs : AlgSet) (events : List LogEvent) (taken : Option (Alg × List ℕ)) → aggregate_of algs events taken ≡ Old → ⊥
never_old algs events None e = absurd cc
never_old algs events (Some recorded) e = by (booted_aggregate algs events recorded.0) e
  where
    by_state : (same : Bool) → cond same Good Wrong ≡ Old → ⊥
    by_state true e = absurd cc
    by_state false e = absurd cc

    by : (value : Option (List ℕ)) → aggregate_state recorded.1 value ≡ Old → ⊥
    by None e = absurd cc
    by (Some value) e = by_state (bytes_eq recorded.1 value) e

-- One that becomes so is an older kernel's where that is taken.
became_old : (takes_old is_old : Bool) (state : Aggregate) → (state ≡ Old → ⊥) → or_old takes_old is_old state ≡ Old
    → (takes_old ≡ true) × (is_old ≡ true)
became_old true true state other e = (refl, refl)
became_old true false Good other e = absurd cc
became_old true false Wrong other e = absurd cc
became_old true false NoBank other e = absurd cc
became_old true false Missing other e = absurd cc
became_old true false Old other e = absurd (other refl)
became_old false is_old Good other e = absurd cc
became_old false is_old Wrong other e = absurd cc
became_old false is_old NoBank other e = absurd cc
became_old false is_old Missing other e = absurd cc
became_old false is_old Old other e = absurd (other refl)

-- None becomes good.
stayed_good : (takes_old is_old : Bool) (state : Aggregate) → or_old takes_old is_old state ≡ Good → or_old false is_old state ≡ Good
stayed_good takes_old is_old Good e = refl
stayed_good true true Wrong e = absurd cc
stayed_good true false Wrong e = absurd cc
stayed_good false is_old Wrong e = absurd cc
stayed_good takes_old is_old NoBank e = absurd (not_good takes_old is_old e)
  where
    not_good : (takes_old is_old : Bool) → or_old takes_old is_old NoBank ≡ Good → ⊥
    not_good true true e = cc
    not_good true false e = cc
    not_good false is_old e = cc
stayed_good takes_old is_old Missing e = absurd (not_good takes_old is_old e)
  where
    not_good : (takes_old is_old : Bool) → or_old takes_old is_old Missing ≡ Good → ⊥
    not_good true true e = cc
    not_good true false e = cc
    not_good false is_old e = cc
stayed_good takes_old is_old Old e = absurd (not_good takes_old is_old e)
  where
    not_good : (takes_old is_old : Bool) → or_old takes_old is_old Old ≡ Good → ⊥
    not_good true true e = cc
    not_good true false e = cc
    not_good false is_old e = cc

pub taken_as_old : (rule : AggregateRule) (algs : AlgSet) (events : List LogEvent) (entries : List ListEntry)
    → aggregate_under rule algs events entries ≡ Old
    → (rule.old_kernel ≡ true)
    × (is_old (pcr_after_log algs events) (taken_by rule (recorded_aggregate entries) (told_aggregate entries)) ≡ true)
taken_as_old rule algs events entries e =
    let taken = taken_by rule (recorded_aggregate entries) (told_aggregate entries) in
    became_old rule.old_kernel (is_old (pcr_after_log algs events) taken) (aggregate_of algs events taken) (never_old algs events taken) e

pub good_by_any : (wide old_kernel : Bool) (algs : AlgSet) (events : List LogEvent) (entries : List ListEntry)
    → aggregate_under (record { wide = wide; old_kernel = old_kernel }) algs events entries ≡ Good
    → aggregate_under (record { wide = wide; old_kernel = false }) algs events entries ≡ Good
good_by_any wide old_kernel algs events entries e =
    let taken = taken_by (record { wide = wide; old_kernel = old_kernel }) (recorded_aggregate entries) (told_aggregate entries) in
    stayed_good old_kernel (is_old (pcr_after_log algs events) taken) (aggregate_of algs events taken) e

-- What the events of register 7 tell of Secure Boot.
use Rattle.std.proofs.Common.{◌≡◌, ℕ, List, [], ◌∷◌, ◌++◌, Some, refl, sym, ap, subst, ◌∙◌, arith}
use Rattle.std.specs.List.{AllByRecursion}
use Rattle.pcr_banks.specs.declared.alg.Alg.{Alg}
use Rattle.boot_log.specs.Names.{LogEvent}
use Rattle.event_data.proofs.FormLaws.{one_variable}
use Rattle.measured_data.specs.declared.measured.Part.TheVariants.{Whole}
use Rattle.measured_data.specs.declared.confirmed.Pcr.{Pcr}
use Rattle.measured_data.specs.Measuring.{IsMeasured}
use Rattle.measured_data.specs.Confirming.{IsAnswering}
use Rattle.boot_answers.specs.declared.secure_boot_state.SecureBoot.{SecureBoot}
use Rattle.boot_answers.specs.declared.secure_boot_state.SecureBoot.TheVariants.{On, Off, Unknown}
use Rattle.boot_answers.specs.Extending.{extended_events}
use Rattle.boot_answers.specs.SecureBoot.{IsBefore, IsSecureBoot, IsSecureBootVariable, IsTelling, TellsSecureBoot, policy_register}
use Rattle.boot_answers.specs.parts.SecureBoot.{AllAgree, Ends, IsOf, IsToldIn}
use Rattle.boot_answers.proofs.EventLaws.{no_end, one_end}

-- ---- answers of a value

pub of_same : (P Q : ℕ → Type 0) → ((n : ℕ) → P n → Q n) → ((n : ℕ) → Q n → P n) → (answer : SecureBoot) → IsOf P answer → IsOf Q answer
of_same P Q to from On is = to 1 is
of_same P Q to from Off is = to 0 is
of_same P Q to from Unknown is = (λ q. is.0 (from 1 q), λ q. is.1 (from 0 q))

-- ---- one event

some_is : {A : Type 0} (x y : A) → Some x ≡ Some y → x ≡ y
some_is x y e = cc

-- What tells does not come before what tells.
pub telling_is_last : (alg : Alg) (event : LogEvent) (value : List ℕ) → IsSecureBootVariable event.payload value → IsBefore alg event → ⊥
telling_is_last alg event value variable before = before.other value variable

pub ends_of : (alg : Alg) (event : LogEvent) (value : List ℕ) (answer : SecureBoot) → IsMeasured alg event Whole
    → IsSecureBootVariable event.payload value
    → ((other : List ℕ) → IsSecureBootVariable event.payload other → Some value ≡ Some other)
    → IsOf (λ byte. value ≡ byte ∷ []) answer → Ends alg event answer
ends_of alg event value answer measured variable only said = record {
  last = λ before. before.other value variable;
  told = of_same (λ byte. value ≡ byte ∷ []) (IsTelling alg event)
      (λ n is. record { measured = measured; variable = subst (IsSecureBootVariable event.payload) is variable })
      (λ n telling. some_is value (n ∷ []) (only (n ∷ []) telling.variable)) answer said;
}

-- ---- one bank

pub told_at : (alg : Alg) (events given later : List LogEvent) (event : LogEvent) (answer : SecureBoot)
    → extended_events policy_register events ≡ given ++ event ∷ later → AllByRecursion (IsBefore alg) given → Ends alg event answer
    → IsToldIn alg events answer
told_at alg events given later event answer parts passed ends =
    of_same (IsTelling alg event) (TellsSecureBoot alg events)
    (λ n telling. record { before = given; event = event; after = later; parts = parts; passed = passed; telling = telling })
    (λ n tells.
    let same = one_end (IsBefore alg) given tells.before event tells.event later tells.after passed ends.last tells.passed
    (telling_is_last alg tells.event (n ∷ []) tells.telling.variable) (sym parts ∙ tells.parts) in
    subst (λ (e : LogEvent). IsTelling alg e n) (sym same.ends) tells.telling)
    answer ends.told

pub told_nowhere : (alg : Alg) (events given : List LogEvent) (value : ℕ) → extended_events policy_register events ≡ given
    → AllByRecursion (IsBefore alg) given → TellsSecureBoot alg events value → ⊥
told_nowhere alg events given value are passed tells =
    no_end (IsBefore alg) given tells.before tells.event tells.after passed
    (telling_is_last alg tells.event (value ∷ []) tells.telling.variable) (sym are ∙ tells.parts)

-- ---- one value

pub one_value : (bytes : List ℕ) (value other : ℕ) → IsSecureBootVariable bytes (value ∷ []) → IsSecureBootVariable bytes (other ∷ [])
    → value ≡ other
one_value bytes value other is is_too =
    let same = ap (λ v. v.value) (one_variable bytes _ _ is is_too) in
    cc

-- An event that is not SecureBoot, whatever the bank.
abbrev pub IsNoVariable : LogEvent → Type 0
IsNoVariable event = (value : List ℕ) → IsSecureBootVariable event.payload value → ⊥

no_variables : (alg : Alg) (events : List LogEvent) → AllByRecursion (IsBefore alg) events → AllByRecursion IsNoVariable events
no_variables alg [] all = tt
no_variables alg (event ∷ events) all = (all.0.other, no_variables alg events all.1)

-- A log tells one value, in whatever banks.
pub one_told : (alg another : Alg) (events : List LogEvent) (value other : ℕ) → TellsSecureBoot alg events value
    → TellsSecureBoot another events other → value ≡ other
one_told alg another events value other tells tells_too =
    let same = one_end IsNoVariable tells.before tells_too.before tells.event tells_too.event tells.after tells_too.after
    (no_variables alg tells.before tells.passed) (λ none. none (value ∷ []) tells.telling.variable)
    (no_variables another tells_too.before tells_too.passed) (λ none. none (other ∷ []) tells_too.telling.variable)
    (sym tells.parts ∙ tells_too.parts) in
    one_value tells.event.payload value other tells.telling.variable
    (subst (λ (e : LogEvent). IsSecureBootVariable e.payload (other ∷ [])) (sym same.ends) tells_too.telling.variable)

not_both : (alg : Alg) (events : List LogEvent) → TellsSecureBoot alg events 1 → TellsSecureBoot alg events 0 → ⊥
not_both alg events on off = absurd (omega (arith, one_told alg alg events 1 0 on off))

-- A bank gives one answer.
pub one_told_in : (alg : Alg) (events : List LogEvent) (answer other : SecureBoot) → IsToldIn alg events answer → IsToldIn alg events other
    → answer ≡ other
one_told_in alg events On On is is_too = refl
one_told_in alg events On Off is is_too = absurd (not_both alg events is is_too)
one_told_in alg events On Unknown is is_too = absurd (is_too.0 is)
one_told_in alg events Off On is is_too = absurd (not_both alg events is_too is)
one_told_in alg events Off Off is is_too = refl
one_told_in alg events Off Unknown is is_too = absurd (is_too.1 is)
one_told_in alg events Unknown On is is_too = absurd (is.0 is_too)
one_told_in alg events Unknown Off is is_too = absurd (is.1 is_too)
one_told_in alg events Unknown Unknown is is_too = refl

-- ---- all banks

pub told_by_all : (matched : List Pcr) (alg : Alg) (events : List LogEvent) (answer : SecureBoot)
    → IsAnswering matched alg policy_register → AllAgree matched events answer → IsSecureBoot matched events answer
told_by_all matched alg events On answering agree = record { alg = alg; answering = answering; tells = agree }
told_by_all matched alg events Off answering agree = record { alg = alg; answering = answering; tells = agree }
told_by_all matched alg events Unknown answering agree = (
  λ told. (agree alg answering).0 (told.tells alg answering),
  λ told. (agree alg answering).1 (told.tells alg answering),
)

-- Where a bank gives an answer that not all give, none is told.
pub told_by_some : (matched : List Pcr) (alg : Alg) (events : List LogEvent) (answer : SecureBoot)
    → IsAnswering matched alg policy_register → IsToldIn alg events answer → (AllAgree matched events answer → ⊥)
    → IsSecureBoot matched events Unknown
told_by_some matched alg events answer answering is disagree = (
  λ told. disagree (subst (AllAgree matched events) (one_told_in alg events On answer (told.tells alg answering) is) told.tells),
  λ told. disagree (subst (AllAgree matched events) (one_told_in alg events Off answer (told.tells alg answering) is) told.tells),
)

pub told_by_none : (matched : List Pcr) (events : List LogEvent) → ((alg : Alg) → IsAnswering matched alg policy_register → ⊥)
    → IsSecureBoot matched events Unknown
told_by_none matched events none = (λ told. none told.alg told.answering, λ told. none told.alg told.answering)

-- The judgement: what holds where there is no cause against it.
use Rattle.std.proofs.Common.{◌≡◌, ℕ, zero, suc, ◌+◌, ◌<◌, ◌≤◌, Bool, true, false, cond, nat_lt, not, ◌&&◌, List, [], ◌∷◌, length, Option, Some, None, Ok, refl, ap, subst, ◌∙◌, arith, inl, inr}
use Rattle.std.specs.Prelude.{bytes_eq, find, is_some, option_map, option_and_then}
use Rattle.std.specs.Option.{option_or}
use Rattle.std.specs.List.{range_with_len, AllByRecursion}
use Rattle.std.proofs.lemmas.Bool.{not-false}
use Rattle.std.proofs.lemmas.Bool.Decides.{eqb_tells}
use Rattle.std.proofs.lemmas.Slice.Eq.{bytes_eq-Decides}
use Rattle.pcr_banks.specs.declared.alg.Alg.{Alg}
use Rattle.pcr_banks.specs.declared.alg.Alg.TheVariants.{Sha1}
use Rattle.pcr_banks.specs.declared.banks.Banks.{Banks}
use Rattle.pcr_banks.specs.declared.sets.AlgSet.{AlgSet}
use Rattle.pcr_banks.specs.Names.{all_algs, extended_by_all, register_count, value_at}
use Rattle.pcr_banks.proofs.AlgLaws.{every_alg}
use Rattle.pcr_values.specs.declared.selection.BankRange.{BankRange}
use Rattle.pcr_values.specs.Names.{names}
use Rattle.boot_log.specs.declared.header.DeclaredAlgorithm.{DeclaredAlgorithm}
use Rattle.boot_log.specs.Names.{IsFirmware, IsLog, LogEvent, algs_in}
use Rattle.ima_list.specs.Names.{AreGenuine, IsReading, IsReplayed, ListEntry, digests_of}
use Rattle.boot_verdict.specs.declared.report.Aggregate.{Aggregate}
use Rattle.boot_verdict.specs.declared.report.Aggregate.TheVariants.{Good, Wrong, NoBank, Missing, Old}
use Rattle.boot_verdict.specs.declared.verifier.VerifyFault.{VerifyFault}
use Rattle.boot_verdict.specs.declared.verifier.VerifyFault.TheVariants as verdicts
use Rattle.boot_verdict.specs.Names.{IsVerifyFault, aggregate_of, aggregate_state, aggregate_under, booted_aggregate, first_extending, first_stray, is_good, is_old, or_old, pcr_after_log, pcr_after_log_and_list, recorded_aggregate, taken_by, told_aggregate}
use Rattle.tpm_quotes.specs.Spelling.{BankSelection, IsQuote, TpmQuote, all_registers, selects}
use Rattle.tpm_quotes.specs.Quoting.{confirms}
use Rattle.attestations.specs.Kept.{HaveSame}
use Rattle.attestations.proofs.KeptLaws.{confirms_same}
use Rattle.attestations.specs.declared.attested.Cause.TheVariants.{BadAggregate, Differs}
use Rattle.attestations.specs.declared.policy.PolicyFault.{PolicyFault}
use Rattle.attestations.specs.declared.policy.PolicyFault.TheVariants.{ShortNonce, NotRequired, OnlySha1}
use Rattle.attestations.specs.declared.policy.QuoteRefusal.{QuoteRefusal}
use Rattle.attestations.specs.declared.policy.QuoteRefusal.TheVariants as refusals
use Rattle.attestations.specs.declared.policy.QuoteRefusal.TheVariants.{OtherNonce, NotSelected}
use Rattle.attestations.specs.Policies.{AreSound, Terms, first_unnamed, first_unselected, first_weak, is_named, is_named_beside_sha1, policy_fault, unselected_in}
use Rattle.attestations.specs.Judging.{Attestation, attestation_on, cause_against, cause_in_extends, cause_in_registers, quote_refusal}
use Rattle.attestations.specs.Attesting.{IsAttested, IsBootFault, IsQuoteRefusal, IsRefusedFor}
use Rattle.boot_verdict.proofs.IsolationLaws.{list_is_apart, log_is_apart}

-- ---- options that are none

pub some_not_none : {A : Type 0} (x : A) → Some x ≡ None → ⊥
some_not_none x e = cc

or_none : {A : Type 0} (a b : Option A) → option_or a b ≡ None → (a ≡ None) × (b ≡ None)
or_none None b e = (refl, e)
or_none (Some x) b e = absurd cc

map_none : {A B : Type 0} (f : A → B) (a : Option A) → option_map f a ≡ None → a ≡ None
map_none f None e = refl
map_none f (Some x) e = absurd cc

guard_none : {A : Type 0} (b : Bool) (x : A) (rest : Option A) → cond (not b) (Some x) rest ≡ None → (b ≡ true) × (rest ≡ None)
guard_none true x rest e = (refl, e)
guard_none false x rest e = absurd cc

if_none : {A : Type 0} (b : Bool) (x : A) (rest : Option A) → cond b (Some x) rest ≡ None → (b ≡ false) × (rest ≡ None)
if_none true x rest e = absurd cc
if_none false x rest e = (refl, e)

-- ---- the terms

at_least : (n m : ℕ) → nat_lt n m ≡ false → m ≤ n
at_least n m e = grind (arith, e)

weak_none : (b : Bool) (weak : Option PolicyFault) → cond b None weak ≡ None → b ≡ false → weak ≡ None
weak_none true weak e is = absurd cc
weak_none false weak e is = e

and_not : (a b : Bool) → (a && not b) ≡ false → a ≡ true → b ≡ true
and_not true true e is = refl
and_not true false e is = absurd cc
and_not false b e is = absurd cc

none_in_range : (p : ℕ → Bool) (a n : ℕ) → find p (range_with_len a n) ≡ None → (r : ℕ) → a ≤ r → r < a + n → p r ≡ false
none_in_range p a zero e r low high = absurd (omega arith)
none_in_range p a (suc n) e r low high =
    let both = if_none (p a) a (find p (range_with_len (a + 1) n)) e in
    elim (eqb_tells a r) [
      | inl same ↦ rw (← same.1) both.0
      | inr other ↦ let apart = other.1 in none_in_range p (a + 1) n both.1 r (omega arith) (omega arith)
    ]

pub sound_terms : (terms : Terms) → policy_fault terms ≡ None → AreSound terms
unfolding all_registers
sound_terms terms e =
    let long = if_none (nat_lt (length terms.nonce) 16) ShortNonce _ e in
    let rest = or_none (option_map NotRequired (first_unnamed terms.required)) _ long.1 in
    let unnamed = map_none NotRequired (first_unnamed terms.required) rest.0 in
    record {
      long = at_least (length terms.nonce) 16 long.0;
      named = λ register le.
          not-false (is_named terms.required register)
          (none_in_range (λ r. not (is_named terms.required r)) 0 11 unnamed register (omega arith) (omega (arith, le)));
      strong = λ unless register lt here.
          let weak = map_none OnlySha1 (first_weak terms.required) (weak_none terms.takes_sha1 _ rest.1 unless) in
          and_not (names terms.required Sha1 register) (is_named_beside_sha1 terms.required register)
          (none_in_range (λ r. names terms.required Sha1 r && not (is_named_beside_sha1 terms.required r)) 0 24 weak register (omega arith)
          (omega (arith, lt))) here;
    }

-- ---- which registers are selected

unselected_nowhere : (required : List BankRange) (selections : List BankSelection) (alg : Alg) → unselected_in required selections alg ≡ None
    → (register : ℕ) → register < register_count → names required alg register ≡ true → selects selections alg register ≡ true
unfolding all_registers
unselected_nowhere required selections alg e register lt named =
    and_not (names required alg register) (selects selections alg register)
    (none_in_range (λ r. names required alg r && not (selects selections alg r)) 0 24 e register (omega arith) (omega arith)) named

-- The algorithm with what is found for it.
abbrev found_with : (Alg → Option ℕ) → Alg → Option (Alg × ℕ)
found_with f alg = option_map (λ register. (alg, register)) (f alg)

one_none : (f : Alg → Option ℕ) (alg : Alg) (here : Option ℕ) (rest : Option Alg) → f alg ≡ here
    → option_and_then (found_with f) (cond (is_some here) (Some alg) rest) ≡ None → (here ≡ None) × (option_and_then (found_with f) rest ≡ None)
one_none f alg None rest is e = (refl, e)
one_none f alg (Some register) rest is e =
    absurd (some_not_none (alg, register) (rw is at e))

each_none : (f : Alg → Option ℕ) (algs : List Alg) → option_and_then (found_with f) (find (λ alg. is_some (f alg)) algs) ≡ None
    → AllByRecursion (λ alg. f alg ≡ None) algs
each_none f [] e = tt
each_none f (alg ∷ algs) e =
    let both = one_none f alg (f alg) (find (λ alg. is_some (f alg)) algs) refl e in (both.0, each_none f algs both.1)

pub covers : (required : List BankRange) (selections : List BankSelection) → first_unselected required selections ≡ None
    → (alg : Alg) (register : ℕ) → register < register_count → names required alg register ≡ true → selects selections alg register ≡ true
covers required selections e alg register lt named =
    unselected_nowhere required selections alg
    (every_alg (λ alg. unselected_in required selections alg ≡ None) (each_none (unselected_in required selections) all_algs e) alg)
    register lt named

-- ---- the aggregate

-- A good state is an older kernel's only if that is taken.
newly : (old_kernel booted_old : Bool) (state : Aggregate) → (state ≡ Old → ⊥) → is_good (or_old old_kernel booted_old state) ≡ true → old_kernel ≡ false
    → or_old old_kernel booted_old state ≡ Good
newly false booted_old Good other e plain = refl
newly false booted_old Wrong other e plain = absurd cc
newly false booted_old NoBank other e plain = absurd cc
newly false booted_old Missing other e plain = absurd cc
newly false booted_old Old other e plain = absurd (other refl)
newly true booted_old state other e plain = absurd cc

-- By the plain rule none is an older kernel's.
never_old : (algs : AlgSet) (events : List LogEvent) (recorded : Option (Alg × List ℕ)) → aggregate_of algs events recorded ≡ Old → ⊥
never_old algs events None e = absurd cc
never_old algs events (Some recorded) e = by (booted_aggregate algs events recorded.0) e
  where
    by_state : (same : Bool) → cond same Good Wrong ≡ Old → ⊥
    by_state true e = absurd cc
    by_state false e = absurd cc

    by : (value : Option (List ℕ)) → aggregate_state recorded.1 value ≡ Old → ⊥
    by None e = absurd cc
    by (Some value) e = by_state (bytes_eq recorded.1 value) e

-- ---- the judgement

pub attested_by : (log list message : List ℕ) (terms : Terms) (table : List DeclaredAlgorithm) (events : List LogEvent) (entries : List ListEntry)
    (quote : TpmQuote) (known : Attestation) → policy_fault terms ≡ None → IsQuote message quote → quote_refusal quote terms ≡ None
    → IsLog log table events → IsReading list (Ok entries) → AreGenuine entries → cause_against terms.rule (algs_in table) events entries quote ≡ None
    → known ≡ attestation_on terms.rule (algs_in table) events entries quote → IsAttested log list message terms known
attested_by log list message terms table events entries quote known sound message_is taken log_is list_is genuine none known_is =
    let nonce = guard_none (bytes_eq quote.nonce terms.nonce) OtherNonce _ taken in
    let chosen = map_none _ (first_unselected terms.required quote.selections) nonce.1 in
    let extends = or_none (cause_in_extends events entries) (cause_in_registers terms.rule (algs_in table) events entries quote) none in
    let apart = or_none _ _ extends.0 in
    let log_apart = map_none _ (first_extending events) apart.0 in
    let list_apart = map_none _ (first_stray entries) apart.1 in
    let aggregate = guard_none (is_good (aggregate_under terms.rule (algs_in table) events entries)) BadAggregate _ extends.1 in
    let recorded = taken_by terms.rule (recorded_aggregate entries) (told_aggregate entries) in
    let same = guard_none (confirms quote (pcr_after_log_and_list (algs_in table) events entries)) Differs None aggregate.1 in
    record {
      table = table;
      events = events;
      entries = entries;
      quote = quote;
      log_is = log_is;
      list_is = list_is;
      genuine = genuine;
      message_is = message_is;
      sound = sound_terms terms sound;
      nonce_is = (bytes_eq-Decides quote.nonce terms.nonce).0 nonce.0;
      covered = covers terms.required quote.selections chosen;
      log_apart = log_is_apart 1 events log_apart;
      list_apart = list_is_apart 0 entries list_apart;
      aggregate = aggregate.0;
      newly = newly terms.rule.old_kernel (is_old (pcr_after_log (algs_in table) events) recorded) (aggregate_of (algs_in table) events recorded)
          (never_old (algs_in table) events recorded) aggregate.0;
      confirmed = same.0;
      attestation_is = known_is;
    }

-- ---- the first reason

pub found_first : {A B : Type 0} (f : A → B) (found : Option A) (rest : Option B) (x : A) → Some x ≡ found
    → Some (f x) ≡ option_or (option_map f found) rest
found_first f found rest x is = ap (λ o. option_or (option_map f o) rest) is

pub found_next : {A B : Type 0} (f : A → B) (found : Option A) (rest result : Option B) → None ≡ found → result ≡ rest
    → result ≡ option_or (option_map f found) rest
found_next f found rest result none is = is ∙ ap (λ o. option_or (option_map f o) rest) none

-- A refusal of a quote that is not the one that is asked for.
abbrev IsOwn : QuoteRefusal → Type 0
IsOwn refusals.OtherNonce = Unit {0}
IsOwn (refusals.NotSelected alg register) = Unit {0}
IsOwn (refusals.Message fault) = ⊥

same_refusal : (first second : QuoteRefusal) → Some first ≡ Some second → first ≡ second
same_refusal first second e = cc

own : (fresh : Bool) (chosen : Option (Alg × ℕ)) (refusal : QuoteRefusal)
    → cond (not fresh) (Some OtherNonce) (option_map (λ at. NotSelected at.0 at.1) chosen) ≡ Some refusal → IsOwn refusal
own false chosen refusal e = subst IsOwn (same_refusal OtherNonce refusal e) tt
own true (Some at) refusal e = subst IsOwn (same_refusal (NotSelected at.0 at.1) refusal e) tt
own true None refusal e = absurd cc

pub refused_by : (message : List ℕ) (terms : Terms) (quote : TpmQuote) (refusal : QuoteRefusal) → IsQuote message quote
    → quote_refusal quote terms ≡ Some refusal → IsQuoteRefusal message terms refusal
refused_by message terms quote refusal message_is refused =
    by refusal (own (bytes_eq quote.nonce terms.nonce) (first_unselected terms.required quote.selections) refusal refused)
    (record { quote = quote; message_is = message_is; refused = refused })
  where
    by : (refusal : QuoteRefusal) → IsOwn refusal → IsRefusedFor message terms refusal → IsQuoteRefusal message terms refusal
    by (refusals.Message why) own for_this = absurd own
    by refusals.OtherNonce own for_this = for_this
    by (refusals.NotSelected alg register) own for_this = for_this

pub boot_refused : (log list : List ℕ) (fault : VerifyFault) → IsVerifyFault log list fault → (fault ≡ verdicts.Memory → ⊥) → IsBootFault log list fault
boot_refused log list (verdicts.Log why) is other = is
boot_refused log list (verdicts.List why) is other = is
boot_refused log list (verdicts.Replay why) is other = is
boot_refused log list verdicts.Source is other = is
boot_refused log list verdicts.TooLong is other = is
boot_refused log list verdicts.Memory is other = other refl

-- ---- the registers

-- Where a list is replayed from banks that have the registers that are asked for.
pub values_same : (algs : AlgSet) (events : List LogEvent) (entries : List ListEntry) (start before banks : Banks) (quote : TpmQuote)
    → IsFirmware algs events start → HaveSame quote.selections before start → IsReplayed before entries banks
    → confirms quote (value_at banks) ≡ confirms quote (pcr_after_log_and_list algs events entries)
values_same algs events entries start before banks quote firmware same replayed =
    confirms_same quote (value_at banks) (pcr_after_log_and_list algs events entries)
    (λ alg register asked.
    replayed.values alg register
    ∙ ap (λ (v : Option (List ℕ)). option_map (λ value. extended_by_all alg value (digests_of entries alg register)) v)
    (same alg register asked ∙ firmware.values alg register))

-- What an answer by a quote tells.
use Rattle.std.proofs.Common.{◌≡◌, ℕ, Bool, true, false, ◌&&◌, not, ◌≤◌, List, [], ◌++◌, length, Option, Some, None, Ok, refl, sym, ap, subst, ◌∙◌, arith, inl, inr}
use Rattle.std.specs.Prelude.{is_some}
use Rattle.std.proofs.lemmas.Bool.{true≢false}
use Rattle.pcr_banks.specs.declared.sets.AlgSet.{AlgSet}
use Rattle.pcr_banks.specs.Names.{value_at}
use Rattle.pcr_values.specs.declared.expected.Expected.{Expected}
use Rattle.boot_log.specs.declared.header.DeclaredAlgorithm.{DeclaredAlgorithm}
use Rattle.boot_log.specs.Names.{IsFirmware, IsLog, LogEvent, algs_in}
use Rattle.boot_log.proofs.LogLaws.{one_reading}
use Rattle.ima_list.specs.Names.{AreGenuine, IsReading, IsReplayed, ListEntry, list_spelling}
use Rattle.ima_list.proofs.ListLaws.{written_reading}
use Rattle.boot_verdict.specs.declared.aggregate_rule.AggregateRule.{AggregateRule}
use Rattle.boot_verdict.specs.declared.checkpoint.Checkpoint.{Checkpoint}
use Rattle.boot_verdict.specs.declared.report.PrefixReport.{PrefixReport}
use Rattle.boot_verdict.specs.declared.report.Report.{Report}
use Rattle.boot_verdict.specs.Names.{IsVerdictUnder, Verdict, aggregate_under, are_none, first_extending, first_stray, is_good, pcr_after_log_and_list, verdict_of, verdict_under, wide_rule}
use Rattle.boot_verdict.proofs.ReplayLaws.{one_list}
use Rattle.known_files.specs.Unknown.{has_no_unknown}
use Rattle.tpm_quotes.specs.Quoting.{Values, confirms}
use Rattle.tpm_quotes.specs.Spelling.{IsQuote, TpmQuote}
use Rattle.attestations.specs.declared.expected.ExpectedValues.{ExpectedValues}
use Rattle.attestations.specs.declared.report.AttestReport.{AttestReport}
use Rattle.attestations.specs.declared.signature.SignatureState.{SignatureState}
use Rattle.attestations.specs.Attesting.{IsAttested}
use Rattle.attestations.specs.Judging.{attestation_on, cause_against, quote_refusal}
use Rattle.attestations.specs.Policies.{Terms, policy_fault}
use Rattle.attestations.specs.Quoted.{stated_by, stated_of}
use Rattle.attestations.specs.Reports.{AttestVerdict, attest_verdict_of, is_attested, is_signed}
use Rattle.attestations.proofs.JudgeLaws.{attested_by, values_same}
use Rattle.growing_lists.specs.declared.saved_state.SavedState.{SavedState}
use Rattle.agent_inputs.specs.Loading.{Inputs}
use Rattle.agent_plans.specs.declared.plan.Scope.{Scope}
use Rattle.agent_plans.specs.declared.plan.Scope.TheVariants.{Whole}
use Rattle.judging.specs.declared.request.Answer.TheVariants as answers
use Rattle.judging.specs.declared.request.Answered.{Answered}
use Rattle.judging.specs.Answering.{Evidence, IsAnswerOn, IsAttestation, IsJudged, IsResumedState, IsNext, IsPrefixOf, IsTaken, IsVerdictOn, IsVouched, OfList, OfMore, TellsUnknown, checkpoint_of, entries_taken, is_good as is_good_answer, most_more, quoted_evidence, seeks_prefix, terms_with, told_by, whole_of}
use Rattle.judging.specs.Inputs.{OfInput, Where}
use Rattle.judging.specs.Requests.{AttestRequested, ByCaller, ByKey, Judgement, NotChecked, Nothing, Signing, VerdictOf, WholeVerdictOf}
use Rattle.judging.proofs.RequestLaws.{of_verdict}
use Rattle.judging_laws.specs.AttestedAnswers.{IsVouchedFor, is_on_prefix, TellsAttested, TellsPrefixAttested, TellsSomeAttested}

-- ---- Booleans

pub both_true : (a b : Bool) → (a && b) ≡ true → (a ≡ true) × (b ≡ true)
both_true true b e = (refl, e)
both_true false b e = absurd cc

none_of : {A : Type 0} (found : Option A) → not (is_some found) ≡ true → found ≡ None
none_of None e = refl
none_of (Some x) e = absurd cc

-- ---- nothing is against it

no_cause : (rule : AggregateRule) (algs : AlgSet) (events : List LogEvent) (entries : List ListEntry) (quote : TpmQuote)
    → first_extending events ≡ None → first_stray entries ≡ None → is_good (aggregate_under rule algs events entries) ≡ true
    → confirms quote (pcr_after_log_and_list algs events entries) ≡ true → cause_against rule algs events entries quote ≡ None
no_cause rule algs events entries quote event entry good same = rw (event, entry, good, same) refl

-- ---- a report by a quote, where all is well with it

-- What was judged is good, and so are these values of the registers after it.
record AreGood (verdict : Verdict) (quote : TpmQuote) (registers : Values) : Type 0 where
  aggregate : is_good verdict.aggregate ≡ true
  apart : are_none verdict.strays ≡ true
  quoted : confirms quote registers ≡ true

success_told : (told : AttestVerdict) (quote : TpmQuote) (registers : Values) (signature : SignatureState)
    → (is_signed told.signature && is_attested told) ≡ true → told.signature ≡ signature → told.is_quoted ≡ confirms quote registers
    → (is_signed signature ≡ true) × AreGood told.verdict quote registers
success_told told quote registers signature success signed_is quoted_is =
    let signed = both_true (is_signed told.signature) (is_attested told) success in
    let good = both_true (is_good told.verdict.aggregate) (are_none told.verdict.strays && told.is_quoted) signed.1 in
    let last = both_true (are_none told.verdict.strays) told.is_quoted good.1 in
    (ap is_signed (sym signed_is) ∙ signed.0, record { aggregate = good.0; apart = last.0; quoted = sym quoted_is ∙ last.1 })

-- What is known of the signature tells that the message is signed, unless nothing is.
signed_as : (inputs : Inputs) (signing : Signing) (message : List ℕ) (state : SignatureState) → IsVouched inputs signing message state
    → is_signed state ≡ true → IsVouchedFor inputs signing message
signed_as inputs NotChecked message state vouched signed = absurd (true≢false (sym signed ∙ ap is_signed vouched))
signed_as inputs ByCaller message state vouched signed = tt
signed_as inputs (ByKey key signature) message state vouched signed = vouched.1

-- ---- the attestation

-- The registers after what was judged are as much those that the quote confirms as those after this log and this list.
next_values : (log list : List ℕ) (quote : TpmQuote) (table : List DeclaredAlgorithm) (events : List LogEvent) (entries : List ListEntry)
    (next : Checkpoint) → IsLog log table events → IsReading list (Ok entries) → IsNext log list next
    → confirms quote (value_at next.after) ≡ confirms quote (pcr_after_log_and_list (algs_in table) events entries)
next_values log list quote table events entries next log_is list_is next_is =
    let boot = next_is.boot in
    let logs = one_reading log boot.table table boot.events events boot.log_is log_is in
    let firmware : IsFirmware (algs_in table) events next.before =
    subst (λ (p : List DeclaredAlgorithm × List LogEvent). IsFirmware (algs_in p.0) p.1 next.before) (λ i. (logs.0 i, logs.1 i)) boot.start in
    let lists : next_is.checkpoint.entries ≡ entries = one_list next_is.checkpoint.list_is list_is in
    let replayed : IsReplayed next.before entries next.after =
    subst (λ (es : List ListEntry). IsReplayed next.before es next.after) lists next_is.checkpoint.replayed in
    values_same (algs_in table) events entries next.before next.before next.after quote firmware (λ alg register asked. refl) replayed

attested_on : (log list message : List ℕ) (terms : Terms) (quote : TpmQuote) (expected : List Expected) (table : List DeclaredAlgorithm)
    (events : List LogEvent) (entries : List ListEntry) (verdict : Verdict) (registers : Values) → policy_fault terms ≡ None
    → IsQuote message quote → quote_refusal quote terms ≡ None → IsLog log table events → IsReading list (Ok entries) → AreGenuine entries
    → verdict ≡ verdict_under terms.rule (algs_in table) events entries expected
    → confirms quote registers ≡ confirms quote (pcr_after_log_and_list (algs_in table) events entries) → AreGood verdict quote registers
    → IsAttested log list message terms (attestation_on terms.rule (algs_in table) events entries quote)
attested_on log list message terms quote expected table events entries verdict registers sound message_is taken log_is list_is genuine same values good =
    let aggregate : is_good (aggregate_under terms.rule (algs_in table) events entries) ≡ true =
    subst (λ (v : Verdict). is_good v.aggregate ≡ true) same good.aggregate in
    let apart : (not (is_some (first_extending events)) && not (is_some (first_stray entries))) ≡ true =
    subst (λ (v : Verdict). are_none v.strays ≡ true) same good.apart in
    let none = both_true (not (is_some (first_extending events))) (not (is_some (first_stray entries))) apart in
    attested_by log list message terms table events entries quote (attestation_on terms.rule (algs_in table) events entries quote) sound message_is taken log_is list_is genuine
    (no_cause terms.rule (algs_in table) events entries quote (none_of (first_extending events) none.0) (none_of (first_stray entries) none.1) aggregate
    (sym values ∙ good.quoted)) refl

-- ---- what was judged

-- The verdict is on a log and the whole list of this input, and this is where to go on. The list's entries have this property.
abbrev pub WholeOn : Inputs → Where → Evidence → (List ListEntry → Type 0) → Verdict → Checkpoint → Type 0
WholeOn inputs list evidence Tells verdict next =
    OfMore inputs list evidence.checkpoint (λ taken more. (length more ≤ most_more evidence.checkpoint list)
    × IsVerdictUnder evidence.rule evidence.log (taken ++ more) evidence.expected verdict
    × ((next_is : IsNext evidence.log (taken ++ more) next) × Tells next_is.checkpoint.entries))

abbrev pub PrefixOn : Inputs → Where → Evidence → (List ListEntry → Type 0) → PrefixReport → Checkpoint → Type 0
PrefixOn inputs list evidence Tells report next = OfList inputs list evidence.checkpoint (λ all. IsPrefixOf evidence Tells all report next)

-- What follows from a verdict on the whole list, and from one on its prefix, follows from the verdict that an answer tells. (What was
-- judged has a type that its own crate alone can name.)
pub of_each : (inputs : Inputs) (scope : Scope) (list : Where) (evidence : Evidence) (Tells : List ListEntry → Type 0) (next : Checkpoint)
    (quote : TpmQuote) (signature : SignatureState) (values : ExpectedValues) (on : _) (Q : Verdict → Bool → Type 0)
    → ((report : Report) → WholeOn inputs list evidence Tells (verdict_of report) next → Q (verdict_of report) false)
    → ((report : PrefixReport) → seeks_prefix scope evidence ≡ true → PrefixOn inputs list evidence Tells report next
    → Q (verdict_of report.report) true)
    → IsVerdictOn inputs scope list evidence Tells on next
    → Q (told_by quote signature values (value_at next.after) on).verdict (is_some (told_by quote signature values (value_at next.after) on).prefix)
of_each inputs scope list evidence Tells next quote signature values on Q whole part is = grind (arith, whole, part)

told_signed : (quote : TpmQuote) (signature : SignatureState) (values : ExpectedValues) (registers : Values) (on : _)
    → (told_by quote signature values registers on).signature ≡ signature
told_signed quote signature values registers on = grind arith

told_quoted : (quote : TpmQuote) (signature : SignatureState) (values : ExpectedValues) (registers : Values) (on : _)
    → (told_by quote signature values registers on).is_quoted ≡ confirms quote registers
told_quoted quote signature values registers on = grind arith

told_stated : (quote : TpmQuote) (signature : SignatureState) (values : ExpectedValues) (registers : Values) (on : _)
    → (told_by quote signature values registers on).quoted ≡ stated_by quote
told_stated quote signature values registers on = grind arith

-- ---- the answer

-- Nothing was taken before, where nothing is gone on from.
pub from_nothing : (inputs : Inputs) (asked : AttestRequested) (given : Answered) (is : IsAttestation inputs asked given) → asked.resume ≡ None
    → IsTaken (checkpoint_of is.state) []
from_nothing inputs asked given is resume =
    let none : is.state ≡ None = subst (λ (r : Option Where). IsResumedState inputs r is.state) resume is.state_is in
    subst (λ (s : Option SavedState). IsTaken (checkpoint_of s) []) (sym none) refl

module _ (inputs : Inputs) (asked : AttestRequested) (given : Answered) (is : IsAttestation inputs asked given) (success : given.is_success ≡ true) where
  abbrev evidence : Evidence
  evidence = quoted_evidence (wide_rule asked.old_kernel) is.log is.quote is.signature is.values is.counted (checkpoint_of is.state) is.files

  -- What the answer tells of the entries that it is on.
  abbrev Tells : List ListEntry → Type 0
  Tells = TellsUnknown is.files (entries_taken (checkpoint_of is.state)) given.unknown

  -- The answer is a report with this verdict, on the whole list or on a prefix, and all is well with it.
  record Says (verdict : Verdict) (on_prefix : Bool) (registers : Values) : Type 0 where
    report : AttestReport
    answer_is : given.answer ≡ answers.Attestation report
    quoted : stated_of report.quoted ≡ stated_by is.quote
    verdict_is : verdict_of report.report ≡ verdict
    prefix_is : is_on_prefix given.answer ≡ on_prefix
    signed : is_signed is.signature ≡ true
    good : AreGood verdict is.quote registers

  said : (on : _) (registers : Values) → IsAnswerOn (Some is.quote) is.signature is.values on registers given.answer
      → Says (told_by is.quote is.signature is.values registers on).verdict
      (is_some (told_by is.quote is.signature is.values registers on).prefix) registers
  said on registers answer =
      let told = told_by is.quote is.signature is.values registers on in
      let report = answer.0 in
      let good_is : is_good_answer Nothing None given.answer ≡ true =
      (both_true (has_no_unknown given.unknown) (is_good_answer Nothing None given.answer) (sym is.success_is ∙ success)).1 in
      let here : (is_signed report.signature && is_attested (attest_verdict_of report)) ≡ true =
      ap (is_good_answer Nothing None) (sym answer.1) ∙ good_is in
      let there : (is_signed told.signature && is_attested told) ≡ true =
      subst (λ (v : AttestVerdict). (is_signed v.signature && is_attested v) ≡ true) answer.2 here in
      let good = success_told told is.quote registers is.signature there (told_signed is.quote is.signature is.values registers on)
      (told_quoted is.quote is.signature is.values registers on) in
      record {
        report = report;
        answer_is = answer.1;
        quoted = ap (λ (v : AttestVerdict). v.quoted) answer.2 ∙ told_stated is.quote is.signature is.values registers on;
        verdict_is = ap (λ (v : AttestVerdict). v.verdict) answer.2;
        prefix_is = ap is_on_prefix answer.1 ∙ ap (λ (v : AttestVerdict). is_some v.prefix) answer.2;
        signed = good.0;
        good = good.1;
      }

  tells_on : (list : List ℕ) (table : List DeclaredAlgorithm) (events : List LogEvent) (entries : List ListEntry) (verdict : Verdict)
      (on_prefix : Bool) (registers : Values) → IsLog is.log table events → IsReading list (Ok entries) → AreGenuine entries
      → verdict ≡ verdict_under (wide_rule asked.old_kernel) (algs_in table) events entries is.counted
      → confirms is.quote registers ≡ confirms is.quote (pcr_after_log_and_list (algs_in table) events entries) → Says verdict on_prefix registers
      → TellsAttested inputs asked given is list
  tells_on list table events entries verdict on_prefix registers log_is list_is genuine same values says =
      record {
        message = is.message;
        attestation = attestation_on (wide_rule asked.old_kernel) (algs_in table) events entries is.quote;
        signed = signed_as inputs asked.signing is.message is.signature is.asked_for.vouched says.signed;
        log_is = is.log_is;
        message_is = is.asked_for.message_is;
        attested = attested_on is.log list is.message (terms_with asked is.ranges) is.quote is.counted table events entries verdict registers
            is.taken.1 is.asked_for.quote_is is.asked_for.not_refused log_is list_is genuine same values says.good;
        quote_is = refl;
        report_is = record {
          report = says.report;
          answer_is = says.answer_is;
          quoted = says.quoted;
          events = ap (λ (v : Verdict). v.events) (says.verdict_is ∙ same);
          locality = ap (λ (v : Verdict). v.locality) (says.verdict_is ∙ same);
          entries = ap (λ (v : Verdict). v.entries) (says.verdict_is ∙ same);
          aggregate = ap (λ (v : Verdict). v.aggregate) (says.verdict_is ∙ same);
        };
      }

  whole_tells : (report : Report) (next : Checkpoint) (taken : List ℕ) → IsTaken (checkpoint_of is.state) taken
      → WholeOn inputs asked.list evidence Tells (verdict_of report) next → Says (verdict_of report) false (value_at next.after)
      → OfInput inputs asked.list (λ more. TellsAttested inputs asked given is (taken ++ more))
  whole_tells report next taken before on says =
      let more = on taken before in
      let found = more.2.1 in (
        more.0,
        more.1,
        tells_on (taken ++ more.0) found.table found.events found.entries (verdict_of report) false (value_at next.after) found.log_is found.list_is
            found.genuine found.verdict_is
            (next_values is.log (taken ++ more.0) is.quote found.table found.events found.entries next found.log_is found.list_is more.2.2.0) says,
      )

  prefix_tells : (report : PrefixReport) (next : Checkpoint) (taken : List ℕ) → IsTaken (checkpoint_of is.state) taken
      → PrefixOn inputs asked.list evidence Tells report next → Says (verdict_of report.report) true (value_at next.after)
      → OfInput inputs asked.list (λ more. TellsPrefixAttested inputs asked given is (taken ++ more))
  prefix_tells report next taken before on says =
      let more = on taken before in
      let found = more.2 in (
        more.0,
        more.1,
        record {
          prefix = found.prefix;
          rest = found.rest;
          begins = found.begins;
          tells = tells_on (list_spelling found.prefix) found.table found.events found.prefix (verdict_of report.report) true (value_at next.after)
              found.log_is (written_reading found.prefix found.begins.are) found.confirmed.genuine found.verdict_is
              (next_values is.log (list_spelling found.prefix) is.quote found.table found.events found.prefix next found.log_is
              (written_reading found.prefix found.begins.are) found.next_is) says;
        },
      )

  -- A verdict on the whole list from which nobody goes on.
  alone_tells : (next : Option Checkpoint) → IsJudged inputs (WholeVerdictOf asked.log) asked.list evidence given.answer next given.unknown
      → OfInput inputs asked.list (λ all. (is_on_prefix given.answer ≡ false) × TellsAttested inputs asked given is all)
  alone_tells None judged =
      let on = judged.2 in
      let found = on.verdict_is in
      let registers : Values = pcr_after_log_and_list (algs_in found.table) found.events found.entries in
      let says : Says (verdict_of on.report) false registers = said (whole_of on.report) registers on.answer_is in (
        judged.0,
        judged.1,
        (
          says.prefix_is,
          tells_on judged.0 found.table found.events found.entries (verdict_of on.report) false registers found.log_is found.list_is found.genuine
              found.verdict_is refl says,
        ),
      )
  alone_tells (Some next) judged = absurd judged

  -- What both make is the input alone, where nothing was taken before.
  taken_none : asked.resume ≡ None → (taken : List ℕ) → IsTaken (checkpoint_of is.state) taken → taken ≡ []
  taken_none resume taken before =
      let none : is.state ≡ None = subst (λ (r : Option Where). IsResumedState inputs r is.state) resume is.state_is in
      subst (λ (s : Option SavedState). IsTaken (checkpoint_of s) taken) none before

  abbrev IsFound : Judgement → Option Checkpoint → Type 0
  IsFound judgement next = IsJudged inputs judgement asked.list evidence given.answer next given.unknown

  pub whole_attested : asked.scope ≡ Whole → OfList inputs asked.list (checkpoint_of is.state) (TellsAttested inputs asked given is)
  whole_attested scope taken before =
      of_verdict (λ judgement. IsFound judgement is.next → OfInput inputs asked.list (λ more. TellsAttested inputs asked given is (taken ++ more)))
      asked.saves asked.log asked.scope asked.resume
      (λ whole resume judged. let all = alone_tells is.next judged in (all.0, all.1, rw (taken_none resume taken before) all.2.1))
      (by is.next) is.judged
    where
      no_prefix : seeks_prefix asked.scope evidence ≡ true → ⊥
      no_prefix sought = true≢false (sym (subst (λ (s : Scope). seeks_prefix s evidence ≡ true) scope sought))

      by : (next : Option Checkpoint) → IsFound (VerdictOf asked.log asked.scope asked.resume) next
          → OfInput inputs asked.list (λ more. TellsAttested inputs asked given is (taken ++ more))
      by None judged = absurd judged
      by (Some next) judged =
          let Q : Verdict → Bool → Type 0 = λ verdict on_prefix. Says verdict on_prefix (value_at next.after) → OfInput inputs asked.list (λ more. TellsAttested inputs asked given is (taken ++ more)) in
          of_each inputs asked.scope asked.list evidence Tells next is.quote is.signature is.values judged.0 Q
          (λ report on says. whole_tells report next taken before on says) (λ report sought on says. absurd (no_prefix sought)) judged.1
          (said judged.0 (value_at next.after) judged.2)

  pub prefix_attested : OfList inputs asked.list (checkpoint_of is.state) (TellsSomeAttested inputs asked given is)
  prefix_attested taken before =
      of_verdict (λ judgement. IsFound judgement is.next → OfInput inputs asked.list (λ more. TellsSomeAttested inputs asked given is (taken ++ more)))
      asked.saves asked.log asked.scope asked.resume
      (λ whole resume judged.
      let all = alone_tells is.next judged in (all.0, all.1, rw (taken_none resume taken before) (inl (all.2.0, all.2.1))))
      (by is.next) is.judged
    where
      by : (next : Option Checkpoint) → IsFound (VerdictOf asked.log asked.scope asked.resume) next
          → OfInput inputs asked.list (λ more. TellsSomeAttested inputs asked given is (taken ++ more))
      by None judged = absurd judged
      by (Some next) judged =
          let Q : Verdict → Bool → Type 0 = λ verdict on_prefix. Says verdict on_prefix (value_at next.after) → OfInput inputs asked.list (λ more. TellsSomeAttested inputs asked given is (taken ++ more)) in
          of_each inputs asked.scope asked.list evidence Tells next is.quote is.signature is.values judged.0 Q
          (λ report on says. let all = whole_tells report next taken before on says in (all.0, all.1, inl (says.prefix_is, all.2)))
          (λ report sought on says. let part = prefix_tells report next taken before on says in (part.0, part.1, inr (says.prefix_is, part.2))) judged.1
          (said judged.0 (value_at next.after) judged.2)

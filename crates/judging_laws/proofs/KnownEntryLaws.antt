-- What an answer tells where files have to be known.
use Rattle.std.proofs.Common.{◌≡◌, ◌⊎◌, ◌<◌, ℕ, Bool, true, ◌==◌, List, [], ◌∷◌, ◌++◌, length, drop, Option, None, Some, refl, sym, ap, subst, ◌∙◌, arith}
use Rattle.std.specs.Prelude.{max}
use Rattle.std.proofs.lemmas.Bool.{true≢false}
use Rattle.std.proofs.lemmas.Bool.Decides.{nat_tests}
use Rattle.std.proofs.lemmas.List.{nil_from_length}
use Rattle.std.specs.List.{AllByRecursion}
use Rattle.pcr_banks.specs.Names.{value_at}
use Rattle.boot_log.specs.Names.{algs_in}
use Rattle.ima_list.specs.Names.{BeginsWith, ListEntry}
use Rattle.boot_verdict.specs.declared.checkpoint.Checkpoint.{Checkpoint}
use Rattle.boot_verdict.specs.declared.report.PrefixReport.{PrefixReport}
use Rattle.boot_verdict.specs.declared.report.Report.{Report}
use Rattle.boot_verdict.specs.Names.{ListVerdict, Verdict, pcr_after_log_and_list, verdict_of, wide_rule}
use Rattle.boot_verdict.proofs.ReplayLaws.{one_list}
use Rattle.known_files.specs.declared.known.KnownFiles.{KnownFiles}
use Rattle.known_files.specs.declared.unknown.UnknownFiles.{UnknownFiles}
use Rattle.known_files.specs.EntryFiles.{IsKnown, is_aggregate}
use Rattle.known_files.specs.Known.{Knows}
use Rattle.known_files.specs.Unknown.{AreUnknown, has_no_unknown, unknown_in}
use Rattle.tpm_quotes.specs.Spelling.{TpmQuote}
use Rattle.tpm_quotes.specs.Quoting.{Values}
use Rattle.attestations.specs.declared.expected.ExpectedValues.{ExpectedValues}
use Rattle.attestations.specs.declared.signature.SignatureState.{SignatureState}
use Rattle.attestations.specs.Reports.{AttestVerdict}
use Rattle.growing_lists.specs.declared.saved_state.SavedState.{SavedState}
use Rattle.agent_plans.specs.declared.plan.Scope.{Scope}
use Rattle.agent_inputs.specs.Loading.{Inputs}
use Rattle.judging.specs.declared.request.Answer.{Answer}
use Rattle.judging.specs.declared.request.Answer.TheVariants as answers
use Rattle.judging.specs.declared.request.Answered.{Answered}
use Rattle.judging.specs.Answering.{AreKnownFiles, AreKnownTexts, Evidence, IsAnswerOn, IsAttestation, IsComparison, IsJudged, IsOnWhole, IsResumedState as IsState, IsTaken, IsVerdictOn, OfList, TellsUnknown, checkpoint_of, entries_taken, is_good, quoted_evidence, told_by, whole_of}
use Rattle.judging.specs.Inputs.{Holds, Where}
use Rattle.judging.specs.Requests.{AttestRequested, Compared, Judgement, ListVerdictOf, Nothing, PositionsOf, Requires, VerdictOf, WholeVerdictOf, resume_of, takes_known}
use Rattle.judging.proofs.RequestLaws.{of_verdict}
use Rattle.judging_laws.specs.KnownEntries.{HasKnownEntries, IsFirstKnown, TellsKnown, entries_of}
use Rattle.judging_laws.proofs.AttestedAnswerLaws.{both_true, PrefixOn, WholeOn, of_each}

-- ---- texts

-- Where files have to be known, some are, by texts that the inputs have.
record HasTexts (inputs : Inputs) (places : List Where) (files : Option KnownFiles) : Type 0 where
  known : KnownFiles
  texts : List (List ℕ)
  files_are : files ≡ Some known
  texts_are : AreKnownTexts inputs places texts
  knows : Knows texts known

texts_in : (inputs : Inputs) (places : List Where) (files : Option KnownFiles) → 0 < length places → AreKnownFiles inputs places files
    → HasTexts inputs places files
texts_in inputs [] files some are = absurd (omega (arith, some))
texts_in inputs (place ∷ places) None some are = absurd are
texts_in inputs (place ∷ places) (Some known) some are =
    record { known = known; texts = are.0; files_are = refl; texts_are = are.1; knows = are.2 }

-- ---- none is told

-- Where no number is told, there is none.
no_items : (items : List ℕ) → (length items == 0) ≡ true → items ≡ []
no_items items e = nil_from_length items (grind (arith, nat_tests))

-- All these entries are known, but for the first of the list, and for those before number `first`.
abbrev AreKnownFrom : List (List ℕ) → ℕ → List ListEntry → Type 0
AreKnownFrom texts first entries = AllByRecursion (IsKnown texts) (drop (max 1 first) entries)

-- They are, where none of them is unknown; and so is the first of a list, or it is one of the boot aggregate.
pub record KnownLaw : Type 0 where
  pub from : (texts : List (List ℕ)) (first : ℕ) (entries : List ListEntry) → AreUnknown texts first entries [] → AreKnownFrom texts first entries
  pub first : (texts : List (List ℕ)) (entry : ListEntry) (entries : List ListEntry) → unknown_in texts 0 (entry ∷ entries) ≡ []
      → IsKnown texts entry ⊎ (is_aggregate entry ≡ true)

known_first : KnownLaw → (texts : List (List ℕ)) (entries : List ListEntry) → AreUnknown texts 0 entries [] → IsFirstKnown texts entries
known_first law texts [] none = tt
known_first law texts (entry ∷ entries) none = law.first texts entry entries (sym none)

-- So they are where none is told unknown.
has_known : KnownLaw → (given : Answered) (texts : List (List ℕ)) (files : KnownFiles) (first : ℕ) (list rest : List ℕ) (entries : List ListEntry)
    → Knows texts files → BeginsWith list entries rest → entries_of given.answer ≡ Some (length entries)
    → (unknown : Option UnknownFiles) → given.unknown ≡ unknown → has_no_unknown unknown ≡ true → TellsUnknown (Some files) first unknown entries
    → HasKnownEntries given texts first list
has_known law given texts files first list rest entries knows begins count None same none tells = absurd tells
has_known law given texts files first list rest entries knows begins count (Some told) same none tells =
    let empty = no_items told.numbers.items none in
    let is_none : AreUnknown texts first entries [] =
    subst (λ (numbers : List ℕ). AreUnknown texts first entries numbers) empty (tells.numbers_are texts knows) in
    record {
      entries = entries;
      rest = rest;
      unknown = told;
      begins = begins;
      count_is = count;
      are_known = law.from texts first entries is_none;
      first_known = λ begins. known_first law texts entries (subst (λ (n : ℕ). AreUnknown texts n entries []) begins is_none);
      unknown_is = same;
      first_is = tells.first_is;
      none_told = empty;
    }

-- ---- what was judged

module _ (law : KnownLaw) (inputs : Inputs) (places : List Where) (list : Where) (evidence : Evidence) (given : Answered)
    (has : HasTexts inputs places evidence.known_files) (none : has_no_unknown given.unknown ≡ true) where
  abbrev Tells : List ListEntry → Type 0
  Tells = TellsUnknown evidence.known_files (entries_taken evidence.checkpoint) given.unknown

  abbrev Known : Type 0
  Known = OfList inputs list evidence.checkpoint (HasKnownEntries given has.texts (entries_taken evidence.checkpoint))

  known_on : (all rest : List ℕ) (entries : List ListEntry) → BeginsWith all entries rest → entries_of given.answer ≡ Some (length entries)
      → Tells entries → HasKnownEntries given has.texts (entries_taken evidence.checkpoint) all
  known_on all rest entries begins count tells =
      has_known law given has.texts has.known (entries_taken evidence.checkpoint) all rest entries has.knows begins count given.unknown refl none
      (subst (λ (files : Option KnownFiles). TellsUnknown files (entries_taken evidence.checkpoint) given.unknown entries) has.files_are tells)

  whole_known : (report : Report) (next : Checkpoint) → entries_of given.answer ≡ Some (verdict_of report).entries
      → WholeOn inputs list evidence Tells (verdict_of report) next → Known
  whole_known report next answer on taken take =
      let more = on taken take in
      let found = more.2.1 in
      let next_is = more.2.2.0 in
      let same : found.entries ≡ next_is.checkpoint.entries = one_list found.list_is next_is.checkpoint.list_is in
      let count : (verdict_of report).entries ≡ length next_is.checkpoint.entries = ap (λ (v : Verdict). v.entries) found.verdict_is ∙ ap length same in (
        more.0,
        more.1,
        known_on (taken ++ more.0) [] next_is.checkpoint.entries next_is.checkpoint.list_is.begins (answer ∙ ap Some count) more.2.2.1,
      )

  prefix_known : (report : PrefixReport) (next : Checkpoint) → entries_of given.answer ≡ Some (verdict_of report.report).entries
      → PrefixOn inputs list evidence Tells report next → Known
  prefix_known report next answer on taken take =
      let more = on taken take in
      let f = more.2 in
      let count : (verdict_of report.report).entries ≡ length f.prefix = ap (λ (v : Verdict). v.entries) f.verdict_is in
      (more.0, more.1, known_on (taken ++ more.0) f.rest f.prefix f.begins (answer ∙ ap Some count) f.tells)

  -- The same of a list from which nobody goes on, where nothing was taken before.
  alone_known : evidence.checkpoint ≡ None → (content : List ℕ) → Holds inputs list content
      → (on : IsOnWhole list evidence given.answer given.unknown content) → entries_of given.answer ≡ Some (verdict_of on.report).entries → Known
  alone_known alone content held on answer taken take =
      let found = on.verdict_is in
      let first : entries_taken evidence.checkpoint ≡ 0 = ap entries_taken alone in
      let empty : taken ≡ [] = subst (λ (known : Option Checkpoint). IsTaken known taken) alone take in
      let count : (verdict_of on.report).entries ≡ length found.entries = ap (λ (v : Verdict). v.entries) found.verdict_is in (
        content,
        held,
        rw (empty, first) (has_known law given has.texts has.known 0 content [] found.entries has.knows found.list_is.begins (answer ∙ ap Some count)
            given.unknown refl none
            (subst (λ (files : Option KnownFiles). TellsUnknown files 0 given.unknown found.entries) has.files_are on.unknown_are)),
      )

-- Nothing was taken before, where nothing is gone on from.
no_state : (inputs : Inputs) (state : Option SavedState) → IsState inputs None state → checkpoint_of state ≡ None
no_state inputs state is = ap checkpoint_of is

-- ---- by a quote

-- How many entries a report by a quote is on, where it tells a verdict.
entries_told : (quote : TpmQuote) (signature : SignatureState) (values : ExpectedValues) (registers : Values) (on : _) (answer : Answer)
    → IsAnswerOn (Some quote) signature values on registers answer
    → entries_of answer ≡ Some (told_by quote signature values registers on).verdict.entries
entries_told quote signature values registers on answer is = ap entries_of is.1 ∙ ap (λ (v : AttestVerdict). Some v.verdict.entries) is.2

pub attested_known : KnownLaw → (inputs : Inputs) (asked : AttestRequested) (given : Answered) (is : IsAttestation inputs asked given)
    → given.is_success ≡ true → 0 < length asked.known → TellsKnown inputs asked.known asked.list (checkpoint_of is.state) given
attested_known law inputs asked given is success some = record {
  texts = has.texts;
  texts_are = has.texts_are;
  entries_are = of_verdict (λ judgement. IsFound judgement is.next → AllKnown) asked.saves asked.log asked.scope asked.resume
      (λ whole resume judged. alone resume is.next judged) (by is.next) is.judged;
}
  where
    has : HasTexts inputs asked.known is.files
    has = texts_in inputs asked.known is.files some is.files_are

    none : has_no_unknown given.unknown ≡ true
    none = (both_true (has_no_unknown given.unknown) (is_good Nothing None given.answer) (sym is.success_is ∙ success)).0

    evidence : Evidence
    evidence = quoted_evidence (wide_rule asked.old_kernel) is.log is.quote is.signature is.values is.counted (checkpoint_of is.state) is.files

    AllKnown : Type 0
    AllKnown = OfList inputs asked.list (checkpoint_of is.state) (HasKnownEntries given has.texts (entries_taken (checkpoint_of is.state)))

    IsFound : Judgement → Option Checkpoint → Type 0
    IsFound judgement next = IsJudged inputs judgement asked.list evidence given.answer next given.unknown

    alone : asked.resume ≡ None → (next : Option Checkpoint) → IsFound (WholeVerdictOf asked.log) next → AllKnown
    alone resume None judged =
        let on = judged.2 in
        let first = no_state inputs is.state (subst (λ (place : Option Where). IsState inputs place is.state) resume is.state_is) in
        alone_known law inputs asked.known asked.list evidence given has none first judged.0 judged.1 on
        (entries_told is.quote is.signature is.values
        (pcr_after_log_and_list (algs_in on.verdict_is.table) on.verdict_is.events on.verdict_is.entries) (whole_of on.report) given.answer on.answer_is)
    alone resume (Some next) judged = absurd judged

    by : (next : Option Checkpoint) → IsFound (VerdictOf asked.log asked.scope asked.resume) next → AllKnown
    by None judged = absurd judged
    by (Some next) judged =
        let Q : Verdict → Bool → Type 0 = λ verdict on_prefix. entries_of given.answer ≡ Some verdict.entries → AllKnown in
        of_each inputs asked.scope asked.list evidence (TellsUnknown is.files (entries_taken (checkpoint_of is.state)) given.unknown) next is.quote
        is.signature is.values judged.0 Q
        (λ report on count. whole_known law inputs asked.known asked.list evidence given has none report next count on)
        (λ report sought on count. prefix_known law inputs asked.known asked.list evidence given has none report next count on)
        judged.1
        (entries_told is.quote is.signature is.values (value_at next.after) judged.0 given.answer judged.2)

-- ---- by expected registers

-- What follows from a verdict on the whole list, and from one on its prefix, follows from an answer that tells one.
plain_of_each : (inputs : Inputs) (scope : Scope) (list : Where) (evidence : Evidence) (Says : List ListEntry → Type 0) (next : Checkpoint)
    (signature : SignatureState) (values : ExpectedValues) (on : _) (answer : Answer) (Q : Type 0)
    → ((report : Report) → WholeOn inputs list evidence Says (verdict_of report) next → answer ≡ answers.Report report → Q)
    → ((report : PrefixReport) → PrefixOn inputs list evidence Says report next → answer ≡ answers.Prefix report → Q)
    → IsVerdictOn inputs scope list evidence Says on next → IsAnswerOn None signature values on (value_at next.after) answer → Q
plain_of_each inputs scope list evidence Says next signature values on answer Q whole part is answered = grind (arith, whole, part)

not_positions : (place : Where) (required : Requires) (known : List Where) → 0 < length known
    → takes_known (PositionsOf place) required known ≡ true → ⊥
not_positions place required [] some takes = omega (arith, some)
not_positions place required (other ∷ known) some takes = true≢false (sym takes)

module _ (law : KnownLaw) (inputs : Inputs) (places : List Where) (list : Where) (evidence : Evidence) (given : Answered)
    (has : HasTexts inputs places evidence.known_files) (none : has_no_unknown given.unknown ≡ true) (alone : evidence.checkpoint ≡ None) where
  list_known : (answer : Answer) (next : Option Checkpoint) → given.answer ≡ answer
      → IsJudged inputs ListVerdictOf list evidence answer next given.unknown → Known law inputs places list evidence given has none
  list_known (answers.ListReport report) None same judged =
      λ taken take.
      let all = judged.0 in
      let found = judged.2.0 in
      let first : entries_taken evidence.checkpoint ≡ 0 = ap entries_taken alone in
      let empty : taken ≡ [] = subst (λ (known : Option Checkpoint). IsTaken known taken) alone take in
      let count : entries_of given.answer ≡ Some (length found.entries) =
      ap entries_of same ∙ ap (λ (v : ListVerdict). Some v.entries) found.verdict_is in (
        all,
        judged.1,
        rw (empty, first) (has_known law given has.texts has.known 0 all [] found.entries has.knows found.list_is.begins count given.unknown refl none
            (subst (λ (files : Option KnownFiles). TellsUnknown files 0 given.unknown found.entries) has.files_are judged.2.1)),
      )
  list_known (answers.ListReport report) (Some next) same judged = absurd judged
  list_known (answers.Attestation report) next same judged = absurd judged
  list_known (answers.Report report) next same judged = absurd judged
  list_known (answers.Prefix report) next same judged = absurd judged
  list_known (answers.Positions positions) next same judged = absurd judged
  list_known (answers.Registers registers) next same judged = absurd judged
  list_known (answers.Expected expected) next same judged = absurd judged
  list_known (answers.Key report part) next same judged = absurd judged

pub comparison_known : KnownLaw → (inputs : Inputs) (request : Compared) (given : Answered) (is : IsComparison inputs request given)
    → given.is_success ≡ true → 0 < length request.known → TellsKnown inputs request.known request.list is.evidence.checkpoint given
comparison_known law inputs request given is success some = record {
  texts = has.texts;
  texts_are = has.texts_are;
  entries_are = by request.judgement is.next is.takes is.evidence_is.state_is is.judged;
}
  where
    has : HasTexts inputs request.known is.evidence.known_files
    has = texts_in inputs request.known is.evidence.known_files some is.evidence_is.files_are

    none : has_no_unknown given.unknown ≡ true
    none = (both_true (has_no_unknown given.unknown) (is_good request.required given.requirement given.answer) (sym is.success_is ∙ success)).0

    by : (judgement : Judgement) (next : Option Checkpoint) → takes_known judgement request.required request.known ≡ true
        → IsState inputs (resume_of judgement) is.evidence_is.state
        → IsJudged inputs judgement request.list is.evidence given.answer next given.unknown
        → Known law inputs request.known request.list is.evidence given has none
    by (VerdictOf place scope resume) None takes state judged = absurd judged
    by (VerdictOf place scope resume) (Some next) takes state judged =
        let plain = subst (λ (quote : Option TpmQuote). IsAnswerOn quote is.evidence.signature is.evidence.values judged.0 (value_at next.after) given.answer)
        is.evidence_is.none_quoted judged.2 in
        plain_of_each inputs scope request.list is.evidence (TellsUnknown is.evidence.known_files (entries_taken is.evidence.checkpoint) given.unknown) next
        is.evidence.signature is.evidence.values judged.0 given.answer (Known law inputs request.known request.list is.evidence given has none)
        (λ report on same.
        whole_known law inputs request.known request.list is.evidence given has none report next (ap entries_of same) on)
        (λ report on same.
        prefix_known law inputs request.known request.list is.evidence given has none report next (ap entries_of same) on)
        judged.1 plain
    by (WholeVerdictOf place) (Some next) takes state judged = absurd judged
    by (WholeVerdictOf place) None takes state judged =
        let on = judged.2 in
        let registers : Values = pcr_after_log_and_list (algs_in on.verdict_is.table) on.verdict_is.events on.verdict_is.entries in
        let plain : given.answer ≡ answers.Report on.report =
        subst (λ (quote : Option TpmQuote). IsAnswerOn quote is.evidence.signature is.evidence.values (whole_of on.report) registers given.answer)
        is.evidence_is.none_quoted on.answer_is in
        alone_known law inputs request.known request.list is.evidence given has none
        (is.evidence_is.checkpoint_is ∙ no_state inputs is.evidence_is.state state) judged.0 judged.1 on (ap entries_of plain)
    by (PositionsOf place) next takes state judged = absurd (not_positions place request.required request.known some takes)
    by ListVerdictOf next takes state judged =
        list_known law inputs request.known request.list is.evidence given has none
        (is.evidence_is.checkpoint_is ∙ no_state inputs is.evidence_is.state state) given.answer next refl judged

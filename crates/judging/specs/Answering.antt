-- The answer to a request, and why there is none.
use Rattle.std.specs.Prelude.{◌≡◌, ℕ, ◌<◌, ◌≤◌, ◌⊎◌, ◌==◌, not, ◌+◌, Bool, true, false, List, [], ◌∷◌, ◌++◌, length, take, Option, Some, None, Result, Ok, Err, IfSome, IsSomeAnd, MatchResult, ◌&&◌, if◌then◌else◌, MatchOption, option_map}
use Rattle.std.specs.Option.{option_map_or}
use Rattle.byte_streams.specs.Streams.{SourceState}
use Rattle.pcr_values.specs.declared.expected.Expected.{Expected}
use Rattle.pcr_values.specs.declared.selection.BankRange.{BankRange}
use Rattle.pcr_values.specs.declared.expected.ExpectFault.{ExpectFault}
use Rattle.pcr_values.specs.declared.expected.ExpectFault.TheVariants.{NoRegister}
use Rattle.pcr_values.specs.Names.{BeginsWithBankRange, BeginsWithRegister, HasFirstFault, HasPrintedFault, IsExpectedText, IsPrintedText, PrintsRegister, SpellsRanges, those_selected}
use Rattle.boot_log.specs.declared.header.DeclaredAlgorithm.{DeclaredAlgorithm}
use Rattle.boot_log.specs.Names.{IsFirmware, IsLog, LogEvent, algs_in, startup_locality}
use Rattle.ima_list.specs.Names.{AreGenuine, BeginsWith, IsReading, IsReplayed, ListEntry, list_fault_entry, list_spelling}
use Rattle.boot_verdict.specs.declared.aggregate_rule.AggregateRule.{AggregateRule}
use Rattle.boot_verdict.specs.declared.checkpoint.Checkpoint.{Checkpoint}
use Rattle.boot_verdict.specs.declared.verifier.VerifyFault.{VerifyFault}
use Rattle.boot_verdict.specs.declared.verifier.VerifyFault.TheVariants as verdicts
use Rattle.boot_verdict.specs.Names.{AreLocated, AreTracked, IsCheckpoint, IsForged, IsListStart, IsListVerdict, IsRequirementText, IsSound, IsVerdictUnder, ReadsAsLog, Verdict, all_found, is_complete, list_matches, list_verdict_of, matches, most_after, pcr_after_log_and_list, required_found, required_list_matches, required_matches, verdict_of, verdict_under, wide_rule}
use Rattle.boot_verdict.specs.declared.report.PrefixReport.{PrefixReport}
use Rattle.boot_verdict.specs.declared.report.Report.{Report}
use Rattle.known_files.specs.declared.fault.KnownFault.{KnownFault}
use Rattle.known_files.specs.declared.known.KnownFiles.{KnownFiles}
use Rattle.known_files.specs.declared.listed.ListedFiles.{ListedFiles}
use Rattle.known_files.specs.declared.unknown.UnknownFiles.{UnknownFiles}
use Rattle.known_files.specs.declared.unknown.UnknownEntries.{UnknownEntries}
use Rattle.known_files.specs.Known.{HoldsAll, Knows}
use Rattle.known_files.specs.Listing.{BeginsWithGood, HasFaultOfFirst, IsGoodText}
use Rattle.known_files.specs.Unknown.{AreUnknown, IsLookedAfter, has_no_unknown}
use Rattle.tpm_quotes.specs.Quoting.{Values, confirms}
use Rattle.tpm_quotes.specs.Spelling.{IsQuote, TpmQuote, quote_of}
use Rattle.attestations.specs.declared.expected.ExpectedValues.{ExpectedValues}
use Rattle.attestations.specs.declared.expected.ExpectedValues.TheVariants.{NotGiven}
use Rattle.attestations.specs.declared.report.AttestReport.{AttestReport}
use Rattle.attestations.specs.declared.policy.QuoteRefusal.{QuoteRefusal}
use Rattle.attestations.specs.Attesting.{IsQuoteRefusal}
use Rattle.attestations.specs.Confirming.{confirmed_by, expected_values}
use Rattle.attestations.specs.Judging.{quote_refusal}
use Rattle.attestations.specs.Policies.{Terms, policy_fault}
use Rattle.attestations.specs.Quoted.{stated_by}
use Rattle.attestations.specs.Reports.{AttestVerdict, attest_verdict_of, is_attested, is_signed}
use Rattle.attestations.specs.declared.signature.SignatureState.{SignatureState}
use Rattle.attestations.specs.declared.signature.SignatureState.TheVariants as states
use Rattle.signed_messages.specs.declared.check_fault.CheckFault.{CheckFault}
use Rattle.signed_messages.specs.KeyTexts.{IsCheckFault, IsSignedByText}
use Rattle.tpm_keys.specs.declared.fault.KeyFault.{KeyFault}
use Rattle.tpm_keys.specs.declared.kinds.Purpose.{Purpose}
use Rattle.tpm_keys.specs.Purposes.{lack}
use Rattle.tpm_keys.specs.Reading.{key_fault}
use Rattle.tpm_keys.specs.Reports.{IsKey}
use Rattle.tpm_keys.specs.Spelling.{IsPublicArea, KeyArea}
use Rattle.growing_lists.specs.declared.session.Session.{Session}
use Rattle.growing_lists.specs.declared.saved_state.Boot.{Boot}
use Rattle.growing_lists.specs.declared.saved_state.SavedState.{SavedState}
use Rattle.growing_lists.specs.CheckpointData.{IsPossible, IsPossibleState, boot_of}
use Rattle.growing_lists.specs.Goals.{GoalData, OfExpected, OfQuote, SoughtData}
use Rattle.growing_lists.specs.Prefixes.{AreUnconfirmed, IsConfirmed, IsWrongWith}
use Rattle.growing_lists.specs.Sessions.{HasTaken, IsOfBoot}
use Rattle.agent_plans.specs.declared.plan.Scope.{Scope}
use Rattle.agent_plans.specs.declared.plan.Scope.TheVariants.{Whole, Prefix}
use Rattle.agent_inputs.specs.declared.fault.NotResumed.TheVariants.{OtherBoot, OtherCounts, Damaged, Version}
use Rattle.agent_inputs.specs.declared.fault.RunFault.{RunFault}
use Rattle.agent_inputs.specs.declared.fault.RunFault.TheVariants as runs
use Rattle.agent_inputs.specs.Faults.{HasLogFault, fault_of_check, fault_of_expected, fault_of_known}
use Rattle.agent_inputs.specs.Loading.{GivesAll, HasFailed, Inputs}
use Rattle.judging.specs.declared.request.Answer.{Answer}
use Rattle.judging.specs.declared.request.Answer.TheVariants as answers
use Rattle.judging.specs.declared.request.Found.{Found}
use Rattle.judging.specs.declared.request.ScopedReport.{ScopedReport}
use Rattle.judging.specs.declared.request.ScopedReport.TheVariants as judged
use Rattle.judging.specs.Requests.{AttestRequested, Attests, ByCaller, ByKey, NotChecked, Signing, Judgement, ListVerdictOf, PositionsOf, VerdictOf, WholeVerdictOf, Requested, Compared, Compares, ExpectedOf, KeyOf, ListRegistersOf, LogRegistersOf, Nothing, Requires, These, held_bytes, log_of, resume_of, rule_by, takes_known, verdict_asked}
use Rattle.judging.specs.Inputs.{IsFaultAt, IsNotOpened, MayFail, OfInput, Where, held_in, limit_of, Holds, IsInputFault}
use Rattle.pcr_banks.specs.declared.banks.Banks.{Banks}
use Rattle.pcr_banks.specs.Names.{IsReset, value_at}
use Rattle.growing_lists.specs.CheckpointTexts.{IsOfOtherVersion, IsOfThisVersion, checkpoint_text}
use Rattle.judging.specs.declared.request.Answered.{Answered}
use Rattle.judging.specs.declared.answers.Evidence.{Evidence as HeldEvidence}

-- What a list is judged with: the registers that are required, if a text spells some; the log, no bytes without one; the expected
-- registers, beside a quote those that count; the quote, if there is one, what is known of its signature, and what came of the values of expected
-- registers beside it; by which rule the boot aggregate is taken; the checkpoint that is gone on from, if there is one; and the files that are known,
-- if files have to be known.
pub record Evidence : Type 0 where
  pub required : Option (List BankRange)
  pub log : List ℕ
  pub expected : List Expected
  pub quote : Option TpmQuote
  pub signature : SignatureState
  pub values : ExpectedValues
  pub rule : AggregateRule
  pub checkpoint : Option Checkpoint
  pub known_files : Option KnownFiles

-- What a prefix is confirmed by: the quote, if there is one; else the expected registers.
abbrev pub sought_by : Option TpmQuote → List Expected → SoughtData
sought_by (Some quote) expected = OfQuote quote
sought_by None expected = OfExpected expected

abbrev pub goal_in : Evidence → GoalData
goal_in evidence = record { sought = sought_by evidence.quote evidence.expected; rule = evidence.rule }

-- Whether one can be confirmed: there is a quote; or some register is expected, and all that is required.
abbrev pub can_confirm : Option TpmQuote → Option (List BankRange) → List Expected → Bool
can_confirm (Some quote) required expected = true
can_confirm None None expected = not (length expected == 0)
can_confirm None (Some ranges) expected = is_complete ranges expected

-- A prefix is asked for, and one can be confirmed.
abbrev pub seeks_prefix : Scope → Evidence → Bool
seeks_prefix Whole evidence = false
seeks_prefix Prefix evidence = can_confirm evidence.quote evidence.required evidence.expected

-- ---- what is gone on from

-- The list that was taken before: none; or any that has this checkpoint.
abbrev pub IsTaken : Option Checkpoint → List ℕ → Type 0
IsTaken None list = list ≡ []
IsTaken (Some known) list = IsCheckpoint list known

-- How many entries it has.
abbrev pub entries_taken : Option Checkpoint → ℕ
entries_taken known = option_map_or (λ known. known.entries) known 0

-- How many bytes of the input may follow it.
abbrev pub most_more : Option Checkpoint → Where → ℕ
most_more known place = option_map_or (λ known. most_after known (limit_of place)) known (limit_of place)

-- This holds of the list that was taken before and of what the input adds to it, whatever that list was.
abbrev pub OfMore : Inputs → Where → Option Checkpoint → (List ℕ → List ℕ → Type 0) → Type 0
OfMore inputs place known P = (taken : List ℕ) → IsTaken known taken → OfInput inputs place (P taken)

-- This holds of the list that both make.
abbrev pub OfList : Inputs → Where → Option Checkpoint → (List ℕ → Type 0) → Type 0
OfList inputs place known P = OfMore inputs place known (λ taken more. P (taken ++ more))

-- ---- which entries are unknown

-- These are the unknown ones of the entries from number `first` on, by the texts that list the known files.
pub record IsUnknownOf (files : KnownFiles) (first : ℕ) (entries : List ListEntry) (unknown : UnknownFiles) : Type 0 where
  pub first_is : unknown.first ≡ first
  pub numbers_are : (texts : List (List ℕ)) → Knows texts files → AreUnknown texts first entries unknown.numbers.items

-- What an answer tells of the entries that it is on, of which so many were taken before: which of the others are unknown; nothing if no file
-- has to be known.
abbrev pub TellsUnknown : Option KnownFiles → ℕ → Option UnknownFiles → List ListEntry → Type 0
TellsUnknown None first unknown entries = unknown ≡ None
TellsUnknown (Some files) first unknown entries = IsSomeAnd unknown (IsUnknownOf files first entries)

-- ---- what is judged

-- This is the checkpoint of the list, in the boot of this log, and its text can be gone on from.
pub record IsNext (log list : List ℕ) (next : Checkpoint) : Type 0 where
  pub checkpoint : IsCheckpoint list next
  pub boot : IsOfBoot log next
  pub possible : IsPossible next

-- No prefix of these entries is confirmed, with as many of them as were taken before, or more.
abbrev pub AreUnconfirmedAfter : Evidence → List ListEntry → Type 0
AreUnconfirmedAfter evidence entries =
    (table : List DeclaredAlgorithm) (events : List LogEvent) → IsLog evidence.log table events
    → AreUnconfirmed (algs_in table) events (goal_in evidence) (entries_taken evidence.checkpoint) entries

-- No prefix of the list is confirmed.
abbrev pub HasNoPrefix : Evidence → List ℕ → Type 0
HasNoPrefix evidence list = (entries : List ListEntry) × IsReading list (Ok entries) × AreUnconfirmedAfter evidence entries

-- The report is on the confirmed prefix of the list, no shorter than what was taken before; this is the checkpoint of the prefix; and its
-- entries have this property.
pub record IsPrefixOf (evidence : Evidence) (Tells : List ListEntry → Type 0) (list : List ℕ) (report : PrefixReport) (next : Checkpoint) : Type 0 where
  pub table : List DeclaredAlgorithm
  pub events : List LogEvent
  pub prefix : List ListEntry
  pub rest : List ℕ
  pub log_is : IsLog evidence.log table events
  pub begins : BeginsWith list prefix rest
  pub confirmed : IsConfirmed (algs_in table) events (goal_in evidence) (entries_taken evidence.checkpoint) prefix
  pub verdict_is : verdict_of report.report ≡ verdict_under evidence.rule (algs_in table) events prefix evidence.expected
  pub next_is : IsNext evidence.log (list_spelling prefix) next
  pub tells : Tells prefix

-- The list is refused only if no prefix is confirmed: of the entries before the one that the fault names, or of all.
abbrev pub IsUnconfirmedIn : Inputs → Where → Evidence → VerifyFault → Type 0
IsUnconfirmedIn inputs place evidence (verdicts.List first) = OfList inputs place evidence.checkpoint (λ list.
    (entries : List ListEntry) × (rest : List ℕ) × (list_fault_entry first ≡ Some (length entries)) × BeginsWith list entries rest
    × AreUnconfirmedAfter evidence entries)
IsUnconfirmedIn inputs place evidence (verdicts.Replay first) = OfList inputs place evidence.checkpoint (HasNoPrefix evidence)
IsUnconfirmedIn inputs place evidence first = Unit {0}

-- This was judged on this evidence and the list of this input; and this is where to go on. A verdict is on a log that leaves the registers
-- before what is gone on from, and on the whole list, of which no prefix is confirmed, if one is sought; or on its confirmed prefix. The entries
-- that it is on have the property `Tells`.
abbrev pub IsVerdictOn : Inputs → Scope → Where → Evidence → (List ListEntry → Type 0) → ScopedReport → Checkpoint → Type 0
IsVerdictOn inputs scope list evidence Tells (judged.Whole report) next =
    IfSome evidence.checkpoint (IsOfBoot evidence.log)
    × OfMore inputs list evidence.checkpoint (λ taken more. (length more ≤ most_more evidence.checkpoint list)
    × IsVerdictUnder evidence.rule evidence.log (taken ++ more) evidence.expected (verdict_of report)
    × ((next_is : IsNext evidence.log (taken ++ more) next) × Tells next_is.checkpoint.entries))
    × (seeks_prefix scope evidence ≡ true → OfList inputs list evidence.checkpoint (HasNoPrefix evidence))
IsVerdictOn inputs scope list evidence Tells (judged.Prefix report) next =
    IfSome evidence.checkpoint (IsOfBoot evidence.log)
    × (seeks_prefix scope evidence ≡ true)
    × OfList inputs list evidence.checkpoint (λ all. IsPrefixOf evidence Tells all report next)
    × OfList inputs list evidence.checkpoint (λ all. IsWrongWith all report.entries report.unconfirmed)

-- What a report by a quote says of what was judged, a whole list or its confirmed prefix, by these values of the registers after it.
abbrev pub told_by : TpmQuote → SignatureState → ExpectedValues → Values → ScopedReport → AttestVerdict
told_by quote signature values registers (judged.Whole report) = record {
  quoted = stated_by quote;
  verdict = verdict_of report;
  prefix = None;
  expected = values;
  is_quoted = confirms quote registers;
  signature = signature;
}
told_by quote signature values registers (judged.Prefix report) = record {
  quoted = stated_by quote;
  verdict = verdict_of report.report;
  prefix = Some (record { entries = report.entries; unconfirmed = report.unconfirmed });
  expected = values;
  is_quoted = confirms quote registers;
  signature = signature;
}

-- The answer is the report on what was judged: where there is a quote, a report by the quote and by these values of the registers.
abbrev pub IsAnswerOn : Option TpmQuote → SignatureState → ExpectedValues → ScopedReport → Values → Answer → Type 0
IsAnswerOn None signature values (judged.Whole report) registers answer = answer ≡ answers.Report report
IsAnswerOn None signature values (judged.Prefix report) registers answer = answer ≡ answers.Prefix report
IsAnswerOn (Some quote) signature values on registers answer =
    (report : AttestReport) × (answer ≡ answers.Attestation report) × (attest_verdict_of report ≡ told_by quote signature values registers on)

-- What was judged, where it is a whole list.
abbrev pub whole_of : Report → ScopedReport
whole_of report = judged.Whole report

-- The answer is on the log and on this list, the whole of an input, and nobody goes on from it: the report is the verdict on both, the registers
-- are those after both, and these are the unknown ones of the list's entries.
pub record IsOnWhole (place : Where) (evidence : Evidence) (answer : Answer) (unknown : Option UnknownFiles) (list : List ℕ) : Type 0 where
  pub report : Report
  pub within : length list ≤ limit_of place
  pub verdict_is : IsVerdictUnder evidence.rule evidence.log list evidence.expected (verdict_of report)
  pub unknown_are : TellsUnknown evidence.known_files 0 unknown verdict_is.entries
  pub answer_is : IsAnswerOn evidence.quote evidence.signature evidence.values (whole_of report)
      (pcr_after_log_and_list (algs_in verdict_is.table) verdict_is.events verdict_is.entries) answer

-- The answer is on this evidence and the list of this input; this is where to go on; and these are the unknown ones of the entries that the
-- answer is on, without those of the list that was taken before.
abbrev pub IsJudged : Inputs → Judgement → Where → Evidence → Answer → Option Checkpoint → Option UnknownFiles → Type 0
IsJudged inputs (VerdictOf place scope resume) list evidence answer (Some next) unknown =
    (on : ScopedReport) × IsVerdictOn inputs scope list evidence (TellsUnknown evidence.known_files (entries_taken evidence.checkpoint) unknown) on next
    × IsAnswerOn evidence.quote evidence.signature evidence.values on (value_at next.after) answer
IsJudged inputs (WholeVerdictOf place) list evidence answer None unknown = OfInput inputs list (IsOnWhole list evidence answer unknown)
IsJudged inputs (PositionsOf place) list evidence (answers.Positions located) None unknown =
    OfInput inputs list (λ all. AreLocated evidence.log all evidence.expected located.items) × (unknown ≡ None)
IsJudged inputs ListVerdictOf list evidence (answers.ListReport report) None unknown =
    OfInput inputs list (λ all. (is : IsListVerdict all evidence.expected (list_verdict_of report)) × TellsUnknown evidence.known_files 0 unknown is.entries)
IsJudged inputs judgement list evidence answer next unknown = ⊥

-- ---- why there is no answer

-- The log is refused; or it is valid, and leaves other registers than those before the checkpoint.
abbrev pub IsLogRefused : List ℕ → Option Checkpoint → RunFault → Type 0
IsLogRefused log known fault =
    HasLogFault log fault ⊎ ((fault ≡ runs.Checkpoint OtherBoot) × IsSomeAnd known (λ known. ReadsAsLog log × (IsOfBoot log known → ⊥)))

-- Why the input is not taken as what goes on after this list, of which no more than `most` bytes may follow.
abbrev pub IsRefusedAfter : Inputs → Where → ℕ → List ℕ → VerifyFault → Type 0
IsRefusedAfter inputs place most taken (verdicts.Log first) = ⊥
IsRefusedAfter inputs place most taken (verdicts.List first) = OfInput inputs place (λ more. IsReading (taken ++ more) (Err first))
IsRefusedAfter inputs place most taken (verdicts.Replay first) = OfInput inputs place (λ more. IsForged (taken ++ more) first)
IsRefusedAfter inputs place most taken verdicts.Source = MayFail inputs place
IsRefusedAfter inputs place most taken verdicts.TooLong = OfInput inputs place (λ more.
    (prefix : List ℕ) × (over : List ℕ) × (more ≡ prefix ++ over) × (length prefix ≡ most) × (0 < length over) × IsSound (taken ++ prefix))
IsRefusedAfter inputs place most taken verdicts.Memory = Unit {0}

-- The list of this input is refused: the first reason, or memory ran out.
abbrev pub IsRefusedList : Inputs → Where → RunFault → Type 0
IsRefusedList inputs list fault =
    (first : VerifyFault) × IsRefusedAfter inputs list (limit_of list) [] first × IsFaultAt list first fault

-- The log is valid, and what the input adds to a list is refused: the first reason, or memory ran out. If a prefix is sought, none is
-- confirmed before what is refused.
pub record IsNotTaken (inputs : Inputs) (scope : Scope) (list : Where) (evidence : Evidence) (fault : RunFault) : Type 0 where
  pub first : VerifyFault
  pub log_is : ReadsAsLog evidence.log
  pub boot : IfSome evidence.checkpoint (IsOfBoot evidence.log)
  pub first_is : (taken : List ℕ) → IsTaken evidence.checkpoint taken → IsRefusedAfter inputs list (most_more evidence.checkpoint list) taken first
  pub unconfirmed : seeks_prefix scope evidence ≡ true → IsUnconfirmedIn inputs list evidence first
  pub says : IsFaultAt list first fault

-- Why there is no answer on this evidence and what the list has: the log is refused, or of another boot than the checkpoint; or the list
-- is refused.
abbrev pub IsNotJudged : Inputs → Judgement → Where → Evidence → RunFault → Type 0
IsNotJudged inputs (VerdictOf place scope resume) list evidence fault =
    IsLogRefused evidence.log evidence.checkpoint fault ⊎ IsNotTaken inputs scope list evidence fault
IsNotJudged inputs (WholeVerdictOf place) list evidence fault =
    HasLogFault evidence.log fault ⊎ (ReadsAsLog evidence.log × IsRefusedList inputs list fault)
IsNotJudged inputs (PositionsOf place) list evidence fault =
    HasLogFault evidence.log fault ⊎ (ReadsAsLog evidence.log × IsRefusedList inputs list fault)
IsNotJudged inputs ListVerdictOf list evidence fault = IsRefusedList inputs list fault

-- Why nothing is found in the list of this input: it could not be opened; or there is no answer.
abbrev pub IsNotFound : Inputs → Judgement → Where → Evidence → RunFault → Type 0
IsNotFound inputs judgement list evidence fault = IsNotOpened inputs list fault ⊎ IsNotJudged inputs judgement list evidence fault

-- ---- a list from one source

-- The source gives all bytes of the input, and fails only where that may.
pub record GivesInput (inputs : Inputs) (place : Where) (old new : SourceState) : Type 0 where
  pub all : GivesAll (held_in inputs place) old
  pub failing : HasFailed old new → MayFail inputs place

-- The session is of this log, and has taken the list that was taken before.
pub record IsStarted (log : List ℕ) (known : Option Checkpoint) (session : Session) : Type 0 where
  pub valid : ReadsAsLog log
  pub boot : IfSome known (IsOfBoot log)
  pub takes : (taken : List ℕ) → IsTaken known taken → HasTaken log taken session
  pub count : session.checkpoint.entries ≡ entries_taken known
  pub most : (place : Where) → most_after session.checkpoint (limit_of place) ≡ most_more known place

-- If this is the checkpoint of a list, it is read back from its text.
abbrev pub CanBeReadBack : Checkpoint → Type 0
CanBeReadBack known = (list : List ℕ) → IsCheckpoint list known → IsPossible known

-- What was found in the list of this input, or why nothing was.
abbrev pub Finds : Inputs → Judgement → Where → Evidence → Result Found RunFault → Type 0
Finds inputs judgement list evidence result =
    MatchResult result (λ found. IsJudged inputs judgement list evidence found.answer found.next found.unknown)
    (IsNotFound inputs judgement list evidence)

-- So it is in the list of each input that the source gives.
abbrev pub FindsFrom : Judgement → Where → Evidence → SourceState → SourceState → Result Found RunFault → Type 0
FindsFrom judgement list evidence old new result = (inputs : Inputs) → GivesInput inputs list old new → Finds inputs judgement list evidence result

-- The watch that began as this one has looked at the entries of a list that begins with these.
abbrev pub HasWatched : UnknownEntries → UnknownEntries → List ListEntry → Type 0
HasWatched start watch entries = (all : List ListEntry) × (take (length entries) all ≡ entries) × AreTracked IsLookedAfter start all watch

-- The watch begins after the list that was taken before: it looks at none of its entries.
abbrev pub BeginsAfter : Option Checkpoint → UnknownEntries → Type 0
BeginsAfter known start = (entries : List ListEntry) → length entries ≡ entries_taken known → AreTracked IsLookedAfter start entries start

-- So it is where a session goes on from what is known, if its checkpoint can be read back; and the watch, which begins there, has looked at the
-- entries that the verdict is on.
abbrev pub JudgesFrom : Scope → Where → Evidence → UnknownEntries → SourceState → SourceState → Session → Session
    → Result (ScopedReport × UnknownEntries) RunFault → Type 0
JudgesFrom scope list evidence start old new before after result =
    (inputs : Inputs) (log : Where) (resume : Option Where) → GivesInput inputs list old new → IsStarted evidence.log evidence.checkpoint before
    → BeginsAfter evidence.checkpoint start
    → MatchResult result (λ found. CanBeReadBack after.checkpoint
    → IsVerdictOn inputs scope list evidence (HasWatched start found.1) found.0 after.checkpoint)
    (IsNotFound inputs (VerdictOf log scope resume) list evidence)

-- ---- evidence

-- These registers are required: those that the text spells; none are without a text.
abbrev pub IsRequired : Requires → Option (List BankRange) → Type 0
IsRequired (These text) ranges = IsSomeAnd ranges (IsRequirementText text)
IsRequired requires ranges = ranges ≡ None

-- Why a text that is given requires nothing: it spells no registers; or its first part does, and memory ran out.
abbrev pub IsNotRequired : Requires → RunFault → Type 0
IsNotRequired (These text) fault =
    ((fault ≡ runs.Usage) × ((ranges : List BankRange) → IsRequirementText text ranges → ⊥))
    ⊎ ((fault ≡ runs.Memory) × BeginsWithBankRange text)
IsNotRequired requires fault = ⊥

-- The text is that of this state, which is possible. Any other possible one of which it is has the same data, and so its checkpoint is that of
-- the same lists and boots.
abbrev pub IsCheckpointText : List ℕ → SavedState → Type 0
IsCheckpointText text state = IsPossibleState state × (text ≡ checkpoint_text state)

-- What is gone on from: the state in the input, if there is one.
abbrev pub IsResumedState : Inputs → Option Where → Option SavedState → Type 0
IsResumedState inputs resume known =
    MatchOption resume (known ≡ None) (λ place. IsSomeAnd known (λ state. OfInput inputs place (λ text. IsCheckpointText text state)))

-- The checkpoint in a state, if there is one; and the state that has a checkpoint, if there is one, and this boot.
abbrev pub checkpoint_of : Option SavedState → Option Checkpoint
checkpoint_of known = option_map (λ state. state.checkpoint) known

abbrev pub state_after : Option Boot → Option Checkpoint → Option SavedState
state_after boot next = option_map (λ checkpoint. record { checkpoint = checkpoint; boot = boot }) next

-- These are the texts of these inputs, in order, and each line of them says a digest that is not by SHA-1.
abbrev pub AreKnownTexts : Inputs → List Where → List (List ℕ) → Type 0
AreKnownTexts inputs [] [] = Unit {0}
AreKnownTexts inputs (place ∷ places) (text ∷ texts) = Holds inputs place text × IsGoodText text × AreKnownTexts inputs places texts
AreKnownTexts inputs places texts = ⊥

-- The text of this input is one of known files; and `new` has what `old` has, and what the text lists.
pub record ListsAlso (inputs : Inputs) (place : Where) (old new : ListedFiles) : Type 0 where
  pub text : List ℕ
  pub holds : Holds inputs place text
  pub good : IsGoodText text
  pub lists : (texts : List (List ℕ)) → HoldsAll texts old → HoldsAll (texts ++ text ∷ []) new

-- The files that are known: those whose digests the texts of these inputs list. Without such an input no file has to be known.
abbrev pub AreKnownFiles : Inputs → List Where → Option KnownFiles → Type 0
AreKnownFiles inputs [] files = files ≡ None
AreKnownFiles inputs (place ∷ places) files =
    IsSomeAnd files (λ files. (texts : List (List ℕ)) × AreKnownTexts inputs (place ∷ places) texts × Knows texts files)

-- What is judged with is what the text requires, and what the inputs have that are asked for.
pub record IsEvidence (inputs : Inputs) (request : Compared) (evidence : Evidence) : Type 0 where
  pub required_are : IsRequired request.required evidence.required
  pub log_is : MatchOption (log_of request.judgement) (evidence.log ≡ []) (λ place. Holds inputs place evidence.log)
  pub expected_are : OfInput inputs request.expected (λ text. IsExpectedText text evidence.expected)
  pub none_quoted : evidence.quote ≡ None
  pub rule_is : evidence.rule ≡ rule_by request.required request.old_kernel
  pub state : Option SavedState
  pub state_is : IsResumedState inputs (resume_of request.judgement) state
  pub checkpoint_is : evidence.checkpoint ≡ checkpoint_of state
  pub files_are : AreKnownFiles inputs request.known evidence.known_files

abbrev pub evidence_of : HeldEvidence → Evidence
evidence_of held = record {
  required = held.requirement;
  log = held_bytes held.log;
  expected = held.expected.items;
  quote = option_map (λ quote. quote_of quote.now) held.quote;
  signature = held.signature;
  values = held.values;
  rule = held.rule;
  checkpoint = held.checkpoint;
  known_files = held.known_files;
}

-- Why a text is not read as a checkpoint: it is of another version; or it is not, and no possible checkpoint's text; or it begins as one of this
-- version does, and memory ran out.
abbrev pub IsNoCheckpoint : List ℕ → RunFault → Type 0
IsNoCheckpoint text fault =
    ((fault ≡ runs.Checkpoint Version) × IsOfOtherVersion text)
    ⊎ ((fault ≡ runs.Checkpoint Damaged) × (IsOfOtherVersion text → ⊥)
    × ((state : SavedState) → IsPossibleState state → text ≡ checkpoint_text state → ⊥))
    ⊎ ((fault ≡ runs.Memory) × IsOfThisVersion text)

-- Why a text does not state expected registers: the fault is that of its first wrong line; or its first lines state one, and memory ran out.
abbrev pub IsNotExpected : List ℕ → RunFault → Type 0
IsNotExpected text fault =
    ((first : ExpectFault) × HasFirstFault text first × (fault ≡ fault_of_expected first))
    ⊎ ((fault ≡ runs.Memory) × BeginsWithRegister text)

-- Why a text, the file of this number, is none of known files: the fault is that of its first wrong line; or its first line is good, and memory
-- ran out.
abbrev pub IsNoKnownText : List ℕ → ℕ → RunFault → Type 0
IsNoKnownText text file fault =
    ((first : KnownFault) × HasFaultOfFirst text first × (fault ≡ fault_of_known file first))
    ⊎ ((fault ≡ runs.Memory) × BeginsWithGood text)

-- Why the input, the file of this number, gives no text of known files: it was not loaded, or its text is none.
abbrev pub IsTextRefused : Inputs → Where → ℕ → RunFault → Type 0
IsTextRefused inputs place file fault = IsInputFault inputs place fault ⊎ OfInput inputs place (λ text. IsNoKnownText text file fault)

-- The first of these inputs that gives no text of known files, and why. Files are counted from 1.
pub record IsFirstNotKnown (inputs : Inputs) (places : List Where) (fault : RunFault) : Type 0 where
  pub before : List Where
  pub place : Where
  pub after : List Where
  pub texts : List (List ℕ)
  pub parts : places ≡ before ++ place ∷ after
  pub good : AreKnownTexts inputs before texts
  pub why : IsTextRefused inputs place (length before + 1) fault

-- Why there is no evidence, where a text that is given spells registers: an input was not loaded; the text does not state expected
-- registers; it does, and the input to go on from has no checkpoint; or that has one, or there is no such input, and an input gives no text of
-- known files.
abbrev pub HasNoEvidence : Inputs → Compared → RunFault → Type 0
HasNoEvidence inputs request fault =
    IsSomeAnd (log_of request.judgement) (λ place. IsInputFault inputs place fault)
    ⊎ IsInputFault inputs request.expected fault
    ⊎ OfInput inputs request.expected (λ text. IsNotExpected text fault)
    ⊎ (((expected : List Expected) × OfInput inputs request.expected (λ text. IsExpectedText text expected))
    × IsSomeAnd (resume_of request.judgement) (λ place. IsInputFault inputs place fault ⊎ OfInput inputs place (λ text. IsNoCheckpoint text fault)))
    ⊎ (((expected : List Expected) × OfInput inputs request.expected (λ text. IsExpectedText text expected))
    × ((state : Option SavedState) × IsResumedState inputs (resume_of request.judgement) state) × IsFirstNotKnown inputs request.known fault)

-- ---- what is compared

-- Whether a verdict is 'match' where no text spells what is required: all that is compared matches, and something is compared, unless
-- nothing has to be.
abbrev pub is_match : Requires → Verdict → Bool
is_match Nothing verdict = matches verdict
is_match requires verdict = matches verdict && not (length verdict.rows == 0)

-- Whether an answer is good: the verdict is 'match', or each register was located; and no register is missing of those that are required, if a
-- text spells some. (A prefix is confirmed only where some register is expected.) So it is with registers, which are compared with none.
abbrev pub is_good : Requires → Option (List BankRange) → Answer → Bool
is_good requires None (answers.Report report) = is_match requires (verdict_of report)
is_good requires (Some ranges) (answers.Report report) = required_matches ranges (verdict_of report)
is_good requires None (answers.Prefix prefix) = matches (verdict_of prefix.report)
is_good requires (Some ranges) (answers.Prefix prefix) = required_matches ranges (verdict_of prefix.report)
is_good requires None (answers.Positions positions) = all_found positions.items
is_good requires (Some ranges) (answers.Positions positions) = required_found ranges positions.items
is_good requires None (answers.ListReport report) = list_matches (list_verdict_of report)
is_good requires (Some ranges) (answers.ListReport report) = required_list_matches ranges (list_verdict_of report)
is_good requires ranges (answers.Attestation report) = is_signed report.signature && is_attested (attest_verdict_of report)
is_good requires ranges answer = true

-- Whether all is well: no entry is told unknown, and the answer is good.
abbrev pub is_success : Requires → Option (List BankRange) → Option UnknownFiles → Answer → Bool
is_success requires ranges unknown answer = has_no_unknown unknown && is_good requires ranges answer

-- This is what comes of what is compared, and what it is worth. Nobody goes on from it, unless all is well; and no quote tells the boot.
pub record IsComparison (inputs : Inputs) (request : Compared) (given : Answered) : Type 0 where
  pub evidence : Evidence
  pub next : Option Checkpoint
  pub takes : takes_known request.judgement request.required request.known ≡ true
  pub evidence_is : IsEvidence inputs request evidence
  pub requirement_is : given.requirement ≡ evidence.required
  pub judged : IsJudged inputs request.judgement request.list evidence given.answer next given.unknown
  pub success_is : given.is_success ≡ is_success request.required given.requirement given.unknown given.answer
  pub next_is : given.next ≡ (if given.is_success then state_after None next else None)

-- Why nothing comes of what is compared, where known files are asked for as they can be, or are not: the text spells no registers; it spells
-- some or is not given, and there is no evidence; or there is, and no answer.
abbrev pub IsNotCompared : Inputs → Compared → RunFault → Type 0
IsNotCompared inputs request fault =
    IsNotRequired request.required fault
    ⊎ (((required : Option (List BankRange)) × IsRequired request.required required) × HasNoEvidence inputs request fault)
    ⊎ ((evidence : Evidence) × IsEvidence inputs request evidence × IsNotFound inputs request.judgement request.list evidence fault)

-- Why nothing comes of what is compared: known files are asked for as they cannot be; or they are not, and this is why.
abbrev pub IsNoComparison : Inputs → Compared → RunFault → Type 0
IsNoComparison inputs request fault =
    ((fault ≡ runs.Usage) × (takes_known request.judgement request.required request.known ≡ false))
    ⊎ ((takes_known request.judgement request.required request.known ≡ true) × IsNotCompared inputs request fault)

-- ---- what is judged by a quote

-- The terms of what is asked, where its text spells these ranges.
abbrev pub terms_with : AttestRequested → List BankRange → Terms
terms_with asked ranges = record { nonce = asked.nonce; required = ranges; takes_sha1 = asked.takes_sha1; rule = wide_rule asked.old_kernel }

-- The text spells these ranges, and with them the terms are sound.
abbrev pub AreTaken : AttestRequested → List BankRange → Type 0
AreTaken asked ranges = IsRequirementText asked.required ranges × (policy_fault (terms_with asked ranges) ≡ None)

-- The inputs have a key, and a signature of the message by this key.
abbrev pub IsSignedByInputs : Inputs → Where → Where → List ℕ → Type 0
IsSignedByInputs inputs key signature message =
    OfInput inputs key (λ key. OfInput inputs signature (λ signature. IsSignedByText key message signature))

-- This is known of the message's signature: nothing; that the caller says that he has verified it; or that it is valid, and then the inputs have a
-- key, and a signature of these very bytes by it.
abbrev pub IsVouched : Inputs → Signing → List ℕ → SignatureState → Type 0
IsVouched inputs NotChecked message state = state ≡ states.NotChecked
IsVouched inputs ByCaller message state = state ≡ states.Checked
IsVouched inputs (ByKey key signature) message state = (state ≡ states.Valid) × IsSignedByInputs inputs key signature message

-- These are the bytes of the message's input, this is known of their signature, and they are this quote, which is the one that is asked for.
pub record IsAskedFor (inputs : Inputs) (asked : AttestRequested) (ranges : List BankRange) (message : List ℕ) (signature : SignatureState)
    (quote : TpmQuote) : Type 0 where
  pub message_is : Holds inputs asked.message message
  pub vouched : IsVouched inputs asked.signing message signature
  pub quote_is : IsQuote message quote
  pub not_refused : quote_refusal quote (terms_with asked ranges) ≡ None

-- What the input of expected registers states; nothing without one.
abbrev pub IsStated : Inputs → Option Where → Option (List Expected) → Type 0
IsStated inputs expected stated =
    MatchOption expected (stated ≡ None) (λ place. IsSomeAnd stated (λ stated. OfInput inputs place (λ text. IsExpectedText text stated)))

-- What came of the values that are stated, if any are, and the registers that count.
abbrev pub values_by : TpmQuote → Option (List Expected) → ExpectedValues
values_by quote None = NotGiven
values_by quote (Some stated) = expected_values quote stated

abbrev pub counted_by : TpmQuote → Option (List Expected) → List Expected
counted_by quote None = []
counted_by quote (Some stated) = confirmed_by quote stated

-- This came of the values that the input of expected registers states, and these registers of it count.
pub record AreCounted (inputs : Inputs) (expected : Option Where) (quote : TpmQuote) (values : ExpectedValues) (counted : List Expected) : Type 0 where
  pub stated : Option (List Expected)
  pub stated_is : IsStated inputs expected stated
  pub values_is : values ≡ values_by quote stated
  pub counted_is : counted ≡ counted_by quote stated

-- What a list is judged with by a quote, with the expected registers that count.
abbrev pub quoted_evidence : AggregateRule → List ℕ → TpmQuote → SignatureState → ExpectedValues → List Expected → Option Checkpoint
    → Option KnownFiles → Evidence
quoted_evidence rule log quote signature values counted checkpoint known_files = record {
  required = None;
  log = log;
  expected = counted;
  quote = Some quote;
  signature = signature;
  values = values;
  rule = rule;
  checkpoint = checkpoint;
  known_files = known_files;
}

-- A quote confirmed the state, in the boot in which the TPM made this one.
abbrev pub IsOfQuote : TpmQuote → SavedState → Type 0
IsOfQuote quote state = state.boot ≡ Some (boot_of quote)

-- This is what comes of a log, a list and a quote, and what it is worth: nobody goes on from it, unless all is well. What is gone on from is of
-- the quote's boot, and so is what is saved.
pub record IsAttestation (inputs : Inputs) (asked : AttestRequested) (given : Answered) : Type 0 where
  pub ranges : List BankRange
  pub message : List ℕ
  pub signature : SignatureState
  pub quote : TpmQuote
  pub log : List ℕ
  pub values : ExpectedValues
  pub counted : List Expected
  pub state : Option SavedState
  pub files : Option KnownFiles
  pub next : Option Checkpoint
  pub taken : AreTaken asked ranges
  pub asked_for : IsAskedFor inputs asked ranges message signature quote
  pub log_is : Holds inputs asked.log log
  pub counted_are : AreCounted inputs asked.expected quote values counted
  pub state_is : IsResumedState inputs asked.resume state
  pub boot_is : IfSome state (IsOfQuote quote)
  pub files_are : AreKnownFiles inputs asked.known files
  pub judged : IsJudged inputs (verdict_asked asked) asked.list
      (quoted_evidence (wide_rule asked.old_kernel) log quote signature values counted (checkpoint_of state) files) given.answer next given.unknown
  pub none_required : given.requirement ≡ None
  pub success_is : given.is_success ≡ is_success Nothing None given.unknown given.answer
  pub next_is : given.next ≡ (if given.is_success then state_after (Some (boot_of quote)) next else None)

-- The input to go on from has no checkpoint; or it has one, and that is not of the quote's boot, or no quote confirmed it.
abbrev pub IsNotOfQuote : Inputs → TpmQuote → Where → RunFault → Type 0
IsNotOfQuote inputs quote place fault =
    OfInput inputs place (λ text. IsNoCheckpoint text fault)
    ⊎ ((fault ≡ runs.Checkpoint OtherCounts)
    × OfInput inputs place (λ text. (state : SavedState) × IsCheckpointText text state × (IsOfQuote quote state → ⊥)))

-- Why nothing is known to go on from: the input is not read, or what it has is not of the quote's boot.
abbrev pub IsNoResumedState : Inputs → TpmQuote → Option Where → RunFault → Type 0
IsNoResumedState inputs quote resume fault =
    IsSomeAnd resume (λ place. IsInputFault inputs place fault ⊎ IsNotOfQuote inputs quote place fault)

-- Why the input of expected registers states none: it is not read, or its text does not.
abbrev pub IsNotStated : Inputs → Option Where → RunFault → Type 0
IsNotStated inputs expected fault =
    IsSomeAnd expected (λ place. IsInputFault inputs place fault ⊎ OfInput inputs place (λ text. IsNotExpected text fault))

-- Why there is no judgement by this quote: the log is not read; the expected registers are not; what is to be gone on from is not read, or is not
-- of the quote's boot; it is, or there is none, and an input gives no text of known files; or all are, and nothing is found in the list.
abbrev pub IsNotJudgedBy : Inputs → AttestRequested → TpmQuote → SignatureState → RunFault → Type 0
IsNotJudgedBy inputs asked quote signature fault =
    IsInputFault inputs asked.log fault
    ⊎ IsNotStated inputs asked.expected fault
    ⊎ (((stated : Option (List Expected)) × IsStated inputs asked.expected stated) × IsNoResumedState inputs quote asked.resume fault)
    ⊎ (((stated : Option (List Expected)) × IsStated inputs asked.expected stated)
    × ((state : Option SavedState) × IsResumedState inputs asked.resume state × IfSome state (IsOfQuote quote))
    × IsFirstNotKnown inputs asked.known fault)
    ⊎ ((log : List ℕ) × (values : ExpectedValues) × (counted : List Expected) × (state : Option SavedState) × (files : Option KnownFiles)
    × Holds inputs asked.log log
    × AreCounted inputs asked.expected quote values counted × IsResumedState inputs asked.resume state × IfSome state (IsOfQuote quote)
    × AreKnownFiles inputs asked.known files
    × IsNotFound inputs (verdict_asked asked) asked.list
    (quoted_evidence (wide_rule asked.old_kernel) log quote signature values counted (checkpoint_of state) files) fault)

-- Why the inputs have no key, or no signature of the message by it: the key is not read, or the signature is not; or both are, and the message is
-- not signed so, or memory ran out.
abbrev pub IsNotSigned : Inputs → Where → Where → List ℕ → RunFault → Type 0
IsNotSigned inputs key signature message fault =
    IsInputFault inputs key fault
    ⊎ IsInputFault inputs signature fault
    ⊎ OfInput inputs key (λ key. OfInput inputs signature (λ signature.
    (first : CheckFault) × IsCheckFault key message signature first × (fault ≡ fault_of_check first)))

-- Why the message is not judged, by its signature: it is to be verified, and this is why it is not valid.
abbrev pub IsNotVouched : Inputs → Signing → List ℕ → RunFault → Type 0
IsNotVouched inputs (ByKey key signature) message fault = IsNotSigned inputs key signature message fault
IsNotVouched inputs signing message fault = ⊥

-- Why the bytes of the message are not judged: they are not signed as asked; they are, and are not the quote that is asked for; or they are that
-- quote, and there is no judgement by it.
abbrev pub IsNoJudgement : Inputs → AttestRequested → List BankRange → List ℕ → RunFault → Type 0
IsNoJudgement inputs asked ranges message fault =
    IsNotVouched inputs asked.signing message fault
    ⊎ (((signature : SignatureState) × IsVouched inputs asked.signing message signature)
    × ((first : QuoteRefusal) × IsQuoteRefusal message (terms_with asked ranges) first × (fault ≡ runs.Quote first)))
    ⊎ ((signature : SignatureState) × (quote : TpmQuote) × IsAskedFor inputs asked ranges message signature quote
    × IsNotJudgedBy inputs asked quote signature fault)

-- Why nothing comes of it: the text spells no registers, or with them a match would say too little; its first part spells some, and memory ran
-- out; the message is not read; or it is, and is not judged.
abbrev pub IsNoAttestation : Inputs → AttestRequested → RunFault → Type 0
IsNoAttestation inputs asked fault =
    ((fault ≡ runs.Usage) × ((ranges : List BankRange) → AreTaken asked ranges → ⊥))
    ⊎ ((fault ≡ runs.Memory) × BeginsWithBankRange asked.required)
    ⊎ ((ranges : List BankRange) × AreTaken asked ranges
    × (IsInputFault inputs asked.message fault ⊎ OfInput inputs asked.message (λ message. IsNoJudgement inputs asked ranges message fault)))

-- ---- registers

-- The bytes are a firmware event log, and these are the registers before its events, at their reset values, and after them.
abbrev pub AreRegistersAfter : List ℕ → Banks → Banks → Type 0
AreRegistersAfter log start now =
    (table : List DeclaredAlgorithm) × (events : List LogEvent) × IsLog log table events × IsReset (algs_in table) (startup_locality events) start
    × IsFirmware (algs_in table) events now

-- The bytes are a list of genuine entries, and these are the registers before it, at their reset values, and after it.
abbrev pub AreListRegisters : List ℕ → Banks → Banks → Type 0
AreListRegisters list start now =
    (entries : List ListEntry) × IsReading list (Ok entries) × AreGenuine entries × IsListStart start × IsReplayed start entries now

-- What is selected, if a text selects something: what it spells.
abbrev pub IsSelected : Option (List ℕ) → Option (List BankRange) → Type 0
IsSelected None selection = selection ≡ None
IsSelected (Some text) selection = IsSomeAnd selection (SpellsRanges text)

-- Why nothing is selected: a text is given, and does not spell a selection; or its first part does, and memory ran out.
abbrev pub IsSelectionFault : Option (List ℕ) → RunFault → Type 0
IsSelectionFault text fault = IsSomeAnd text
    (λ text. ((fault ≡ runs.Usage) × ((ranges : List BankRange) → SpellsRanges text ranges → ⊥))
    ⊎ ((fault ≡ runs.Memory) × BeginsWithBankRange text))

-- The registers that are selected, in order: all without a selection.
abbrev pub selected_by : Option (List BankRange) → List Expected → List Expected
selected_by None expected = expected
selected_by (Some ranges) expected = those_selected ranges expected

-- The text was printed by tpm2-tools, and of the registers that it states these are selected: at least one.
abbrev pub IsPrintedOf : Option (List BankRange) → List ℕ → List Expected → Type 0
IsPrintedOf selection text selected =
    ((expected : List Expected) × IsPrintedText text expected × (selected ≡ selected_by selection expected)) × (0 < length selected)

-- Why a text gives no registers that are selected: it was not printed by tpm2-tools, or states no register; it states none of them; or the first
-- line that counts states a register, and memory ran out.
abbrev pub IsNotPrintedOf : Option (List BankRange) → List ℕ → RunFault → Type 0
IsNotPrintedOf selection text fault =
    ((first : ExpectFault) × HasPrintedFault text first × (fault ≡ fault_of_expected first))
    ⊎ ((expected : List Expected) × IsPrintedText text expected × (selected_by selection expected ≡ []) × (fault ≡ runs.Expect NoRegister))
    ⊎ ((fault ≡ runs.Memory) × PrintsRegister text)

-- ---- keys

-- Why nothing is told of the key: the first fault of the bytes, or else the first thing that the key lacks for this purpose; or it lacks nothing,
-- and memory ran out over its PEM.
abbrev pub IsNoKey : Purpose → List ℕ → RunFault → Type 0
IsNoKey purpose content fault =
    ((first : KeyFault) × (key_fault purpose content ≡ Some first) × (fault ≡ runs.Key first))
    ⊎ ((fault ≡ runs.Memory) × ((area : KeyArea) × IsPublicArea content area × (lack purpose area ≡ None)))

-- ---- what is asked for

-- All is well with an answer that compares nothing, and nobody goes on from it.
abbrev pub alone : Answer → Answered
alone answer = record { answer = answer; requirement = None; unknown = None; is_success = true; next = None }

-- This is what is asked for, where nothing is compared.
abbrev pub IsAlone : Inputs → Requested → Answer → Type 0
IsAlone inputs (LogRegistersOf log) (answers.Registers registers) =
    OfInput inputs log (λ content. AreRegistersAfter content registers.start registers.now)
IsAlone inputs (ListRegistersOf list) (answers.Registers registers) =
    OfInput inputs list (λ content. AreListRegisters content registers.start registers.now)
IsAlone inputs (ExpectedOf printed text) (answers.Expected expected) =
    (selection : Option (List BankRange)) × IsSelected text selection
    × OfInput inputs printed (λ content. IsPrintedOf selection content expected.items)
IsAlone inputs (KeyOf area purpose part) (answers.Key report shown) = (shown ≡ part) × OfInput inputs area (λ content. IsKey content purpose report)
IsAlone inputs request answer = ⊥

-- This is the answer to what is asked for. Where nothing is compared, all is well with any.
abbrev pub IsAnswer : Inputs → Requested → Answered → Type 0
IsAnswer inputs (Attests asked) given = IsAttestation inputs asked given
IsAnswer inputs (Compares compare) given = IsComparison inputs compare given
IsAnswer inputs request given = (answer : Answer) × IsAlone inputs request answer × (given ≡ alone answer)

-- Why there is no answer: an input was not loaded; the bytes are no log; the list could not be opened, or is refused; the text selects no
-- registers, or the other states none of them, as tpm2-tools prints them; or the bytes are no key for the purpose.
abbrev pub IsRefusal : Inputs → Requested → RunFault → Type 0
IsRefusal inputs (Attests asked) fault = IsNoAttestation inputs asked fault
IsRefusal inputs (Compares compare) fault = IsNoComparison inputs compare fault
IsRefusal inputs (LogRegistersOf log) fault =
    IsInputFault inputs log fault ⊎ OfInput inputs log (λ content. HasLogFault content fault)
IsRefusal inputs (ListRegistersOf list) fault = IsNotOpened inputs list fault ⊎ IsRefusedList inputs list fault
IsRefusal inputs (ExpectedOf printed text) fault =
    IsSelectionFault text fault
    ⊎ ((selection : Option (List BankRange)) × IsSelected text selection
    × (IsInputFault inputs printed fault ⊎ OfInput inputs printed (λ content. IsNotPrintedOf selection content fault)))
IsRefusal inputs (KeyOf area purpose part) fault = IsInputFault inputs area fault ⊎ OfInput inputs area (λ content. IsNoKey purpose content fault)

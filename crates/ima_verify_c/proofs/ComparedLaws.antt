-- A verdict that is a match compared some PCR.
use Rattle.std.proofs.Common.{◌≡◌, ℕ, ◌<◌, Bool, true, false, ◌==◌, List, [], ◌∷◌, length, get_or, Option, None, Some, refl, sym, ◌∙◌, ap, subst, inl, inr, arith}
use Rattle.std.specs.Prelude.{not, if◌then◌else◌, bytes_eq, codes}
use Rattle.std.specs.List.{list_all}
use Rattle.std.proofs.lemmas.Bool.{and_parts, both_ways, cases_Bool, eqb-true}
use Rattle.std.proofs.lemmas.List.{length-map}
use Rattle.std.proofs.lemmas.List.Folds.{list_all_at}
use Rattle.pcr_banks.specs.declared.alg.Alg.{Alg}
use Rattle.pcr_banks.specs.declared.alg.Alg.TheVariants.{Sha1, Sha256, Sha384, Sha512}
use Rattle.pcr_banks.specs.Names.{value_at}
use Rattle.pcr_banks.proofs.AlgLaws.{every_passes}
use Rattle.pcr_values.specs.declared.expected.Expected.{Expected}
use Rattle.pcr_values.specs.declared.selection.BankRange.{BankRange}
use Rattle.pcr_values.specs.Names.{all_registers, names}
use Rattle.pcr_values.proofs.RegisterLaws.{register_at, register_count}
use Rattle.boot_log.specs.Names.{algs_in}
use Rattle.ima_list.specs.Names.{ListEntry}
use Rattle.boot_verdict.specs.declared.checkpoint.Checkpoint.{Checkpoint}
use Rattle.boot_verdict.specs.declared.list_verifier.ListReport.{ListReport}
use Rattle.boot_verdict.specs.declared.report.PrefixReport.{PrefixReport}
use Rattle.boot_verdict.specs.declared.report.Report.{Report}
use Rattle.boot_verdict.specs.declared.report.Row.{Row}
use Rattle.boot_verdict.specs.Names.{IsRequirementText, bind_list, expected_of_rows, is_complete, is_complete_in, is_missing, list_register, list_verdict_of, matches, pcr_after_log_and_list, row_on, verdict_of, Verdict}
use Rattle.known_files.specs.Unknown.{has_no_unknown}
use Rattle.agent_inputs.specs.declared.fault.FaultKind.{FaultKind}
use Rattle.agent_inputs.specs.declared.fault.FaultKind.TheVariants as kinds
use Rattle.agent_inputs.specs.declared.fault.RunFault.{RunFault}
use Rattle.agent_inputs.specs.Faults.{fault_head}
use Rattle.agent_inputs.specs.Loading.{unknown}
use Rattle.attestations.specs.declared.expected.ExpectedValues.{ExpectedValues}
use Rattle.attestations.specs.declared.signature.SignatureState.{SignatureState}
use Rattle.attestations.specs.Reports.{attest_verdict_of, is_signed}
use Rattle.tpm_quotes.specs.Spelling.{TpmQuote}
use Rattle.tpm_quotes.specs.Quoting.{Values}
use Rattle.agent_plans.specs.declared.plan.Scope.{Scope}
use Rattle.agent_plans.specs.declared.plan.Scope.TheVariants.{Prefix, Whole}
use Rattle.cells.specs.declared.writer.Form.{Form}
use Rattle.cells.specs.declared.writer.Form.TheVariants.{Json, Text}
use Rattle.judging.specs.declared.request.Answer.{Answer}
use Rattle.judging.specs.declared.request.Answer.TheVariants as answers
use Rattle.judging.specs.declared.request.Answered.{Answered}
use Rattle.judging.specs.Answering.{Evidence, IsAnswerOn, IsComparison, IsJudged, IsPrefixOf, IsRequired, IsVerdictOn, OfList, TellsUnknown, entries_taken, is_good, seeks_prefix, whole_of}
use Rattle.judging.specs.Inputs.{BytesOf, Where}
use Rattle.judging.specs.Requests.{Any, Compared, Compares, ListVerdictOf, Nothing, Requires, These, VerdictOf, WholeVerdictOf}
use Rattle.rendering.specs.Rendering.{answer_status}
use Rattle.rendering.specs.Summaries.{summary_of}
use Rattle.rendering.specs.declared.summary.Summary.{Summary}
use Rattle.ima_verify_c.specs.Answers.{IsAnswerAndNext, IsLineOf, answer_of_status, kind_answer}
use Rattle.ima_verify_c.specs.Requests.{IsOfSomeList, compared_by, required_by}

-- Without rows no register is named, where none is missing.
unnamed : (ranges : List BankRange) (alg : Alg) → is_complete_in ranges [] alg ≡ true → names ranges alg list_register ≡ false
unnamed ranges alg complete =
    elim (cases_Bool (names ranges alg list_register)) [
      | inl named ↦
          let test = λ (register : ℕ). not (is_missing ranges [] alg register) in
          let within : list_register < length all_registers = omega (arith, register_count) in
          let here : test (get_or all_registers list_register 0) ≡ false = rw (register_at list_register (omega arith), named) refl in
          absurd (both_ways (list_all test all_registers) (list_all_at test all_registers list_register 0 within here) complete)
      | inr other ↦ other
    ]

complete_some : (text : List ℕ) (ranges : List BankRange) (rows : List Row) → IsRequirementText text ranges
    → is_complete ranges (expected_of_rows rows) ≡ true → 0 < length rows
complete_some text ranges (row ∷ rows) is complete = omega arith
complete_some text ranges [] is complete =
    let none = λ (alg : Alg). unnamed ranges alg (every_passes (is_complete_in ranges []) complete alg) in
    absurd (both_ways (bind_list ranges) (rw (none Sha1, none Sha256, none Sha384, none Sha512) refl) is.2)

some_rows : (rows : List Row) → not (length rows == 0) ≡ true → 0 < length rows
some_rows [] e = absurd cc
some_rows (row ∷ rows) e = omega arith

report_some : (requires : Requires) (ranges : Option (List BankRange)) (report : Report) → (requires ≡ Nothing → ⊥) → IsRequired requires ranges
    → is_good requires ranges (answers.Report report) ≡ true → 0 < length (verdict_of report).rows
report_some Nothing ranges report some required good = absurd (some refl)
report_some Any None report some required good = some_rows _ (and_parts (matches (verdict_of report)) _ good).1
report_some Any (Some ranges) report some required good = absurd cc
report_some (These text) None report some required good = absurd required
report_some (These text) (Some ranges) report some required good = complete_some text ranges (verdict_of report).rows required (and_parts _ (is_complete ranges (expected_of_rows (verdict_of report).rows)) good).1

-- Without a text that requires registers a prefix is confirmed only where some are expected.
prefix_some : (requires : Requires) (ranges : Option (List BankRange)) (prefix : PrefixReport) → IsRequired requires ranges
    → (ranges ≡ None → 0 < length (verdict_of prefix.report).rows) → is_good requires ranges (answers.Prefix prefix) ≡ true
    → 0 < length (verdict_of prefix.report).rows
prefix_some requires None prefix required expected good = expected refl
prefix_some Nothing (Some ranges) prefix required expected good = absurd cc
prefix_some Any (Some ranges) prefix required expected good = absurd cc
prefix_some (These text) (Some ranges) prefix required expected good =
    complete_some text ranges (verdict_of prefix.report).rows required
    (and_parts _ (is_complete ranges (expected_of_rows (verdict_of prefix.report).rows)) good).1

list_some : (requires : Requires) (ranges : Option (List BankRange)) (report : ListReport) → is_good requires ranges (answers.ListReport report) ≡ true
    → 0 < length (list_verdict_of report).rows
list_some requires None report good = some_rows _ (and_parts _ _ (and_parts _ _ good).0).1
list_some requires (Some ranges) report good = some_rows _ (and_parts _ _ (and_parts _ _ (and_parts _ _ (and_parts _ _ good).0).0).0).1

-- ---- what is given with 0

-- A fault is never 0.
kind_some : (kind : FaultKind) → 0 ≡ kind_answer kind → ⊥
kind_some kinds.Usage e = absurd cc
kind_some kinds.NotHex e = absurd cc
kind_some kinds.Log e = absurd cc
kind_some kinds.List e = absurd cc
kind_some kinds.Replay e = absurd cc
kind_some kinds.ListText e = absurd cc
kind_some kinds.LogForm e = absurd cc
kind_some kinds.Expect e = absurd cc
kind_some kinds.Quote e = absurd cc
kind_some kinds.Signature e = absurd cc
kind_some kinds.Key e = absurd cc
kind_some kinds.Known e = absurd cc
kind_some kinds.Checkpoint e = absurd cc
kind_some kinds.Book e = absurd cc
kind_some kinds.Outcome e = absurd cc
kind_some kinds.TooLong e = absurd cc
kind_some kinds.Read e = absurd cc
kind_some kinds.Write e = absurd cc
kind_some kinds.NotUtf8 e = absurd cc
kind_some kinds.Gather e = absurd cc
kind_some kinds.Memory e = absurd cc

line_some : (form : Form) (fault : RunFault) (text : List ℕ) → IsLineOf form fault text 0 → ⊥
line_some Text fault text is = kind_some (fault_head fault).kind is.1
line_some Json fault text is = kind_some (fault_head fault).kind is.1

-- An answer of another status than 0 is given with 1.
exit_zero : (exit : ℕ) → 0 ≡ answer_of_status exit → exit ≡ 0
exit_zero exit e = elim (cases_Bool (exit == 0)) [
  | inl same ↦ eqb-true exit 0 same
  | inr other ↦ let one : answer_of_status exit ≡ 1 = rw other refl in absurd (omega (arith, e, one))
]

some_status : (signed : Bool) (status : ℕ) → status ≡ (if signed then 1 else 4) → status ≡ 0 → ⊥
some_status true status is zero = omega (arith, is, zero)
some_status false status is zero = omega (arith, is, zero)

-- All is well with an answer whose exit status is 0.
answer_good : (success : Bool) (answer : Answer) → answer_status success answer ≡ 0 → success ≡ true
answer_good true answer e = refl
answer_good false (answers.Attestation report) e = absurd (some_status (is_signed (attest_verdict_of report).signature) _ refl e)
answer_good false (answers.Report report) e = absurd cc
answer_good false (answers.Prefix prefix) e = absurd cc
answer_good false (answers.Positions positions) e = absurd cc
answer_good false (answers.ListReport report) e = absurd cc
answer_good false (answers.Registers registers) e = absurd cc
answer_good false (answers.Expected expected) e = absurd cc
answer_good false (answers.Key report part) e = absurd cc

-- What is given with 0 is an answer with which all is well.
given_good : (request : Compared) (form : Form) (text : List ℕ) (fault : Option RunFault) (state : List ℕ) (summary : Summary)
    → IsAnswerAndNext (Compares request) form text 0 fault state summary
    → (given : Answered) × IsComparison unknown request given × (given.is_success ≡ true) × (summary ≡ summary_of given)
given_good request form text fault state summary (inl (none, (exit, (next, is, saved, sums), status))) =
    (is.given, is.answer, answer_good is.given.is_success is.given.answer (sym is.status_is ∙ exit_zero exit status), sums)
given_good request form text fault state summary (inr (refusal, none, sums)) = absurd (line_some form refusal.0 text refusal.3)

-- ---- what was compared

some_required : (require : List ℕ) → required_by require ≡ Nothing → ⊥
some_required require e = elim (cases_Bool (bytes_eq require (codes "none"))) [
  | inl none ↦ let no : Any ≡ Nothing = rw none at e in absurd cc
  | inr named ↦ let no : These require ≡ Nothing = rw named at e in absurd cc
]

module _ (request : Compared) (some : request.required ≡ Nothing → ⊥) (given : Answered) (is : IsComparison unknown request given)
    (success : given.is_success ≡ true) where
  good : is_good request.required given.requirement given.answer ≡ true
  good = (and_parts (has_no_unknown given.unknown) _ (sym is.success_is ∙ success)).1

  required : IsRequired request.required given.requirement
  required = rw is.requirement_is is.evidence_is.required_are

  by_report : (report : Report) → given.answer ≡ answers.Report report → 0 < (summary_of given).compared
  by_report report answer = rw answer (report_some request.required given.requirement report some required (rw answer at good))

  by_prefix : (prefix : PrefixReport) → given.answer ≡ answers.Prefix prefix
      → (is.evidence.required ≡ None → 0 < length (verdict_of prefix.report).rows) → 0 < (summary_of given).compared
  by_prefix prefix answer expected =
      rw answer (prefix_some request.required given.requirement prefix required (λ none. expected (sym is.requirement_is ∙ none)) (rw answer at good))

  pub by_list : (report : ListReport) → given.answer ≡ answers.ListReport report → 0 < (summary_of given).compared
  by_list report answer = rw answer (list_some request.required given.requirement report (rw answer at good))

-- A prefix that is sought where nothing is required has some expected register.
some_expected : (scope : Scope) (evidence : Evidence) → evidence.quote ≡ None → evidence.required ≡ None → seeks_prefix scope evidence ≡ true
    → 0 < length evidence.expected
some_expected Whole evidence quote none sought = absurd cc
some_expected Prefix evidence quote none sought = not_empty evidence.expected (rw (quote, none) at sought) where
  not_empty : (expected : List Expected) → not (length expected == 0) ≡ true → 0 < length expected
  not_empty [] e = absurd cc
  not_empty (first ∷ expected) e = omega arith

-- What follows from a report on the whole list, and from one on its prefix, follows from an answer that has one. (What was judged has a type
-- that its own crate alone can name.)
of_each : (scope : Scope) (list : Where) (evidence : Evidence) (Tells : List ListEntry → Type 0) (next : Checkpoint) (signature : SignatureState)
    (values : ExpectedValues) (on : _) (answer : Answer) (Q : Type 0) → ((report : Report) → answer ≡ answers.Report report → Q)
    → ((prefix : PrefixReport) → seeks_prefix scope evidence ≡ true
    → OfList unknown list evidence.checkpoint (λ all. IsPrefixOf evidence Tells all prefix next) → answer ≡ answers.Prefix prefix → Q)
    → IsVerdictOn unknown scope list evidence Tells on next → IsAnswerOn None signature values on (value_at next.after) answer → Q
of_each scope list evidence Tells next signature values on answer Q whole part is answered = grind (arith, whole, part)

-- A verdict on a log and a list, or on its confirmed prefix.
module _ (place : Where) (scope : Scope) (resume : Option Where) (old_kernel : Bool) (list expected require : List ℕ) (known : List Where)
    (before : IsOfSomeList resume) where
  abbrev asked : Compared
  asked = compared_by (VerdictOf place scope resume) old_kernel list expected require known

  -- The rows of a prefix are those of the expected registers.
  prefix_rows : (given : Answered) (is : IsComparison unknown asked given) (prefix : PrefixReport) (next : Checkpoint) (Tells : List ListEntry → Type 0)
      → seeks_prefix scope is.evidence ≡ true → OfList unknown (BytesOf list) is.evidence.checkpoint (λ all. IsPrefixOf is.evidence Tells all prefix next)
      → is.evidence.required ≡ None → 0 < length (verdict_of prefix.report).rows
  prefix_rows given is prefix next Tells sought of none =
      let taken = before is.evidence_is.state is.evidence_is.state_is in
      let of_list = of taken.0 (rw is.evidence_is.checkpoint_is taken.1) in
      let some = some_expected scope is.evidence is.evidence_is.none_quoted none sought in
      let on = of_list.2 in
      let rows : length (verdict_of prefix.report).rows ≡ length is.evidence.expected =
      ap (λ (v : Verdict). length v.rows) on.verdict_is ∙ length-map is.evidence.expected (row_on (algs_in on.table) on.events on.prefix) in
      omega (arith, some, rows)

  judged_compares : (given : Answered) (is : IsComparison unknown asked given) → given.is_success ≡ true → (next : Option Checkpoint)
      → IsJudged unknown (VerdictOf place scope resume) (BytesOf list) is.evidence given.answer next given.unknown → 0 < (summary_of given).compared
  judged_compares given is success None on = absurd on
  judged_compares given is success (Some next) on =
      let plain = subst (λ (quote : Option TpmQuote). IsAnswerOn quote is.evidence.signature is.evidence.values on.0 (value_at next.after) given.answer)
      is.evidence_is.none_quoted on.2 in
      of_each scope (BytesOf list) is.evidence (TellsUnknown is.evidence.known_files (entries_taken is.evidence.checkpoint) given.unknown) next
      is.evidence.signature is.evidence.values on.0 given.answer (0 < (summary_of given).compared)
      (λ report answer. by_report asked (some_required require) given is success report answer)
      (λ prefix sought of answer.
      by_prefix asked (some_required require) given is success prefix answer (prefix_rows given is prefix next _ sought of))
      on.1 plain

  pub verdict_compares : (form : Form) (text : List ℕ) (fault : Option RunFault) (state : List ℕ) (summary : Summary)
      → IsAnswerAndNext (Compares asked) form text 0 fault state summary → 0 < summary.compared
  verdict_compares form text fault state summary given =
      let good = given_good asked form text fault state summary given in
      rw good.3 (judged_compares good.0 good.1 good.2 good.1.next good.1.judged)

-- A verdict on a log and a whole list, from which nobody goes on.
module _ (place : Where) (old_kernel : Bool) (list expected require : List ℕ) (known : List Where) where
  abbrev whole : Compared
  whole = compared_by (WholeVerdictOf place) old_kernel list expected require known

  whole_compares : (given : Answered) (is : IsComparison unknown whole given) → given.is_success ≡ true → (next : Option Checkpoint)
      → IsJudged unknown (WholeVerdictOf place) (BytesOf list) is.evidence given.answer next given.unknown → 0 < (summary_of given).compared
  whole_compares given is success (Some next) judged = absurd judged
  whole_compares given is success None judged =
      let on = judged.2 in
      let registers : Values = pcr_after_log_and_list (algs_in on.verdict_is.table) on.verdict_is.events on.verdict_is.entries in
      let plain : given.answer ≡ answers.Report on.report =
      subst (λ (quote : Option TpmQuote). IsAnswerOn quote is.evidence.signature is.evidence.values (whole_of on.report) registers given.answer)
      is.evidence_is.none_quoted on.answer_is in
      by_report whole (some_required require) given is success on.report plain

  pub whole_verdict_compares : (form : Form) (text : List ℕ) (fault : Option RunFault) (state : List ℕ) (summary : Summary)
      → IsAnswerAndNext (Compares whole) form text 0 fault state summary → 0 < summary.compared
  whole_verdict_compares form text fault state summary given =
      let good = given_good whole form text fault state summary given in
      rw good.3 (whole_compares good.0 good.1 good.2 good.1.next good.1.judged)

-- A verdict on a list alone.
module _ (list expected require : List ℕ) (known : List Where) where
  abbrev alone : Compared
  alone = compared_by ListVerdictOf false list expected require known

  list_compares : (given : Answered) (is : IsComparison unknown alone given) → given.is_success ≡ true → (answer : Answer) (next : Option Checkpoint)
      → given.answer ≡ answer → IsJudged unknown ListVerdictOf (BytesOf list) is.evidence answer next given.unknown → 0 < (summary_of given).compared
  list_compares given is success (answers.ListReport report) None answer on = by_list alone (some_required require) given is success report answer
  list_compares given is success (answers.ListReport report) (Some next) answer on = absurd on
  list_compares given is success (answers.Attestation report) next answer on = absurd on
  list_compares given is success (answers.Report report) next answer on = absurd on
  list_compares given is success (answers.Prefix prefix) next answer on = absurd on
  list_compares given is success (answers.Positions positions) next answer on = absurd on
  list_compares given is success (answers.Registers registers) next answer on = absurd on
  list_compares given is success (answers.Expected stated) next answer on = absurd on
  list_compares given is success (answers.Key report part) next answer on = absurd on

  pub list_verdict_compares : (form : Form) (text : List ℕ) (fault : Option RunFault) (state : List ℕ) (summary : Summary)
      → IsAnswerAndNext (Compares alone) form text 0 fault state summary → 0 < summary.compared
  list_verdict_compares form text fault state summary given =
      let good = given_good alone form text fault state summary given in
      rw good.3 (list_compares good.0 good.1 good.2 good.0.answer good.1.next refl good.1.judged)

-- A verdict on a whole list from which nobody goes on.
use Rattle.std.proofs.Common.{◌≡◌, ℕ, Bool, cond, ◌||◌, List, length, Option, None, Some, ap, ◌∙◌}
use Rattle.std.specs.Prelude.{IfSome}
use Rattle.pcr_banks.specs.declared.banks.Banks.{Banks}
use Rattle.pcr_banks.specs.declared.sets.AlgSet.{AlgSet}
use Rattle.pcr_banks.specs.Names.{has_alg, value_at}
use Rattle.pcr_banks.proofs.SetLaws.{has_where}
use Rattle.pcr_values.specs.declared.expected.Expected.{Expected}
use Rattle.boot_log.specs.Names.{LogEvent}
use Rattle.ima_list.specs.Names.{ListEntry}
use Rattle.boot_verdict.specs.declared.aggregate_rule.AggregateRule.{AggregateRule}
use Rattle.boot_verdict.specs.declared.report.Report.{Report}
use Rattle.boot_verdict.specs.Names.{HaveRegisters, IsVerdictUnder, Verdict, pcr_after_log_and_list, verdict_of}
use Rattle.boot_verdict.specs.Names as boot
use Rattle.tpm_quotes.specs.Spelling.{TpmQuote}
use Rattle.tpm_quotes.specs.Quoting.{Values, confirms}
use Rattle.attestations.specs.declared.expected.ExpectedValues.{ExpectedValues}
use Rattle.attestations.specs.declared.signature.SignatureState.{SignatureState}
use Rattle.attestations.specs.Kept.{algs_of, is_asked}
use Rattle.attestations.specs.Quoted.{stated_by}
use Rattle.attestations.proofs.KeptLaws.{confirms_same}
use Rattle.judging.specs.declared.request.Answer.{Answer}
use Rattle.judging.specs.Answering.{IsAnswerOn, told_by, whole_of}

-- A verdict counts the list's entries.
pub counted_verdict : (rule : AggregateRule) (log list : List ℕ) (expected : List Expected) (verdict : Verdict)
    (is : IsVerdictUnder rule log list expected verdict) → verdict.entries ≡ length is.entries
counted_verdict rule log list expected verdict is = ap (λ (v : Verdict). v.entries) is.verdict_is

-- A report by values of registers is one by those that the quote confirms just as well.
told_same : (quote : TpmQuote) (signature : SignatureState) (values : ExpectedValues) (report : Report) (first second : Values)
    → confirms quote first ≡ confirms quote second
    → told_by quote signature values first (whole_of report) ≡ told_by quote signature values second (whole_of report)
told_same quote signature values report first second same = λ i. record {
  quoted = stated_by quote;
  verdict = verdict_of report;
  prefix = None;
  expected = values;
  is_quoted = same i;
  signature = signature;
}

-- An answer by banks that have the registers from which the quote selects is one by the registers after log and list.
pub answered_after : (quote : Option TpmQuote) (signature : SignatureState) (values : ExpectedValues) (report : Report) (expected : List Expected)
    (kept algs : AlgSet) (events : List LogEvent) (entries : List ListEntry) (registers : Banks) (answer : Answer)
    → IfSome quote (λ quote. kept ≡ algs_of quote.selections) → HaveRegisters expected kept algs events entries registers
    → IsAnswerOn quote signature values (whole_of report) (value_at registers) answer
    → IsAnswerOn quote signature values (whole_of report) (pcr_after_log_and_list algs events entries) answer
answered_after None signature values report expected kept algs events entries registers answer keeps have is = is
answered_after (Some quote) signature values report expected kept algs events entries registers answer keeps have is =
    let same = confirms_same quote (value_at registers) (pcr_after_log_and_list algs events entries)
    (λ alg register asked.
    have alg register
    ∙ ap (λ (kept : Bool). cond (kept || boot.is_asked expected alg) (pcr_after_log_and_list algs events entries alg register) None)
    (ap (λ (set : AlgSet). has_alg set alg) keeps ∙ has_where (is_asked quote.selections) alg ∙ asked)) in
    (is.0, is.1, is.2 ∙ told_same quote signature values report (value_at registers) (pcr_after_log_and_list algs events entries) same)

-- The report on a log and a list by a quote. All of this is this project's choice.
use Rattle.std.specs.Prelude.{◌&&◌, Bool, true, false, Option}
use Rattle.boot_verdict.specs.Names.{Verdict, are_none, is_good, verdict_of}
use Rattle.attestations.specs.declared.expected.ExpectedValues.{ExpectedValues}
use Rattle.attestations.specs.declared.report.AttestReport.{AttestReport}
use Rattle.attestations.specs.declared.report.Whole.{Whole}
use Rattle.attestations.specs.declared.signature.SignatureState.{SignatureState}
use Rattle.attestations.specs.declared.signature.SignatureState.TheVariants.{NotChecked, Checked, Valid}
use Rattle.attestations.specs.Quoted.{Stated, stated_of}

-- Whether the signature of a quote's message was verified, here or by the caller.
abbrev pub is_signed : SignatureState → Bool
is_signed NotChecked = false
is_signed Checked = true
is_signed Valid = true

-- What the quote states; the verdict on log and list, or on the prefix of the list that the quote confirms, with a row for each expected
-- register that counts; the whole list, if it is on a prefix; what came of the values of expected registers; whether the quote is of the values
-- to which log and list replay, or log and the prefix; and what is known of its signature.
pub record AttestVerdict : Type 0 where
  pub quoted : Stated
  pub verdict : Verdict
  pub prefix : Option Whole
  pub expected : ExpectedValues
  pub is_quoted : Bool
  pub signature : SignatureState

-- Whether log and list are what the quote is of: the boot aggregate is good, they are apart, and the quote is of the values to which they
-- replay. Where the verdict is on a prefix of the list, each of the three is of that prefix. Expected registers make no difference.
abbrev pub is_attested : AttestVerdict → Bool
is_attested report = is_good report.verdict.aggregate && (are_none report.verdict.strays && report.is_quoted)

-- ---- what contracts see of a report

abbrev pub attest_verdict_of : AttestReport → AttestVerdict
attest_verdict_of report = record {
  quoted = stated_of report.quoted;
  verdict = verdict_of report.report;
  prefix = report.prefix;
  expected = report.expected;
  is_quoted = report.is_quoted;
  signature = report.signature;
}

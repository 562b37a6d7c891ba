use Rattle.std.proofs.Common.{refl, ◌∙◌}
use Rattle.judging_laws.proofs.verdicts.report_succeeds_by_its_verdict.Goals as goal

pub returns : goal.returns
returns c = record {
  required = λ inputs request given ranges report is required answer. is.success_is ∙ rw (required, answer) refl;
  plain = λ inputs request given report is nothing required answer. is.success_is ∙ rw (nothing, required, answer) refl;
  prefix = λ inputs request given ranges prefix is required answer. is.success_is ∙ rw (required, answer) refl;
}

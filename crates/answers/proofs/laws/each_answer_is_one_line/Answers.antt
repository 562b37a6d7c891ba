use Rattle.answers.proofs.AttestationLaws.{attestation_line}
use Rattle.answers.proofs.KeyLaws.{key_line}
use Rattle.answers.proofs.LineLaws.{expected_line, list_report_line, positions_line, prefix_line, registers_line, report_line}
use Rattle.answers.proofs.laws.each_answer_is_one_line.Goals as goal

pub returns : goal.returns
returns c = record {
  registers = registers_line;
  expected = expected_line;
  report = report_line;
  prefix_report = prefix_line;
  list_report = list_report_line;
  attestation = attestation_line;
  key = key_line;
  positions = positions_line;
}

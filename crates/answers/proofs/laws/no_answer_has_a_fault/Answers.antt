use Rattle.answers.proofs.AttestationLaws.{attestation_lacks}
use Rattle.answers.proofs.KeyLaws.{key_lacks}
use Rattle.answers.proofs.MemberLaws.{expected_lacks, list_report_lacks, positions_lacks, prefix_lacks, registers_lacks, report_lacks}
use Rattle.answers.proofs.laws.no_answer_has_a_fault.Goals as goal

pub returns : goal.returns
returns c = record {
  registers = registers_lacks;
  expected = expected_lacks;
  report = report_lacks;
  prefix_report = prefix_lacks;
  list_report = list_report_lacks;
  attestation = attestation_lacks;
  key = key_lacks;
  positions = positions_lacks;
}

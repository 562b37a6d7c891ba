use Rattle.std.proofs.Common.{sym}
use Rattle.boot_verdict.specs.Names.{matches}
use Rattle.answers.proofs.TextLaws.{expected_lines, key_lines, plain_positions, plain_report, registers_lines}
use Rattle.answers.proofs.laws.sent_texts_are_of_cells.Goals as goal

pub returns : goal.returns
returns c = record {
  report = λ verdict. sym (plain_report (matches verdict) verdict);
  positions = λ located. sym (plain_positions located);
  registers = λ now start. sym (registers_lines now start);
  expected = λ expected. sym (expected_lines expected);
  key = λ part report. sym (key_lines part report);
}

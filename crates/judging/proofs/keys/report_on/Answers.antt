use Rattle.tpm_keys.specs.Spelling.{area_of}
use Rattle.judging.proofs.keys.report_on.Goals as goal

pub returns-clause-report : goal.returns-clause-report
returns-clause-report c = record {
  area = area_of c.in_ok-area.area;
  is_area = c.in_ok-area.ensures.found.0;
  lacks_nothing = c.in_ok-area.ensures.found.1;
  told = c.in_ok-report.ensures c.in_ok-area.ensures.found.0.numbers_are c.in_ok-area.ensures.spelled;
}

-- The row of an expected register, as the verifier makes it.
use Rattle.pcr_banks.specs.declared.banks.Banks.{Banks}
use Rattle.pcr_banks.specs.Names.{value_at}
use Rattle.pcr_values.specs.declared.expected.Expected.{Expected}
use Rattle.boot_verdict.specs.declared.report.Row.{Row}
use Rattle.boot_verdict.specs.Verdicts.{row_state}

-- The row of an expected register, by these banks.
abbrev pub row_of : Banks → Expected → Row
row_of banks expected = record { expected = expected; state = row_state expected (value_at banks expected.alg expected.register) }

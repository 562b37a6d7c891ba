-- The reader of one selection.
use Rattle.std.specs.Prelude.{ℕ, List, Result}
use Rattle.tpm_quotes.specs.declared.fault.QuoteFault.{QuoteFault}
use Rattle.tpm_quotes.specs.Spelling.{BankSelection}
use Rattle.tpm_quotes.specs.Reading.{selection}

abbrev pub selection_at : List BankSelection → List ℕ → Result (BankSelection × List ℕ) QuoteFault
selection_at before = (selection before).at

-- What a quote tells of a log's registers.
use Rattle.std.specs.Prelude.{◌≡◌, ℕ, true, List}
use Rattle.pcr_banks.specs.declared.alg.Alg.{Alg}
use Rattle.boot_log.specs.declared.header.DeclaredAlgorithm.{DeclaredAlgorithm}
use Rattle.boot_log.specs.Names.{IsLog, LogEvent, algs_in}
use Rattle.ima_list.specs.Names.{ListEntry}
use Rattle.boot_verdict.specs.Names.{list_register, pcr_after_log, pcr_after_log_and_list}
use Rattle.tpm_quotes.specs.Quoting.{confirms}
use Rattle.tpm_quotes.specs.Spelling.{TpmQuote}

-- The bytes are a log, and the quote is of the values of registers after its events and these entries; which leave each register but the list's
-- as it is after the log.
pub record QuotesLog (log : List ℕ) (quote : TpmQuote) : Type 0 where
  pub table : List DeclaredAlgorithm
  pub events : List LogEvent
  pub entries : List ListEntry
  pub log_is : IsLog log table events
  pub confirmed : confirms quote (pcr_after_log_and_list (algs_in table) events entries) ≡ true
  pub after_log : (alg : Alg) (register : ℕ) → (register ≡ list_register → ⊥)
      → pcr_after_log_and_list (algs_in table) events entries alg register ≡ pcr_after_log (algs_in table) events alg register

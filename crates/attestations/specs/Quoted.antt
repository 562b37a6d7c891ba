-- What a report keeps of a quote.
use Rattle.std.specs.Prelude.{ℕ, List, map}
use Rattle.tpm_quotes.specs.declared.quote.Clock.{Clock}
use Rattle.tpm_quotes.specs.Spelling.{BankSelection, TpmQuote}
use Rattle.attestations.specs.declared.report.Quoted.{Quoted}
use Rattle.attestations.specs.declared.report.Selected.{Selected}

-- What a quote states, but for its nonce and its digest.
pub record Stated : Type 0 where
  pub selections : List BankSelection
  pub signer : List ℕ
  pub clock : Clock
  pub firmware : ℕ

abbrev pub stated_by : TpmQuote → Stated
stated_by quote = record {
  selections = quote.selections;
  signer = quote.signer;
  clock = quote.clock;
  firmware = quote.firmware;
}

-- ---- what contracts see of the code's values

abbrev pub bank_selection_of : Selected → BankSelection
bank_selection_of selected = record { alg = selected.alg; bits = selected.bits.items }

abbrev pub stated_of : Quoted → Stated
stated_of quoted = record {
  selections = map bank_selection_of quoted.selections.items;
  signer = quoted.signer.items;
  clock = quoted.clock;
  firmware = quoted.firmware;
}

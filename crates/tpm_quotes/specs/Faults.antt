-- The number of each fault of a quote.
use Rattle.std.specs.Prelude.{ℕ}
use Rattle.tpm_quotes.specs.declared.fault.QuoteFault.{QuoteFault}
use Rattle.tpm_quotes.specs.declared.fault.QuoteFault.TheVariants.{Truncated, NotQuote, BadClock, UnknownBank, BankTwice, ManyBanks, BadRegister, NothingSelected, DigestSize, Trailing}

-- A fault's number (this project's choice).
abbrev pub quote_fault_number : QuoteFault → ℕ
quote_fault_number Truncated = 1
quote_fault_number NotQuote = 2
quote_fault_number BadClock = 3
quote_fault_number UnknownBank = 4
quote_fault_number BankTwice = 5
quote_fault_number ManyBanks = 6
quote_fault_number BadRegister = 7
quote_fault_number NothingSelected = 8
quote_fault_number DigestSize = 9
quote_fault_number Trailing = 10

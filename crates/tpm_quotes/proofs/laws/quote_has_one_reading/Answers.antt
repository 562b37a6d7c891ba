use Rattle.tpm_quotes.proofs.QuoteLaws.{one_reading}
use Rattle.tpm_quotes.proofs.laws.quote_has_one_reading.Goals as goal

pub returns : goal.returns
returns c = one_reading

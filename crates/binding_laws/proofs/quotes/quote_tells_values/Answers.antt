use Rattle.binding_laws.proofs.QuoteBindingLaws.{tells}
use Rattle.binding_laws.proofs.quotes.quote_tells_values.Goals as goal

pub returns : goal.returns
returns c = tells

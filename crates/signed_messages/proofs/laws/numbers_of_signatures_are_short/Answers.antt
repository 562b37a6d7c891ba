use Rattle.signed_messages.proofs.ShortLaws.{numbers_short}
use Rattle.signed_messages.proofs.laws.numbers_of_signatures_are_short.Goals as goal

pub returns : goal.returns
returns c = numbers_short

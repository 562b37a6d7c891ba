use Rattle.std.proofs.Common.{refl}
use Rattle.tpm_quotes.specs.Reading.{bank}
use Rattle.tpm_quotes.proofs.SelectionLaws.{known, unknown}
use Rattle.tpm_quotes.proofs.selection.bank_at.Goals as goal

pub returns-in-Some : goal.returns-in-Some
unfolding bank
returns-in-Some c = rw (c.in_ok-id.ensures, known c.in_ok-id.id c.in-Some.alg c.in-Some.ensures.found) refl

pub returns-in-None : goal.returns-in-None
unfolding bank
returns-in-None c = rw (c.in_ok-id.ensures, unknown c.in_ok-id.id c.in-None.ensures.unknown) refl

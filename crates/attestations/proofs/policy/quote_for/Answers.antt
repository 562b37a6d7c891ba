use Rattle.std.proofs.Common.{sym, ◌∙◌}
use Rattle.tpm_quotes.specs.Spelling.{quote_of}
use Rattle.attestations.specs.Policies.{terms_of}
use Rattle.attestations.proofs.JudgeLaws.{refused_by}
use Rattle.attestations.proofs.policy.quote_for.Goals as goal

pub returns-in-Some-clause-fault : goal.returns-in-Some-clause-fault
returns-in-Some-clause-fault c =
    refused_by c.args.message.now (terms_of c.args.policy.now) (quote_of c.in_ok-quote.quote) c.in-Some.refusal c.in_ok-quote.ensures.found
    (sym c.refusal_of.ensures ∙ c.in-Some.is)

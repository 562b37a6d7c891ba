use Rattle.judging_laws.proofs.KnownEntryLaws.{attested_known, comparison_known}
use Rattle.judging_laws.proofs.known.successful_answer_has_known_entries.Goals as goal

pub returns-clause-comparison : goal.returns-clause-comparison
returns-clause-comparison c = comparison_known (record { from = c.each_is_known.ensures.from; first = c.each_is_known.ensures.first })

pub returns-clause-attestation : goal.returns-clause-attestation
returns-clause-attestation c = attested_known (record { from = c.each_is_known.ensures.from; first = c.each_is_known.ensures.first })

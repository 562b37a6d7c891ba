use Rattle.std.proofs.Common.{◌≡◌, ◌∙◌, ap, subst, sym, true}
use Rattle.boot_log.specs.Names.{algs_in}
use Rattle.boot_verdict.specs.Names.{pcr_after_log_and_list}
use Rattle.tpm_quotes.specs.Quoting.{confirms}
use Rattle.tpm_quotes.specs.Spelling.{TpmQuote}
use Rattle.attestations.specs.Judging.{Attestation}
use Rattle.judging_laws.proofs.QuotedLogLaws.{after_log}
use Rattle.judging_laws.proofs.quoted.successful_answer_quotes_the_log.Goals as goal

pub returns : goal.returns
returns c =
    λ inputs asked given is success whole none.
    let (list, held, tells) = c.answer_tells_attestation.ensures.whole inputs asked given is success whole none in
    let attested = tells.attested in
    let algs = algs_in attested.table in
    let same = sym (ap (λ (attestation : Attestation). attestation.quote) attested.attestation_is) ∙ tells.quote_is in
    record {
      table = attested.table;
      events = attested.events;
      entries = attested.entries;
      log_is = attested.log_is;
      confirmed = subst (λ (quote : TpmQuote). confirms quote (pcr_after_log_and_list algs attested.events attested.entries) ≡ true) same attested.confirmed;
      after_log = λ alg register other. after_log algs attested.events attested.entries alg register attested.list_apart other;
    }

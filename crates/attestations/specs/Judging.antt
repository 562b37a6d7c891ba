-- The judgement on a log, a list and a quote that were read. All of this is this project's choice.
use Rattle.std.specs.Prelude.{ℕ, not, if◌then◌else◌, List, length, bytes_eq, Option, Some, None, option_map}
use Rattle.std.specs.Option.{option_or}
use Rattle.pcr_banks.specs.declared.sets.AlgSet.{AlgSet}
use Rattle.boot_log.specs.Names.{LogEvent, startup_locality}
use Rattle.ima_list.specs.Names.{ListEntry}
use Rattle.boot_verdict.specs.declared.aggregate_rule.AggregateRule.{AggregateRule}
use Rattle.boot_verdict.specs.declared.report.Aggregate.{Aggregate}
use Rattle.boot_verdict.specs.Names.{aggregate_under, first_extending, first_stray, is_good, pcr_after_log_and_list}
use Rattle.tpm_quotes.specs.Spelling.{TpmQuote, quote_of}
use Rattle.tpm_quotes.specs.Quoting.{confirms}
use Rattle.tpm_quotes.specs.Faults.{quote_fault_number}
use Rattle.attestations.specs.declared.attested.AttestedLog.{AttestedLog}
use Rattle.attestations.specs.declared.attested.Cause.{Cause}
use Rattle.attestations.specs.declared.attested.Cause.TheVariants.{LogExtends, ListExtends, BadAggregate, Differs}
use Rattle.attestations.specs.declared.policy.QuoteRefusal.{QuoteRefusal}
use Rattle.attestations.specs.declared.policy.QuoteRefusal.TheVariants.{Message, OtherNonce, NotSelected}
use Rattle.attestations.specs.Policies.{Terms, first_unselected}

-- What is known where log and list are attested.
pub record Attestation : Type 0 where
  pub events : ℕ
  pub locality : ℕ
  pub entries : ℕ
  pub aggregate : Aggregate
  pub quote : TpmQuote

abbrev pub attestation_on : AggregateRule → AlgSet → List LogEvent → List ListEntry → TpmQuote → Attestation
attestation_on rule algs events entries quote = record {
  events = length events;
  locality = startup_locality events;
  entries = length entries;
  aggregate = aggregate_under rule algs events entries;
  quote = quote;
}

-- Why the quote is not the one that is asked for: it has another nonce; or it does not select a register that is required.
abbrev pub quote_refusal : TpmQuote → Terms → Option QuoteRefusal
quote_refusal quote terms =
    if not (bytes_eq quote.nonce terms.nonce) then Some OtherNonce
    else option_map (λ at. NotSelected at.0 at.1) (first_unselected terms.required quote.selections)

-- The number of a refusal: of a message that is no quote that of its fault, 1 to 10.
abbrev pub quote_refusal_number : QuoteRefusal → ℕ
quote_refusal_number (Message fault) = quote_fault_number fault
quote_refusal_number OtherNonce = 11
quote_refusal_number (NotSelected alg register) = 12

-- The first cause in which registers log and list extend.
abbrev pub cause_in_extends : List LogEvent → List ListEntry → Option Cause
cause_in_extends events entries =
    option_or (option_map LogExtends (first_extending events)) (option_map (λ stray. ListExtends stray.entry stray.register) (first_stray entries))

-- The first cause in the values to which log and list replay.
abbrev pub cause_in_registers : AggregateRule → AlgSet → List LogEvent → List ListEntry → TpmQuote → Option Cause
cause_in_registers rule algs events entries quote =
    if not (is_good (aggregate_under rule algs events entries)) then Some BadAggregate
    else if not (confirms quote (pcr_after_log_and_list algs events entries)) then Some Differs
    else None

-- The first cause against log and list, by this rule for the boot aggregate.
abbrev pub cause_against : AggregateRule → AlgSet → List LogEvent → List ListEntry → TpmQuote → Option Cause
cause_against rule algs events entries quote =
    option_or (cause_in_extends events entries) (cause_in_registers rule algs events entries quote)

-- ---- what contracts see of what is known

abbrev pub attestation_of : AttestedLog → Attestation
attestation_of attested = record {
  events = attested.events;
  locality = attested.locality;
  entries = attested.entries;
  aggregate = attested.aggregate;
  quote = quote_of attested.quote;
}

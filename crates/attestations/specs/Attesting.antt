-- What a judgement on bytes tells: a firmware log, a measurement list, and the message of a quote, whose signature someone else has
-- verified.
use Rattle.std.specs.Prelude.{◌≡◌, ℕ, ◌<◌, true, false, List, Some, None, Ok}
use Rattle.pcr_banks.specs.declared.alg.Alg.{Alg}
use Rattle.pcr_banks.specs.Names.{register_count}
use Rattle.pcr_values.specs.Names.{names}
use Rattle.boot_log.specs.declared.header.DeclaredAlgorithm.{DeclaredAlgorithm}
use Rattle.boot_log.specs.Names.{IsLog, LogEvent, algs_in}
use Rattle.ima_list.specs.Names.{AreGenuine, IsReading, ListEntry}
use Rattle.boot_verdict.specs.declared.report.Aggregate.TheVariants.{Good}
use Rattle.boot_verdict.specs.declared.verifier.VerifyFault.{VerifyFault}
use Rattle.boot_verdict.specs.declared.verifier.VerifyFault.TheVariants as verdicts
use Rattle.boot_verdict.specs.Names.{IsListApart, IsLogApart, IsVerifyFault, aggregate_under, is_good, pcr_after_log_and_list}
use Rattle.tpm_quotes.specs.Spelling.{IsQuote, TpmQuote, selects}
use Rattle.tpm_quotes.specs.Reading.{quote_fault}
use Rattle.tpm_quotes.specs.Quoting.{confirms}
use Rattle.attestations.specs.declared.attested.AttestFault.{AttestFault}
use Rattle.attestations.specs.declared.attested.AttestFault.TheVariants as faults
use Rattle.attestations.specs.declared.attested.Cause.{Cause}
use Rattle.attestations.specs.declared.policy.QuoteRefusal.{QuoteRefusal}
use Rattle.attestations.specs.declared.policy.QuoteRefusal.TheVariants as refusals
use Rattle.attestations.specs.Judging.{Attestation, attestation_on, cause_against, quote_refusal}
use Rattle.attestations.specs.Policies.{AreSound, Terms, policy_fault}

-- The bytes are a log, a list of genuine entries and a quote with the nonce, which selects each required register; only the list extends the
-- list's register, and it extends no other; its first entry records the boot aggregate of the log, as the terms' rule takes it; and the quote is
-- of the values to which log and list replay.
pub record IsAttested (log list message : List ℕ) (terms : Terms) (attestation : Attestation) : Type 0 where
  pub table : List DeclaredAlgorithm
  pub events : List LogEvent
  pub entries : List ListEntry
  pub quote : TpmQuote
  pub log_is : IsLog log table events
  pub list_is : IsReading list (Ok entries)
  pub genuine : AreGenuine entries
  pub message_is : IsQuote message quote
  pub sound : AreSound terms
  pub nonce_is : quote.nonce ≡ terms.nonce
  pub covered : (alg : Alg) (register : ℕ) → register < register_count → names terms.required alg register ≡ true
      → selects quote.selections alg register ≡ true
  pub log_apart : IsLogApart events
  pub list_apart : IsListApart entries
  pub aggregate : is_good (aggregate_under terms.rule (algs_in table) events entries) ≡ true
  pub newly : terms.rule.old_kernel ≡ false → aggregate_under terms.rule (algs_in table) events entries ≡ Good
  pub confirmed : confirms quote (pcr_after_log_and_list (algs_in table) events entries) ≡ true
  pub attestation_is : attestation ≡ attestation_on terms.rule (algs_in table) events entries quote

-- ---- why there is no attestation

-- The message is a quote, and it is the one that is asked for.
pub record IsAskedFor (message : List ℕ) (terms : Terms) : Type 0 where
  pub quote : TpmQuote
  pub message_is : IsQuote message quote
  pub taken : quote_refusal quote terms ≡ None

-- The message is a quote, and it is refused for this.
pub record IsRefusedFor (message : List ℕ) (terms : Terms) (refusal : QuoteRefusal) : Type 0 where
  pub quote : TpmQuote
  pub message_is : IsQuote message quote
  pub refused : quote_refusal quote terms ≡ Some refusal

-- The first reason: the message is no quote; else it is not the one that is asked for.
abbrev pub IsQuoteRefusal : List ℕ → Terms → QuoteRefusal → Type 0
IsQuoteRefusal message terms (refusals.Message fault) = quote_fault message ≡ Some fault
IsQuoteRefusal message terms refusal = IsRefusedFor message terms refusal

-- Log or list are refused. No memory is needed, so none runs out.
abbrev pub IsBootFault : List ℕ → List ℕ → VerifyFault → Type 0
IsBootFault log list verdicts.Memory = ⊥
IsBootFault log list fault = IsVerifyFault log list fault

-- The bytes are a log, a list of genuine entries and the quote that is asked for, and this is against them.
pub record IsAgainst (log list message : List ℕ) (terms : Terms) (cause : Cause) : Type 0 where
  pub table : List DeclaredAlgorithm
  pub events : List LogEvent
  pub entries : List ListEntry
  pub asked : IsAskedFor message terms
  pub log_is : IsLog log table events
  pub list_is : IsReading list (Ok entries)
  pub genuine : AreGenuine entries
  pub cause_is : cause_against terms.rule (algs_in table) events entries asked.quote ≡ Some cause

-- The first reason: the policy is refused; else the quote is, since the message is none or not the one that is asked for; else log or list
-- are refused; else something is against them.
abbrev pub IsAttestFault : List ℕ → List ℕ → List ℕ → Terms → AttestFault → Type 0
IsAttestFault log list message terms (faults.Policy fault) = policy_fault terms ≡ Some fault
IsAttestFault log list message terms (faults.Quote refusal) = (policy_fault terms ≡ None) × IsQuoteRefusal message terms refusal
IsAttestFault log list message terms (faults.Boot fault) = (policy_fault terms ≡ None) × IsAskedFor message terms × IsBootFault log list fault
IsAttestFault log list message terms (faults.Against cause) = (policy_fault terms ≡ None) × IsAgainst log list message terms cause

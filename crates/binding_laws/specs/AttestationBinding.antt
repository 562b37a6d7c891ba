-- What an attestation tells of a log and a list.
use Rattle.std.specs.Prelude.{◌≡◌, ◌⊎◌, ℕ, List}
use Rattle.pcr_banks.specs.declared.alg.Alg.{Alg}
use Rattle.pcr_banks.specs.Names.{reset_value}
use Rattle.boot_log.specs.Names.{algs_in}
use Rattle.binding_laws.specs.LogBinding.{ExtendAlike, LogsBreakHash}
use Rattle.binding_laws.specs.ListBinding.{ReplaysBreakHash, extensions_of}
use Rattle.boot_verdict.specs.Names.{list_register, pcr_after_log_and_list}
use Rattle.tpm_quotes.specs.Quoting.{Values}
use Rattle.binding_laws.specs.QuoteBinding.{QuotesCollide}
use Rattle.attestations.specs.Judging.{Attestation}
use Rattle.attestations.specs.Policies.{Terms}
use Rattle.attestations.specs.Attesting.{IsAttested}

-- Two attestations by one message: each of a log and a list, by terms of its own.
pub record TwoAttestations (message : List ℕ) : Type 0 where
  pub log : List ℕ
  pub list : List ℕ
  pub terms : Terms
  pub told : Attestation
  pub other_log : List ℕ
  pub other_list : List ℕ
  pub other_terms : Terms
  pub other_told : Attestation
  pub one : IsAttested log list message terms told
  pub two : IsAttested other_log other_list message other_terms other_told

-- The registers that log and list make.
abbrev pub values_of : {log list message : List ℕ} → {terms : Terms} → {told : Attestation} → IsAttested log list message terms told → Values
values_of is = pcr_after_log_and_list (algs_in is.table) is.events is.entries

-- Both extend the register alike: by the same digests of the logs, in order, from the same locality if it is register 0, and for the
-- same things of the lists, in order.
pub record ExtendRegisterAlike (alg : Alg) (register : ℕ) (message : List ℕ) (both : TwoAttestations message) : Type 0 where
  pub logs : ExtendAlike alg register both.one.events both.two.events
  pub lists : extensions_of both.one.entries register ≡ extensions_of both.two.entries register

-- Both together break a hash: the quote's, by different values of the selected registers; or, only for the list's register, the bank's by
-- the replays of the two lists from the register's reset value; or, only for another register, the bank's by the extends of the two logs.
abbrev pub BreakHash : Alg → ℕ → (message : List ℕ) → TwoAttestations message → Type 0
BreakHash alg register message both =
    QuotesCollide both.one.quote (values_of both.one) both.one.quote (values_of both.two)
    ⊎ (((register ≡ list_register)
    × ReplaysBreakHash alg list_register (reset_value alg list_register 0) both.one.entries both.two.entries)
    ⊎ ((register ≡ list_register → ⊥) × LogsBreakHash alg register both.one.events both.two.events))

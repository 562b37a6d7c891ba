-- What a verifier asks of an attestation. All of this is this project's choice.
use Rattle.std.specs.Prelude.{◌≡◌, ℕ, ◌+◌, ◌<◌, ◌≤◌, nat_lt, ◌&&◌, not, Bool, true, false, if◌then◌else◌, List, length, find, Option, Some, None, option_map, option_and_then, is_some}
use Rattle.std.specs.Option.{option_or}
use Rattle.std.specs.List.{list_any, range_with_len}
use Rattle.pcr_banks.specs.declared.alg.Alg.{Alg}
use Rattle.pcr_banks.specs.declared.alg.Alg.TheVariants.{Sha1}
use Rattle.pcr_banks.specs.Names.{all_algs, register_count, same_alg}
use Rattle.pcr_values.specs.declared.selection.BankRange.{BankRange}
use Rattle.pcr_values.specs.Names.{names}
use Rattle.tpm_quotes.specs.Spelling.{BankSelection, all_registers, selects}
use Rattle.attestations.specs.declared.policy.Policy.{Policy}
use Rattle.attestations.specs.declared.policy.PolicyFault.{PolicyFault}
use Rattle.attestations.specs.declared.policy.PolicyFault.TheVariants.{ShortNonce, NotRequired, OnlySha1}
use Rattle.boot_verdict.specs.declared.aggregate_rule.AggregateRule.{AggregateRule}
use Rattle.boot_verdict.specs.Names.{list_register}

-- The nonce that was given out; the registers that must be quoted; whether a register may be required in the SHA-1 bank alone; and by which rule
-- the boot aggregate must be good.
pub record Terms : Type 0 where
  pub nonce : List ℕ
  pub required : List BankRange
  pub takes_sha1 : Bool
  pub rule : AggregateRule

-- The fewest bytes of a nonce: 128 bits, so that chance makes none twice.
abbrev pub least_nonce : ℕ
least_nonce = 16

-- Whether the register is required in some bank.
abbrev pub is_named : List BankRange → ℕ → Bool
is_named required register = list_any (λ alg. names required alg register) all_algs

-- Whether it is required in a bank other than that of SHA-1, of which collisions are made in practice.
abbrev pub is_named_beside_sha1 : List BankRange → ℕ → Bool
is_named_beside_sha1 required register = list_any (λ alg. not (same_alg alg Sha1) && names required alg register) all_algs

-- The first register that is not required in any bank, of those that bind the log, 0 to 9 (which the boot aggregate hashes), and that of the
-- list.
abbrev pub first_unnamed : List BankRange → Option ℕ
first_unnamed required = find (λ register. not (is_named required register)) (range_with_len 0 (list_register + 1))

-- The first register that is required in the SHA-1 bank alone.
abbrev pub first_weak : List BankRange → Option ℕ
first_weak required = find (λ register. names required Sha1 register && not (is_named_beside_sha1 required register)) all_registers

-- Why the terms are refused: the nonce may come twice; nothing would bind a part of the log, or the list; or SHA-1 alone would bind it.
abbrev pub policy_fault : Terms → Option PolicyFault
policy_fault terms =
    if nat_lt (length terms.nonce) least_nonce then Some ShortNonce
    else option_or (option_map NotRequired (first_unnamed terms.required))
    (if terms.takes_sha1 then None else option_map OnlySha1 (first_weak terms.required))

-- Terms that are not refused.
pub record AreSound (terms : Terms) : Type 0 where
  pub long : least_nonce ≤ length terms.nonce
  pub named : (register : ℕ) → register ≤ list_register → is_named terms.required register ≡ true
  pub strong : terms.takes_sha1 ≡ false → (register : ℕ) → register < register_count → names terms.required Sha1 register ≡ true
      → is_named_beside_sha1 terms.required register ≡ true

-- The first register of a bank that is required and not selected.
abbrev pub unselected_in : List BankRange → List BankSelection → Alg → Option ℕ
unselected_in required selections alg =
    find (λ register. names required alg register && not (selects selections alg register)) all_registers

-- The first of the first such bank, with the bank.
abbrev pub first_unselected : List BankRange → List BankSelection → Option (Alg × ℕ)
first_unselected required selections =
    option_and_then (λ alg. option_map (λ register. (alg, register)) (unselected_in required selections alg))
    (find (λ alg. is_some (unselected_in required selections alg)) all_algs)

-- ---- what contracts see of a policy

abbrev pub terms_of : Policy → Terms
terms_of policy = record { nonce = policy.nonce.now; required = policy.required.now; takes_sha1 = policy.takes_sha1; rule = policy.rule }

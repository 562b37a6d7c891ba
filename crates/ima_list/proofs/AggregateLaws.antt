-- Registers read one after another, and joined.
use Rattle.std.proofs.Common.{◌≡◌, ℕ, zero, suc, ◌+◌, ◌<◌, false, true, List, [], ◌∷◌, ◌++◌, length, get_or, map, Option, Some, None, refl, sym, ap, ◌∙◌, append_assoc, arith}
use Rattle.std.specs.Prelude.{IsTrue, is_some, option_map}
use Rattle.std.specs.List.{range_with_len}
use Rattle.std.proofs.lemmas.List.{append-nil}
use Rattle.std.proofs.lemmas.List.FromFn.{map-range_with_len_more, length-map-range_with_len, get_or-map-range_with_len}
use Rattle.pcr_banks.specs.declared.alg.Alg.{Alg}
use Rattle.pcr_banks.specs.declared.banks.Banks.{Banks}
use Rattle.pcr_banks.specs.declared.digest.Digest.{Digest}
use Rattle.pcr_banks.specs.declared.hasher.Hasher.{Hasher}
use Rattle.pcr_banks.specs.Names.{HasTaken, bank_of, bytes_of, digest_of, hash_of, in_bank, is_active, value_at}
use Rattle.pcr_banks.proofs.BankLaws.{some_digest, no_digest, read_value, read_none, active_bank}
use Rattle.ima_list.specs.Names.{aggregate_register_count, all_joined, boot_aggregate_of, joined_values, old_register_count}

-- ---- values joined

swapped : (prefix value : List ℕ) (o : Option (List ℕ))
    → option_map (λ rest. prefix ++ rest) (option_map (λ text. text ++ value) o) ≡ option_map (λ text. text ++ value)
    (option_map (λ rest. prefix ++ rest) o)
swapped prefix value None = refl
swapped prefix value (Some text) = ap (λ (t : List ℕ). Some t) (sym (append_assoc prefix text value))

one_more : (values : List (Option (List ℕ))) (value : List ℕ)
    → all_joined (values ++ Some value ∷ []) ≡ option_map (λ text. text ++ value) (all_joined values)
one_more [] value = ap (λ (t : List ℕ). Some t) (append-nil value)
one_more (None ∷ values) value = refl
one_more (Some prefix ∷ values) value =
    ap (option_map (λ rest. prefix ++ rest)) (one_more values value) ∙ swapped prefix value (all_joined values)

one_missing : (values : List (Option (List ℕ))) (i : ℕ) → i < length values → get_or values i (Some []) ≡ None → all_joined values ≡ None
one_missing [] i lt e = absurd (omega arith)
one_missing (None ∷ values) i lt e = refl
one_missing (Some prefix ∷ values) zero lt e = absurd cc
one_missing (Some prefix ∷ values) (suc i) lt e = ap (option_map (λ rest. prefix ++ rest)) (one_missing values i (omega arith) e)

joined_none : (value_of : ℕ → Option (List ℕ)) → joined_values value_of 0 ≡ Some []
unfolding joined_values
joined_none value_of = refl

joined_more : (value_of : ℕ → Option (List ℕ)) (count : ℕ) (text value : List ℕ) → joined_values value_of count ≡ Some text
    → value_of count ≡ Some value
    → joined_values value_of (count + 1) ≡ Some (text ++ value)
unfolding joined_values
joined_more value_of count text value e is =
    ap all_joined (map-range_with_len_more value_of 0 count count (omega arith)
    ∙ ap (λ (o : Option (List ℕ)). map value_of (range_with_len 0 count) ++ o ∷ []) is)
    ∙ one_more (map value_of (range_with_len 0 count)) value
    ∙ ap (option_map (λ t. t ++ value)) e

joined_lacks : (value_of : ℕ → Option (List ℕ)) (count register : ℕ) → register < count → value_of register ≡ None
    → joined_values value_of count ≡ None
unfolding joined_values
joined_lacks value_of count register lt e =
    let values = map value_of (range_with_len 0 count) in
    one_missing values register (omega (arith, length-map-range_with_len value_of 0 count))
    (get_or-map-range_with_len value_of 0 count register register (Some []) lt (omega arith) ∙ e)

-- ---- the loop

-- The hasher took the values of the first `count` registers, joined; the bank is active if it took any.
pub record HasJoined (hasher : Hasher) (banks : Banks) (alg : Alg) (count : ℕ) : Type 0 where
  pub text : List ℕ
  pub joined : joined_values (value_at banks alg) count ≡ Some text
  pub taken : HasTaken hasher alg text
  pub active : 0 < count → is_active banks alg ≡ true

pub joined_at_first : (hasher : Hasher) (banks : Banks) (alg : Alg) → HasTaken hasher alg [] → HasJoined hasher banks alg 0
joined_at_first hasher banks alg taken = record {
  text = [];
  joined = joined_none (value_at banks alg);
  taken = taken;
  active = λ lt. absurd (omega arith);
}

pub joined_next : (old new : Hasher) (banks : Banks) (alg : Alg) (register : ℕ) (digest : Digest) → HasJoined old banks alg register
    → some_digest digest ≡ option_map (digest_of alg) (value_at banks alg register)
    → ((a : Alg) (taken : List ℕ) → HasTaken old a taken → HasTaken new a (taken ++ bytes_of digest))
    → HasJoined new banks alg (register + 1)
joined_next old new banks alg register digest before e update =
    let value = read_value alg (value_at banks alg register) digest e in
    record {
      text = before.text ++ bytes_of digest;
      joined = joined_more (value_at banks alg) register before.text (bytes_of digest) before.joined value;
      taken = update alg before.text before.taken;
      active = λ lt. active_bank (bank_of banks alg) register (bytes_of digest) value;
    }

-- A bank that is not active has no old aggregate.
pub not_active : (bank : Option (List (List ℕ))) (hash : List ℕ → List ℕ) → (IsTrue (is_some bank) → IsTrue false)
    → option_map hash (joined_values (in_bank bank) old_register_count) ≡ None
unfolding joined_values
not_active None hash inactive = refl
not_active (Some registers) hash inactive = let differ : false ≡ true = inactive refl in absurd cc

-- Where a register has no value, there is no aggregate.
pub lacks_none : (banks : Banks) (alg : Alg) (count register : ℕ) → count ≡ aggregate_register_count alg → register < count
    → no_digest ≡ option_map (digest_of alg) (value_at banks alg register) → boot_aggregate_of banks alg ≡ None
lacks_none banks alg count register all lt e =
    let none = read_none alg (value_at banks alg register) e in
    ap (option_map (hash_of alg)) (joined_lacks (value_at banks alg) (aggregate_register_count alg) register (omega arith) none)

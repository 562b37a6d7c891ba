-- The numbers of the registers.
use Rattle.std.proofs.Common.{◌≡◌, ℕ, ◌+◌, ◌*◌, ◌/◌, ◌%◌, ◌<◌, List, [], ◌∷◌, length, take, get_or, map, refl, ap, ◌∙◌, arith}
use Rattle.std.specs.Prelude.{flat_map}
use Rattle.std.proofs.lemmas.List.FromFn.{length-range_with_len, get_or-range_with_len}
use Rattle.std.proofs.lemmas.List.{get_or-map, length-append, length-map, length-take}
use Rattle.std.proofs.lemmas.List.Concat.{get_or-flat_map}
use Rattle.pcr_banks.specs.declared.alg.Alg.{Alg}
use Rattle.pcr_banks.specs.declared.alg.Alg.TheVariants.{Sha1}
use Rattle.pcr_banks.specs.Names.{all_algs}
use Rattle.pcr_values.specs.Names.{all_registers, every_register}

pub register_count : length all_registers ≡ 24
unfolding all_registers
register_count = length-range_with_len 0 24

pub register_at : (i : ℕ) → i < 24 → get_or all_registers i 0 ≡ i
unfolding all_registers
register_at i lt = get_or-range_with_len 0 24 i 0 lt ∙ (omega arith)

-- The registers of one bank.
abbrev of_bank : Alg → List (Alg × ℕ)
of_bank alg = map (λ register. (alg, register)) all_registers

bank_size : (alg : Alg) → length (of_bank alg) ≡ 24
bank_size alg = length-map all_registers (λ register. (alg, register)) ∙ register_count

banks_size : (algs : List Alg) → length (flat_map of_bank algs) ≡ 24 * length algs
banks_size [] = refl
banks_size (alg ∷ algs) =
    omega (arith, length-append (of_bank alg) (flat_map of_bank algs), bank_size alg, banks_size algs)

pub every_count : length every_register ≡ 96
unfolding every_register
every_count = banks_size all_algs

-- The place of a register of a bank is counted in whole banks.
at_place : (algs : List Alg) (bank register : ℕ) → bank < length algs → register < 24
    → get_or (flat_map of_bank algs) (24 * bank + register) (Sha1, 0) ≡ (get_or algs bank Sha1, register)
at_place algs bank register within lt =
    let before : 24 * bank ≡ length (flat_map of_bank (take bank algs)) =
    omega (arith, banks_size (take bank algs), length-take bank algs, within) in
    rw (
      before,
      get_or-flat_map of_bank algs bank register Sha1 (Sha1, 0) within (omega (arith, bank_size (get_or algs bank Sha1), lt)),
      get_or-map {Y = Alg × ℕ} (λ number. (get_or algs bank Sha1, number)) all_registers register 0 (Sha1, 0) (omega (arith, register_count, lt)),
      register_at register lt,
    )

pub every_at : (i : ℕ) → i < 96 → get_or every_register i (Sha1, 0) ≡ (get_or all_algs (i / 24) Sha1, i % 24)
unfolding every_register
every_at i lt =
    let place : i ≡ 24 * (i / 24) + i % 24 = omega arith in
    ap (λ (k : ℕ). get_or every_register k (Sha1, 0)) place ∙ at_place all_algs (i / 24) (i % 24) (omega (arith, lt)) (omega arith)

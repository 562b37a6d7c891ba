-- The boot aggregate: what a list's first entry says about the registers that the firmware left.
use Rattle.std.specs.Prelude.{ℕ, if◌then◌else◌, List, [], ◌∷◌, ◌++◌, codes, map, Option, Some, option_map, option_and_then}
use Rattle.std.specs.List.{range_with_len}
use Rattle.pcr_banks.specs.declared.alg.Alg.{Alg}
use Rattle.pcr_banks.specs.declared.alg.Alg.TheVariants.{Sha1}
use Rattle.pcr_banks.specs.declared.banks.Banks.{Banks}
use Rattle.pcr_banks.specs.Names.{hash_of, same_alg, value_at}

-- The path of that entry (the kernel's security/integrity/ima/ima_init.c, boot_aggregate_name).
abbrev pub boot_aggregate_path : List ℕ
boot_aggregate_path = codes "boot_aggregate"

-- How many registers, from PCR 0 on, the aggregate of a bank covers: 8 for SHA-1, 10 for every other algorithm (the kernel's
-- security/integrity/ima/ima_crypto.c, ima_calc_boot_aggregate_tfm, since Linux 5.8). That it is always 10 for the others is this
-- project's choice.
abbrev pub aggregate_register_count : Alg → ℕ
aggregate_register_count alg = if same_alg alg Sha1 then 8 else 10

-- The values joined; `None` where one is missing.
abbrev pub all_joined : List (Option (List ℕ)) → Option (List ℕ)
all_joined [] = Some []
all_joined (first ∷ others) = option_and_then (λ value. option_map (λ rest. value ++ rest) (all_joined others)) first

-- The values of the first `count` registers of a bank, joined; `None` where one is missing.
unfoldable pub joined_values : (ℕ → Option (List ℕ)) → ℕ → Option (List ℕ)
joined_values value_of count = all_joined (map value_of (range_with_len 0 count))

-- The boot aggregate of a bank: the hash of these registers' values, joined. `None` where one is missing, which is where the bank
-- is not active.
abbrev pub boot_aggregate_of : Banks → Alg → Option (List ℕ)
boot_aggregate_of banks alg = option_map (hash_of alg) (joined_values (value_at banks alg) (aggregate_register_count alg))

-- How many registers, from PCR 0 on, the aggregate of a kernel before 5.8 covers in each bank: since then it covers PCRs 8 and 9 in banks
-- other than SHA-1 (the kernel's security/integrity/ima/ima_crypto.c, ima_calc_boot_aggregate_tfm).
abbrev pub old_register_count : ℕ
old_register_count = 8

-- It is the hash of these registers' values in the bank, joined.
abbrev pub old_aggregate : (Alg → ℕ → Option (List ℕ)) → Alg → Option (List ℕ)
old_aggregate values alg = option_map (hash_of alg) (joined_values (values alg) old_register_count)

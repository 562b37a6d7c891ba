-- A checkpoint while its text is read line after line.
use Rattle.std.specs.Prelude.{◌≡◌, ℕ, ◌<◌, ◌&&◌, ◌==◌, List, IsSome, if◌then◌else◌, nat_lt, option_map}
use Rattle.pcr_banks.specs.declared.alg.Alg.{Alg}
use Rattle.pcr_banks.specs.declared.banks.Banks.{Banks}
use Rattle.pcr_banks.specs.Names.{register_count, same_alg, value_at}

-- The banks have one of this algorithm, and its registers.
abbrev pub HasBank : Banks → Alg → Type 0
HasBank banks alg = (r : ℕ) → r < register_count → IsSome (value_at banks alg r)

-- `new` is `old` with this value in a register, if there is such a register.
abbrev pub Sets : Banks → Banks → Alg → ℕ → List ℕ → Type 0
Sets old new alg register value =
    (a : Alg) (r : ℕ)
    → value_at new a r ≡ (if same_alg a alg && (r == register) then option_map (λ _. value) (value_at old a r) else value_at old a r)

-- `new` is `old` with the bank's registers below `count` as they are in `known`.
abbrev pub TakesSome : Banks → Banks → Banks → Alg → ℕ → Type 0
TakesSome known old new alg count =
    (a : Alg) (r : ℕ) → value_at new a r ≡ (if same_alg a alg && nat_lt r count then value_at known a r else value_at old a r)

-- `new` is `old` with the bank as it is in `known`.
abbrev pub TakesBank : Banks → Banks → Banks → Alg → Type 0
TakesBank known old new alg =
    (a : Alg) (r : ℕ) → value_at new a r ≡ (if same_alg a alg then value_at known a r else value_at old a r)

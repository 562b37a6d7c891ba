-- The lines of registers.
use Rattle.std.specs.Prelude.{ℕ, Bool, true, not, List, [], ◌++◌, codes, decimal, bytes_eq, flat_map, map, if◌then◌else◌, Option, Some, None}
use Rattle.std.specs.List.{range_with_len}
use Rattle.hex.specs.Hex.{encode_lower}
use Rattle.pcr_banks.specs.declared.alg.Alg.{Alg}
use Rattle.pcr_banks.specs.declared.banks.Banks.{Banks}
use Rattle.pcr_banks.specs.Names.{all_algs, name_of, register_count, value_at}

-- A register line: algorithm, register in decimal, value in lower case hexadecimal.
abbrev pub register_line : Alg → ℕ → List ℕ → List ℕ
register_line alg register value =
    name_of alg ++ (codes " " ++ (decimal register ++ (codes " " ++ (encode_lower value ++ codes "\n"))))

-- Whether the value differs from the one before, or there was none.
abbrev pub differs : Option (List ℕ) → List ℕ → Bool
differs None value = true
differs (Some before) value = not (bytes_eq before value)

-- The line of a register whose value differs from the one before; empty if it has no value now.
abbrev pub change_line : Alg → ℕ → Option (List ℕ) → Option (List ℕ) → List ℕ
change_line alg register before None = []
change_line alg register before (Some value) = if differs before value then register_line alg register value else []

-- The line of a register of a bank, if it differs from the start.
abbrev pub register_change : Banks → Banks → Alg → ℕ → List ℕ
register_change now start alg register = change_line alg register (value_at start alg register) (value_at now alg register)

-- The numbers of the registers, ascending.
unfoldable pub all_registers : List ℕ
all_registers = range_with_len 0 register_count

-- The registers of all banks: by bank in the order of algorithms, then by number.
unfoldable pub every_register : List (Alg × ℕ)
every_register = flat_map (λ alg. map (λ register. (alg, register)) all_registers) all_algs

-- The lines of all registers that differ.
abbrev pub registers_text : Banks → Banks → List ℕ
registers_text now start = flat_map (λ register. register_change now start register.0 register.1) every_register

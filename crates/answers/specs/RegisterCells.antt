-- The cells of registers: those that differ from a start, and expected ones.
use Rattle.std.specs.Prelude.{ℕ, List, [], ◌∷◌, codes, if◌then◌else◌, Option, None, Some}
use Rattle.pcr_banks.specs.declared.alg.Alg.{Alg}
use Rattle.pcr_banks.specs.declared.banks.Banks.{Banks}
use Rattle.pcr_banks.specs.Names.{bytes_of, name_of, value_at}
use Rattle.json.specs.Json.{Json}
use Rattle.pcr_values.specs.declared.expected.Expected.{Expected}
use Rattle.pcr_values.specs.Names.{differs, every_register}
use Rattle.cells.specs.Values.{Member}
use Rattle.cells.specs.Cells.{Cell, beside, each, hex, if_some, in_order, list_at, number, object, text, word}

-- Which register it is, as `sha256 4`.
abbrev pub register_cell : Alg → ℕ → Cell Member
register_cell alg register = beside (word [] (codes "bank") (name_of alg)) (number (codes " ") (codes "register") register)

-- A register and its value.
abbrev pub value_cell : Alg → ℕ → List ℕ → Cell Json
value_cell alg register value =
    object (in_order (register_cell alg register ∷ hex (codes " ") (codes "value") value ∷ text (codes "\n") ∷ []))

-- The value, if it differs from the one before, or there was none; nothing if there is no value now.
abbrev pub changed_value : Option (List ℕ) → Option (List ℕ) → Option (List ℕ)
changed_value before None = None
changed_value before (Some value) = if differs before value then Some value else None

-- The register of a bank, if it differs from the start.
abbrev pub change_cell : Banks → Banks → Alg → ℕ → Cell Json
change_cell now start alg register =
    if_some (changed_value (value_at start alg register) (value_at now alg register)) (value_cell alg register)

-- All registers that differ.
abbrev pub registers_cell : Banks → Banks → Cell Member
registers_cell now start = list_at (codes "registers") (each (λ register. change_cell now start register.0 register.1) every_register)

-- Expected registers, in order.
abbrev pub expected_cell : List Expected → Cell Member
expected_cell expected =
    list_at (codes "registers") (each (λ expected. value_cell expected.alg expected.register (bytes_of expected.value)) expected)

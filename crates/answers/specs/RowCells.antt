-- The cells of rows: expected registers, and required registers that have none.
use Rattle.std.specs.Prelude.{ℕ, List, [], ◌∷◌, codes, map, Option}
use Rattle.pcr_banks.specs.declared.alg.Alg.{Alg}
use Rattle.pcr_banks.specs.Names.{bytes_of}
use Rattle.json.specs.Json.{Json}
use Rattle.pcr_values.specs.declared.expected.Expected.{Expected}
use Rattle.pcr_values.specs.declared.selection.BankRange.{BankRange}
use Rattle.pcr_values.specs.Names.{every_register}
use Rattle.boot_verdict.specs.Names.{is_missing}
use Rattle.cells.specs.Values.{Member}
use Rattle.cells.specs.Cells.{Cell, beside, each, hex_member, if_some, in_order, list_at, object, text, when, word}
use Rattle.answers.specs.RegisterCells.{register_cell}

-- An expected register, its expected value in JSON, and what its row says of it.
abbrev pub row_cell : Expected → Cell Member → Cell Member
row_cell expected said = in_order (
    register_cell expected.alg expected.register
    ∷ hex_member (codes "expected") (bytes_of expected.value)
    ∷ said
    ∷ text (codes "\n")
    ∷ [])

-- A required register that is missing, by this name: `sha256 4 missing`.
abbrev pub missing_cell : List ℕ → Alg → ℕ → Cell Member
missing_cell name alg register = in_order (register_cell alg register ∷ word (codes " ") name (codes "missing") ∷ text (codes "\n") ∷ [])

-- The register if it is missing.
abbrev pub if_missing : List ℕ → List BankRange → List Expected → Alg → ℕ → Cell Json
if_missing name ranges expected alg register = when (is_missing ranges expected alg register) (object (missing_cell name alg register))

-- All that are missing.
abbrev pub missing_cells : List ℕ → List Expected → List BankRange → Cell Json
missing_cells name expected ranges = each (λ register. if_missing name ranges expected register.0 register.1) every_register

-- The rows, and then the required registers that have none.
abbrev pub rows_cell : {A : Type 0} → List ℕ → (A → Expected) → (A → Cell Member) → Option (List BankRange) → List A → Cell Member
rows_cell name expected_of said_of required rows = list_at (codes "registers") (
    beside (each (λ row. object (row_cell (expected_of row) (said_of row))) rows)
    (if_some required (missing_cells name (map expected_of rows))))

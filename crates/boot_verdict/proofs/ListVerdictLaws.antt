-- The verdict on a list alone.
use Rattle.std.proofs.Common.{◌≡◌, ℕ, Bool, true, false, List, [], ◌∷◌, length, map, Option, Some, None, option_map, refl, ap, ◌∙◌}
use Rattle.std.specs.Prelude.{◌&&◌, nat_lt, if◌then◌else◌}
use Rattle.pcr_banks.specs.declared.alg.Alg.{Alg}
use Rattle.pcr_banks.specs.declared.alg.Alg.TheVariants.{Sha1, Sha256, Sha384, Sha512}
use Rattle.pcr_banks.specs.declared.banks.Banks.{Banks}
use Rattle.pcr_banks.specs.Names.{extended_by_all, has_alg, register_count, reset_value, value_at}
use Rattle.pcr_values.specs.declared.expected.Expected.{Expected}
use Rattle.ima_list.specs.Names.{IsReplayed, ListEntry, digests_of}
use Rattle.boot_verdict.specs.declared.isolation.Stray.{Stray}
use Rattle.boot_verdict.specs.declared.report.Row.{Row}
use Rattle.boot_verdict.specs.Names.{HaveSame, IsListStart, ListVerdict, every_alg, first_stray, list_row_on, list_verdict_on, pcr_after_list, row_of, row_state}

-- ---- registers

every_alg_has : (alg : Alg) → has_alg every_alg alg ≡ true
every_alg_has Sha1 = refl
every_alg_has Sha256 = refl
every_alg_has Sha384 = refl
every_alg_has Sha512 = refl

-- A register before a list.
start_value : (start : Banks) (alg : Alg) (register : ℕ) → IsListStart start
    → value_at start alg register ≡ (if nat_lt register register_count then Some (reset_value alg register 0) else None)
start_value start alg register reset =
    reset.values alg register
    ∙ ap (λ (has : Bool). if has && nat_lt register register_count then Some (reset_value alg register 0) else None) (every_alg_has alg)

map_if : (f : List ℕ → List ℕ) (exists : Bool) (value : List ℕ)
    → option_map f (if exists then Some value else None) ≡ (if exists then Some (f value) else None)
map_if f true value = refl
map_if f false value = refl

-- A register after it, where it is replayed from banks that have it.
list_value : (start before banks : Banks) (entries : List ListEntry) (alg : Alg) (register : ℕ) → IsListStart start
    → value_at before alg register ≡ value_at start alg register → IsReplayed before entries banks
    → value_at banks alg register ≡ pcr_after_list entries alg register
list_value start before banks entries alg register reset same replayed =
    let after : List ℕ → List ℕ = λ value. extended_by_all alg value (digests_of entries alg register) in
    replayed.values alg register
    ∙ ap (λ (v : Option (List ℕ)). option_map after v) (same ∙ start_value start alg register reset)
    ∙ map_if after (nat_lt register register_count) (reset_value alg register 0)

-- The row of an expected register that has this value.
abbrev row_with : Expected → Option (List ℕ) → Row
row_with e value = record { expected = e; state = row_state e value }

list_rows_same : (start before banks : Banks) (entries : List ListEntry) (expected : List Expected) → IsListStart start
    → HaveSame expected before start → IsReplayed before entries banks → map (row_of banks) expected ≡ map (list_row_on entries) expected
list_rows_same start before banks entries [] reset same replayed = refl
list_rows_same start before banks entries (e ∷ expected) reset (here, same) replayed =
    let first = ap (row_with e) (list_value start before banks entries e.alg e.register reset here replayed) in
    let others = list_rows_same start before banks entries expected reset same replayed in
    λ i. first i ∷ others i

-- ---- the verdict

pub list_verdict_same : (start before banks : Banks) (entries : List ListEntry) (expected : List Expected) (count : ℕ) (stray : Option Stray)
    (rows : List Row) → IsListStart start → HaveSame expected before start → IsReplayed before entries banks → count ≡ length entries → stray ≡ first_stray entries
    → rows ≡ map (row_of banks) expected
    → ◌≡◌ {A = ListVerdict} (record { entries = count; strays = record { event = None; entry = stray }; rows = rows })
    (list_verdict_on entries expected)
list_verdict_same start before banks entries expected count stray rows reset kept replayed counts first are =
    let same = are ∙ list_rows_same start before banks entries expected reset kept replayed in
    λ i. record { entries = counts i; strays = record { event = None; entry = first i }; rows = same i }

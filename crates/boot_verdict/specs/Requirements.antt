-- Registers that must be among the expected ones.
use Rattle.std.specs.Prelude.{◌≡◌, ◌⊎◌, ℕ, ◌&&◌, ◌==◌, not, Bool, true, false, List, map}
use Rattle.std.specs.List.{Contains, list_all, list_any}
use Rattle.pcr_banks.specs.declared.alg.Alg.{Alg}
use Rattle.pcr_banks.specs.Names.{all_algs, same_alg}
use Rattle.pcr_values.specs.declared.expected.Expected.{Expected}
use Rattle.pcr_values.specs.declared.selection.BankRange.{BankRange}
use Rattle.pcr_values.specs.Names.{IsFirstWrong, SpellsRanges, all_registers, are_of_banks, names}
use Rattle.boot_verdict.specs.declared.steps.Located.{Located}
use Rattle.boot_verdict.specs.declared.report.Row.{Row}
use Rattle.boot_verdict.specs.declared.report.State.TheVariants.{Match}
use Rattle.boot_verdict.specs.Isolation.{are_none, list_register}
use Rattle.boot_verdict.specs.Positions.{all_found}
use Rattle.boot_verdict.specs.Verdicts.{Verdict, matches}

-- Whether they name the list's register in some bank: without it nothing that is required tells of the list.
abbrev pub bind_list : List BankRange → Bool
bind_list ranges = list_any (λ alg. names ranges alg list_register) all_algs

-- The text selects these registers of banks that it names, and the list's register is among them.
abbrev pub IsRequirementText : List ℕ → List BankRange → Type 0
IsRequirementText text ranges = SpellsRanges text ranges × (are_of_banks ranges ≡ true) × (bind_list ranges ≡ true)

-- A part of the text is the first that is wrong; or it selects registers, but names no bank at first.
abbrev pub IsWrong : List ℕ → ℕ → Type 0
IsWrong text at =
    IsFirstWrong text at ⊎ ((at ≡ 0) × ((ranges : List BankRange) × SpellsRanges text ranges × (are_of_banks ranges ≡ false)))

-- The text selects registers of banks that it names, and not the list's register.
abbrev pub IsWithoutPcr10 : List ℕ → Type 0
IsWithoutPcr10 text =
    (ranges : List BankRange) × SpellsRanges text ranges × (are_of_banks ranges ≡ true) × (bind_list ranges ≡ false)

-- Whether this is the expected value of the register.
abbrev pub is_of : Expected → Alg → ℕ → Bool
is_of expected alg register = same_alg expected.alg alg && (expected.register == register)

-- Whether the register is one of the expected ones.
abbrev pub states : List Expected → Alg → ℕ → Bool
states expected alg register = list_any (λ e. is_of e alg register) expected

-- Whether the register is named, but is not one of the expected ones.
abbrev pub is_missing : List BankRange → List Expected → Alg → ℕ → Bool
is_missing ranges expected alg register = names ranges alg register && not (states expected alg register)

-- Whether no register of this bank is missing.
abbrev pub is_complete_in : List BankRange → List Expected → Alg → Bool
is_complete_in ranges expected alg = list_all (λ register. not (is_missing ranges expected alg register)) all_registers

-- Whether no register of any bank is missing.
abbrev pub is_complete : List BankRange → List Expected → Bool
is_complete ranges expected = list_all (is_complete_in ranges expected) all_algs

-- ---- verdicts and positions

-- The expected registers of these rows.
abbrev pub expected_of_rows : List Row → List Expected
expected_of_rows rows = map (λ row. row.expected) rows

abbrev pub expected_of_located : List Located → List Expected
expected_of_located located = map (λ row. row.expected) located

-- The verdict is 'match', log and list are apart, and no register is missing.
abbrev pub required_matches : List BankRange → Verdict → Bool
required_matches ranges verdict = (matches verdict && are_none verdict.strays) && is_complete ranges (expected_of_rows verdict.rows)

-- Some register is expected, each value was reached at some position, and no register is missing.
abbrev pub required_found : List BankRange → List Located → Bool
required_found ranges located = all_found located && is_complete ranges (expected_of_located located)

-- One of the rows is a match of this register.
pub record HasMatch (rows : List Row) (alg : Alg) (register : ℕ) : Type 0 where
  pub row : Row
  pub contains : Contains rows row
  pub alg_is : row.expected.alg ≡ alg
  pub register_is : row.expected.register ≡ register
  pub state_is : row.state ≡ Match

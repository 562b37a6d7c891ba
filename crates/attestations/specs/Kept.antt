-- The banks that a quote asks for.
use Rattle.std.specs.Prelude.{◌≡◌, ℕ, Bool, true, List}
use Rattle.std.specs.List.{list_any}
use Rattle.pcr_banks.specs.declared.alg.Alg.{Alg}
use Rattle.pcr_banks.specs.declared.banks.Banks.{Banks}
use Rattle.pcr_banks.specs.declared.sets.AlgSet.{AlgSet}
use Rattle.pcr_banks.specs.Names.{algs_where, same_alg, value_at}
use Rattle.tpm_quotes.specs.Spelling.{BankSelection}

-- Whether there is a selection of the algorithm's bank.
abbrev pub is_asked : List BankSelection → Alg → Bool
is_asked selections alg = list_any (λ selection. same_alg selection.alg alg) selections

-- The algorithms of the selections.
abbrev pub algs_of : List BankSelection → AlgSet
algs_of selections = algs_where (is_asked selections)

-- The registers of the banks that are selected from have the same values in both.
abbrev pub HaveSame : List BankSelection → Banks → Banks → Type 0
HaveSame selections first second =
    (alg : Alg) (register : ℕ) → is_asked selections alg ≡ true → value_at first alg register ≡ value_at second alg register

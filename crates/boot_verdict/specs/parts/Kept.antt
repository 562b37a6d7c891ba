-- The banks that expected registers ask for.
use Rattle.std.specs.Prelude.{◌≡◌, ℕ, Bool, true, List}
use Rattle.std.specs.List.{AllByRecursion, list_any}
use Rattle.pcr_banks.specs.declared.alg.Alg.{Alg}
use Rattle.pcr_banks.specs.declared.banks.Banks.{Banks}
use Rattle.pcr_banks.specs.declared.sets.AlgSet.{AlgSet}
use Rattle.pcr_banks.specs.Names.{algs_where, same_alg, value_at}
use Rattle.pcr_values.specs.declared.expected.Expected.{Expected}

-- Whether some register of the algorithm's bank is expected.
abbrev pub is_asked : List Expected → Alg → Bool
is_asked expected alg = list_any (λ e. same_alg e.alg alg) expected

-- The algorithms of the expected registers.
abbrev pub algs_of : List Expected → AlgSet
algs_of expected = algs_where (is_asked expected)

-- The expected registers have the same values in both.
abbrev pub HaveSame : List Expected → Banks → Banks → Type 0
HaveSame expected first second = AllByRecursion (λ e. value_at first e.alg e.register ≡ value_at second e.alg e.register) expected

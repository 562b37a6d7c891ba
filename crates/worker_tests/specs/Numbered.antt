-- What the jobs of the tests' own become.
use Rattle.std.specs.Prelude.{ℕ, ◌+◌, ◌/◌, ◌%◌, List, [], ◌∷◌}
use Rattle.pcr_banks.specs.declared.alg.Alg.{Alg}
use Rattle.pcr_banks.specs.Names.{hash_of}
use Rattle.measure_book.specs.Names.{BookOp, measure}

-- The path of a number: a slash, and its last four decimal digits.
abbrev pub path_of_number : ℕ → List ℕ
path_of_number number =
    47 ∷ (48 + number / 1000 % 10) ∷ (48 + number / 100 % 10) ∷ (48 + number / 10 % 10) ∷ (48 + number % 10) ∷ []

-- The measurement of a file of that path, whose content is its path.
abbrev pub operation_of_number : Alg → ℕ → BookOp
operation_of_number alg number = measure
    (record { alg = alg; digest = hash_of alg (path_of_number number); path = path_of_number number; sig = [] })

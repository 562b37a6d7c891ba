-- What a hasher has taken of selected registers.
use Rattle.std.specs.Prelude.{◌≡◌, ℕ, List, ◌++◌, Option, Some, None}
use Rattle.pcr_banks.specs.declared.alg.Alg.{Alg}
use Rattle.pcr_banks.specs.declared.hasher.Hasher.{Hasher}
use Rattle.pcr_banks.specs.Names.{HasTaken}

-- The hasher has also taken these bytes, if there are any; there are none where the call fails.
pub record TakesMore (hasher : Hasher) (alg : Alg) (taken : List ℕ) (bytes : Option (List ℕ)) : Type 0 where
  pub more : List ℕ
  pub are : bytes ≡ Some more
  pub taken_more : HasTaken hasher alg (taken ++ more)

abbrev pub Takes : Option Unit → Hasher → Alg → List ℕ → Option (List ℕ) → Type 0
Takes (Some x) hasher alg taken bytes = TakesMore hasher alg taken bytes
Takes None hasher alg taken bytes = bytes ≡ None

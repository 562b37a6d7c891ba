-- The first bytes of a file that is looked at again.
use Rattle.std.specs.Prelude.{◌≡◌, ℕ, ◌<◌, List, [], ◌++◌, length, Option, None, Some, IsTrue}
use Rattle.agent_inputs.specs.Loading.{Inputs, OfInput}

-- As many bytes of a file are looked at, unless it has fewer: 4 KiB. There may be more.
abbrev pub head_size : ℕ
head_size = 4096

-- These bytes begin the others, and are all of them if they are fewer than are looked at.
pub record IsHead (head bytes : List ℕ) : Type 0 where
  pub rest : List ℕ
  pub whole : bytes ≡ head ++ rest
  pub enough : length head < head_size → rest ≡ []

-- The first bytes of the file of this name; none if it may fail.
abbrev pub IsLookedAt : Inputs → List ℕ → Option (List ℕ) → Type 0
IsLookedAt inputs name None = IsTrue (inputs.may_fail (Some name))
IsLookedAt inputs name (Some head) = OfInput inputs (Some name) (IsHead head)

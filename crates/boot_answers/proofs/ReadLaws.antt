-- Parts of data that are not there.
use Rattle.std.proofs.Common.{◌≡◌, Option, Some, None, option_map}
use Rattle.std.specs.Prelude.{IfNone}

-- What a reader does not find is not there.
pub none_there : {A B : Type 0} (found : Option A) (to : A → B) (P Q : B → Type 0) → ((value : B) → P value → option_map to found ≡ Some value)
    → ((value : B) → Q value → P value) → IfNone found ((value : B) → Q value → ⊥)
none_there None to P Q only weaker = λ value there. let no = only value (weaker value there) in absurd cc
none_there (Some x) to P Q only weaker = tt

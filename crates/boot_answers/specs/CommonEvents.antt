-- The events that two boots have in common: a longest common subsequence of their digests.
use Rattle.std.specs.Prelude.{◌≡◌, ◌≤◌, ℕ, Bool, true, false, List, [], ◌∷◌, length, map, take, drop, Option}
use Rattle.std.specs.List.{AllByRecursion}
use Rattle.pcr_banks.specs.declared.alg.Alg.{Alg}
use Rattle.pcr_banks.specs.declared.digest.Digest.{Digest}
use Rattle.pcr_banks.specs.Names.{digest_for}
use Rattle.boot_log.specs.Names.{LogEvent}
use Rattle.boot_answers.specs.Differences.{IsKnown}
use Rattle.boot_answers.specs.Extending.{extended_events}

-- The elements whose mark is `true`; after the last mark there are none.
abbrev pub marked : {X : Type 0} → List Bool → List X → List X
marked [] xs = []
marked (mark ∷ marks) [] = []
marked (true ∷ marks) (x ∷ xs) = x ∷ marked marks xs
marked (false ∷ marks) (x ∷ xs) = marked marks xs

-- The other elements.
abbrev pub unmarked : {X : Type 0} → List Bool → List X → List X
unmarked [] xs = xs
unmarked (mark ∷ marks) [] = []
unmarked (true ∷ marks) (x ∷ xs) = unmarked marks xs
unmarked (false ∷ marks) (x ∷ xs) = x ∷ unmarked marks xs

-- The marks are those of a common subsequence: those of both lists mark the same digests.
pub record IsCommon (now before : List (Option Digest)) (marks others : List Bool) : Type 0 where
  pub same : marked marks now ≡ marked others before
  pub known : AllByRecursion IsKnown (marked marks now)

-- No common subsequence is longer.
pub record IsLongestCommon (now before : List (Option Digest)) (marks others : List Bool) : Type 0 where
  pub common : IsCommon now before marks others
  pub longest : (some rest : List Bool) → IsCommon now before some rest → length (marked some now) ≤ length (marked marks now)

-- The digests that are compared, none where an event has none: those of the first 256 events of the register after so many.
abbrev pub compared : Alg → ℕ → ℕ → List LogEvent → List (Option Digest)
compared alg register place events = take 256 (drop place (map (λ event. digest_for event.digests alg) (extended_events register events)))

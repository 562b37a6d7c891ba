-- Where two boots of a machine extended a register by other digests.
use Rattle.std.specs.Prelude.{◌≡◌, ℕ, List, [], ◌∷◌, ◌++◌, length, map, Option, Some, None}
use Rattle.std.specs.List.{AllByRecursion}
use Rattle.pcr_banks.specs.declared.alg.Alg.{Alg}
use Rattle.pcr_banks.specs.Names.{digest_in}
use Rattle.boot_log.specs.Names.{LogEvent}
use Rattle.boot_answers.specs.Extending.{extended_events}

-- The events' digests in the algorithm's bank, none where an event has none.
abbrev pub digests_in : Alg → List LogEvent → List (Option (List ℕ))
digests_in alg events = map (λ event. digest_in event.digests alg) events

-- The digest is there.
abbrev pub IsKnown : {X : Type 0} → Option X → Type 0
IsKnown digest = digest ≡ None → ⊥

-- The two are one digest. Where there is none, in one or in both, nothing is known, and they count as different.
abbrev pub AreOne : {X : Type 0} → Option X → Option X → Type 0
AreOne first other = (first ≡ other) × IsKnown first

-- The lists do not begin with one digest, or one of them alone is empty.
abbrev pub BeginApart : List (Option (List ℕ)) → List (Option (List ℕ)) → Type 0
BeginApart [] [] = ⊥
BeginApart [] (other ∷ others) = Unit {0}
BeginApart (first ∷ more) [] = Unit {0}
BeginApart (first ∷ more) (other ∷ others) = AreOne first other → ⊥

-- The lists have the same digests for this many elements, and then differ.
pub record DifferAt (first other : List (Option (List ℕ))) (place : ℕ) : Type 0 where
  pub same : List (Option (List ℕ))
  pub rest : List (Option (List ℕ))
  pub other_rest : List (Option (List ℕ))
  pub first_is : first ≡ same ++ rest
  pub other_is : other ≡ same ++ other_rest
  pub known : AllByRecursion IsKnown same
  pub place_is : length same ≡ place
  pub apart : BeginApart rest other_rest

-- The first place at which the logs extend the register by other digests of the algorithm, or none where they extend it alike.
abbrev pub IsFirstDifference : Alg → ℕ → List LogEvent → List LogEvent → Option ℕ → Type 0
IsFirstDifference alg register events others (Some place) =
    DifferAt (digests_in alg (extended_events register events)) (digests_in alg (extended_events register others)) place
IsFirstDifference alg register events others None =
    (digests_in alg (extended_events register events) ≡ digests_in alg (extended_events register others))
    × AllByRecursion IsKnown (digests_in alg (extended_events register events))

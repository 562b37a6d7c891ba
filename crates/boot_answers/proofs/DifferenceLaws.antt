-- Where the digests of two logs differ.
use Rattle.std.proofs.Common.{◌≡◌, ℕ, List, [], ◌∷◌, ◌++◌, length, Option, refl, sym, ap, subst, ◌∙◌, arith}
use Rattle.std.specs.List.{AllByRecursion}
use Rattle.pcr_banks.specs.declared.alg.Alg.{Alg}
use Rattle.pcr_banks.specs.Names.{digest_in}
use Rattle.boot_log.specs.Names.{LogEvent}
use Rattle.boot_answers.specs.Differences.{BeginApart, DifferAt, IsKnown, digests_in}
use Rattle.boot_answers.proofs.EventLaws.{added_last}

pub digests_joined : (alg : Alg) (first second : List LogEvent) → digests_in alg (first ++ second) ≡ digests_in alg first ++ digests_in alg second
digests_joined alg [] second = refl
digests_joined alg (event ∷ first) second =
    ap (λ (l : List (Option (List ℕ))). digest_in event.digests alg ∷ l) (digests_joined alg first second)

digests_many : (alg : Alg) (events : List LogEvent) → length (digests_in alg events) ≡ length events
digests_many alg [] = refl
digests_many alg (event ∷ events) = omega (arith, digests_many alg events)

pub differ : (alg : Alg) (given gone rest other_rest all others : List LogEvent) (place : ℕ) → all ≡ given ++ rest → others ≡ gone ++ other_rest
    → digests_in alg given ≡ digests_in alg gone → AllByRecursion IsKnown (digests_in alg given) → place ≡ length given → BeginApart (digests_in alg rest) (digests_in alg other_rest)
    → DifferAt (digests_in alg all) (digests_in alg others) place
differ alg given gone rest other_rest all others place parts other_parts same known is apart = record {
  same = digests_in alg given;
  rest = digests_in alg rest;
  other_rest = digests_in alg other_rest;
  first_is = ap (digests_in alg) parts ∙ digests_joined alg given rest;
  other_is = ap (digests_in alg) other_parts ∙ digests_joined alg gone other_rest
      ∙ ap (λ (l : List (Option (List ℕ))). l ++ digests_in alg other_rest) (sym same);
  known = known;
  place_is = digests_many alg given ∙ sym is;
  apart = apart;
}

pub same_longer : (alg : Alg) (given gone : List LogEvent) (event other : LogEvent) → digests_in alg given ≡ digests_in alg gone
    → digest_in event.digests alg ≡ digest_in other.digests alg → digests_in alg (given ++ event ∷ []) ≡ digests_in alg (gone ++ other ∷ [])
same_longer alg given gone event other same one =
    digests_joined alg given (event ∷ [])
    ∙ ap (λ (l : List (Option (List ℕ))). l ++ digest_in event.digests alg ∷ []) same
    ∙ ap (λ (d : Option (List ℕ)). digests_in alg gone ++ d ∷ []) one
    ∙ sym (digests_joined alg gone (other ∷ []))

pub known_longer : (alg : Alg) (given : List LogEvent) (event : LogEvent) → AllByRecursion IsKnown (digests_in alg given)
    → IsKnown (digest_in event.digests alg) → AllByRecursion IsKnown (digests_in alg (given ++ event ∷ []))
known_longer alg given event all known =
    subst (λ (l : List (Option (List ℕ))). AllByRecursion IsKnown l) (sym (digests_joined alg given (event ∷ [])))
    (added_last IsKnown (digests_in alg given) (digest_in event.digests alg) all known)

-- Registers of banks, one by one, as the text of a selection: `sha256:0,sha256:1,sha1:4`.
use Rattle.std.specs.Prelude.{◌≡◌, ℕ, ◌<◌, List, [], ◌∷◌, ◌++◌, codes, decimal, flat_map, Option, None, Some}
use Rattle.std.specs.List.{AllByRecursion}
use Rattle.std.specs.Str.Iter.{LacksByte}
use Rattle.pcr_banks.specs.Names.{name_of, register_count}
use Rattle.pcr_values.specs.Names.{IsSplitOnce}
use Rattle.measured_data.specs.declared.confirmed.Pcr.{Pcr}

-- One of them: the bank's name, and its number after a colon.
abbrev pub place_text : Pcr → List ℕ
place_text place = name_of place.alg ++ (codes ":" ++ decimal place.register)

-- All of them, in this order, with commas between; no bytes for none.
abbrev pub matching_text : List Pcr → List ℕ
matching_text [] = []
matching_text (first ∷ others) = place_text first ++ flat_map (λ place. codes "," ++ place_text place) others

-- Each of them exists.
abbrev pub AllExist : List Pcr → Type 0
AllExist places = AllByRecursion (λ place. place.register < register_count) places

-- The text spells these registers.
pub record SpellsPlaces (text : List ℕ) (places : List Pcr) : Type 0 where
  pub text_is : text ≡ matching_text places
  pub exist : AllExist places

-- The part is what comes before the first comma of the text, and this is what is left after it; without a comma it is the whole text, and nothing
-- is left.
abbrev pub IsFirstPart : List ℕ → List ℕ → Option (List ℕ) → Type 0
IsFirstPart text part None = LacksByte 44 text × (part ≡ text)
IsFirstPart text part (Some rest) = IsSplitOnce 44 text part rest

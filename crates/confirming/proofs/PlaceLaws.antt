-- Registers of banks as a text: what a text spells, and how it is read part after part.
use Rattle.std.proofs.Common.{rules, ◌≡◌, ℕ, ◌+◌, ◌-◌, ◌<◌, ◌≤◌, ◌^◌, Bool, true, false, List, [], ◌∷◌, ◌++◌, length, take, take_all, drop, flat_map, get_or, Option, Some, None, option_map, Bor, decimal, refl, sym, ap, ◌∙◌, subst, inl, inr, arith, append_assoc, append-nil, length-append, ◌==◌}
use Rattle.std.specs.List.{AllByRecursion}
use Rattle.std.specs.Str.Iter.{LacksByte}
use Rattle.std.specs.Str.Parse.{AllDigits}
use Rattle.std.proofs.lemmas.Bool.{both_ways}
use Rattle.std.proofs.lemmas.Fmt.{decimal_is_IsNumeral, decimal_injective}
use Rattle.std.proofs.lemmas.Grind.{flat_map-append}
use Rattle.std.proofs.lemmas.List.{take_more}
use Rattle.std.proofs.lemmas.Str.Parse.{digit_from_value}
use Rattle.pcr_banks.specs.declared.alg.Alg.{Alg}
use Rattle.pcr_banks.specs.Names.{name_of, register_count}
use Rattle.pcr_banks.proofs.AlgLaws.{every_alg, same_name_is}
use Rattle.pcr_values.specs.Names.{IsSplitOnce}
use Rattle.pcr_values.proofs.ExpectedLaws.{Lacks, lacks_from, not_lacked, one_cut}
use Rattle.pcr_values.proofs.SelectionLaws.{name_lacks}
use Rattle.measured_data.specs.declared.confirmed.Pcr.{Pcr}
use Rattle.confirming.specs.Places.{AllExist, IsFirstPart, SpellsPlaces, matching_text, place_text}

-- ---- no comma in a part

-- No byte is a comma.
abbrev NoComma : List ℕ → Type 0
NoComma bytes = AllByRecursion (λ byte. (byte == 44) ≡ false) bytes

lacks_comma : (bytes : List ℕ) → NoComma bytes → Lacks 44 bytes
lacks_comma [] all = tt
lacks_comma (first ∷ bytes) all = (λ e. both_ways (first == 44) all.0 (rw e refl), lacks_comma bytes all.1)

name_no_comma : (alg : Alg) → NoComma (name_of alg)
name_no_comma = every_alg _ (search rules)

digits_lack_comma : (digits : List ℕ) → AllDigits 10 digits → Lacks 44 digits
digits_lack_comma [] all = tt
digits_lack_comma (first ∷ digits) all =
    let within = digit_from_value first all.0 in
    (λ e. absurd (omega (arith, within, e)), digits_lack_comma digits all.1)

both_lack : (byte : ℕ) (first second : List ℕ) → Lacks byte first → Lacks byte second → Lacks byte (first ++ second)
both_lack byte [] second p q = q
both_lack byte (x ∷ first) second p q = (p.0, both_lack byte first second p.1 q)

small : (n : ℕ) → n < register_count → n < 2 ^ 64
small n lt = omega (arith, lt)

place_lacks : (place : Pcr) → place.register < register_count → Lacks 44 (place_text place)
place_lacks place lt =
    let digits = digits_lack_comma (decimal place.register) ((decimal_is_IsNumeral place.register (small place.register lt)).0.1) in
    both_lack 44 (name_of place.alg) (58 ∷ decimal place.register) (lacks_comma (name_of place.alg) (name_no_comma place.alg))
    (λ e. absurd (omega (arith, e)), digits)

-- A part spells one register.
same_place : (first second : Pcr) → first.alg ≡ second.alg → first.register ≡ second.register → first ≡ second
same_place first second algs registers = λ i. record { alg = algs i; register = registers i }

place_once : (first second : Pcr) → first.register < register_count → second.register < register_count
    → place_text first ≡ place_text second → first ≡ second
place_once first second p q is =
    let cut = one_cut 58 (name_of first.alg) (name_of second.alg) (decimal first.register) (decimal second.register) (name_lacks first.alg)
    (name_lacks second.alg) is in
    same_place first second (same_name_is first.alg second.alg cut.0)
    (decimal_injective first.register second.register (small first.register p) (small second.register q) cut.1)

-- ---- whole texts

no_text : (place : Pcr) (places : List Pcr) → matching_text (place ∷ places) ≡ [] → ⊥
no_text place places is =
    let more = flat_map (λ (p : Pcr). 44 ∷ place_text p) places in
    let size : length (place_text place ++ more) ≡ 0 = ap length is in
    let here = length-append (place_text place) more in
    let parts = length-append (name_of place.alg) (58 ∷ decimal place.register) in
    omega (arith, size, here, parts)

-- One register and a comma are no register alone.
not_alone : (byte : ℕ) (alone first more : List ℕ) → Lacks byte alone → alone ++ [] ≡ first ++ byte ∷ more → ⊥
not_alone byte alone first more lacks is =
    let whole : Lacks byte (first ++ byte ∷ more) = subst (λ (l : List ℕ). Lacks byte l) (sym (append-nil alone) ∙ is) lacks in
    not_lacked byte first more whole

spelled_once : (first second : List Pcr) → AllExist first → AllExist second → matching_text first ≡ matching_text second → first ≡ second
spelled_once [] [] p q is = refl
spelled_once [] (b ∷ second) p q is = absurd (no_text b second (sym is))
spelled_once (a ∷ first) [] p q is = absurd (no_text a first is)
spelled_once (a ∷ []) (b ∷ []) p q is =
    let same = place_once a b p.0 q.0 (sym (append-nil (place_text a)) ∙ is ∙ append-nil (place_text b)) in
    ap (λ (place : Pcr). place ∷ []) same
spelled_once (a ∷ []) (b ∷ c ∷ second) p q is =
    absurd (not_alone 44 (place_text a) (place_text b) (matching_text (c ∷ second)) (place_lacks a p.0) is)
spelled_once (a ∷ c ∷ first) (b ∷ []) p q is =
    absurd (not_alone 44 (place_text b) (place_text a) (matching_text (c ∷ first)) (place_lacks b q.0) (sym is))
spelled_once (a ∷ c ∷ first) (b ∷ d ∷ second) p q is =
    let cut = one_cut 44 (place_text a) (place_text b) (matching_text (c ∷ first)) (matching_text (d ∷ second)) (place_lacks a p.0)
    (place_lacks b q.0) is in
    let here = place_once a b p.0 q.0 cut.0 in
    let others = spelled_once (c ∷ first) (d ∷ second) p.1 q.1 cut.1 in
    λ i. here i ∷ others i

-- A text spells its registers, and no others.
pub written_spells : (places : List Pcr) → AllExist places → SpellsPlaces (matching_text places) places
written_spells places exist = record { text_is = refl; exist = exist }

pub spells_once : (text : List ℕ) (first second : List Pcr) → SpellsPlaces text first → SpellsPlaces text second → first ≡ second
spells_once text first second is another = spelled_once first second is.exist another.exist (sym is.text_is ∙ another.text_is)

-- ---- written one after another

-- The text of the later registers, each after a comma.
abbrev pub later_text : List Pcr → List ℕ
later_text places = flat_map (λ place. 44 ∷ place_text place) places

pub one_more : (places : List Pcr) (i : ℕ) (d : Pcr) → i < length places
    → later_text (take (i + 1) places) ≡ later_text (take i places) ++ 44 ∷ place_text (get_or places i d)
one_more places i d lt =
    ap later_text (take_more places i d lt)
    ∙ flat_map-append (λ (place : Pcr). 44 ∷ place_text place) (take i places) (get_or places i d ∷ [])
    ∙ ap (λ (t : List ℕ). later_text (take i places) ++ t) (append-nil (44 ∷ place_text (get_or places i d)))

-- A register is written as its bank's name, a colon and its number.
pub place_written : (old named parted new name number : List ℕ) (place : Pcr) → named ≡ old ++ name → parted ≡ named ++ 58 ∷ []
    → new ≡ parted ++ number → name ≡ name_of place.alg → number ≡ decimal place.register → new ≡ old ++ place_text place
place_written old named parted new name number place names parts ends name_is number_is =
    rw (ends, parts, names, name_is, number_is)
    (append_assoc (old ++ name_of place.alg) (58 ∷ []) (decimal place.register)
    ∙ append_assoc old (name_of place.alg) (58 ∷ decimal place.register))

-- One more register is written, after a comma.
pub place_more : (first : List ℕ) (places : List Pcr) (i : ℕ) (place : Pcr) (old comma new : List ℕ) → i < length places
    → old ≡ first ++ later_text (take i places) → comma ≡ old ++ 44 ∷ [] → new ≡ comma ++ place_text (get_or places i place)
    → new ≡ first ++ later_text (take (i + 1) places)
place_more first places i place old comma new lt so_far parts ends =
    let text = place_text (get_or places i place) in
    ends ∙ ap (λ (l : List ℕ). l ++ text) (parts ∙ ap (λ (l : List ℕ). l ++ 44 ∷ []) so_far)
    ∙ append_assoc (first ++ later_text (take i places)) (44 ∷ []) text
    ∙ append_assoc first (later_text (take i places)) (44 ∷ text)
    ∙ ap (λ (l : List ℕ). first ++ l) (sym (one_more places i place lt))

-- All registers after the first.
abbrev pub others_of : List Pcr → List Pcr
others_of places = take (length places - 1) (drop 1 places)

text_parts : (places : List Pcr) (first : Pcr) → 0 < length places
    → matching_text places ≡ place_text (get_or places 0 first) ++ later_text (others_of places)
text_parts [] first some = absurd (omega (arith, some))
text_parts (place ∷ places) first some =
    ap (λ (l : List Pcr). place_text place ++ later_text l) (sym (take_all (length (place ∷ places) - 1) places (omega arith)))

-- They are all written.
pub places_written : (places : List Pcr) (first : Pcr) (i : ℕ) (none begun text : List ℕ) → 0 < length places → none ≡ []
    → begun ≡ none ++ place_text (get_or places 0 first) → text ≡ begun ++ later_text (take i (others_of places))
    → length (others_of places) ≤ i → text ≡ matching_text places
places_written places first i none begun text some empty starts so_far all =
    so_far
    ∙ ap (λ (l : List Pcr). begun ++ later_text l) (take_all i (others_of places) all)
    ∙ ap (λ (l : List ℕ). l ++ later_text (others_of places)) (starts ∙ ap (λ (l : List ℕ). l ++ place_text (get_or places 0 first)) empty)
    ∙ sym (text_parts places first some)

-- ---- read part after part

pub not_empty : (is_empty : Bool) (text : List ℕ) → is_empty ≡ (length text == 0) → is_empty ≡ false → 0 < length text
not_empty is_empty [] tells none = absurd cc
not_empty is_empty (byte ∷ text) tells none = omega arith

-- What is left of a text spells these registers: none if nothing is left, else one at least.
abbrev pub LeftSpells : Option (Bor (List ℕ)) → List Pcr → Type 0
LeftSpells None places = places ≡ []
LeftSpells (Some left) [] = ⊥
LeftSpells (Some left) (first ∷ others) = SpellsPlaces left.now (first ∷ others)

-- How much of a text is left: its bytes and one, or nothing after the last part.
abbrev pub left_count : Option (Bor (List ℕ)) → ℕ
left_count None = 0
left_count (Some text) = length text.now + 1

-- The parts before what is left spell these registers.
pub record ReadsPlaces (text : List ℕ) (places : List Pcr) (rest : Option (Bor (List ℕ))) : Type 0 where
  pub spell : (others : List Pcr) → LeftSpells rest others → SpellsPlaces text (places ++ others)
  pub only : (all : List Pcr) → SpellsPlaces text all → (others : List Pcr) × (all ≡ places ++ others) × LeftSpells rest others

-- Nothing is read yet.
pub reads_nothing : (text : Bor (List ℕ)) → 0 < length text.now → ReadsPlaces text.now [] (Some text)
reads_nothing text some = record { spell = whole; only = λ all is. (all, refl, left all is) } where
  whole : (others : List Pcr) → LeftSpells (Some text) others → SpellsPlaces text.now others
  whole [] is = absurd is
  whole (first ∷ others) is = is

  left : (all : List Pcr) → SpellsPlaces text.now all → LeftSpells (Some text) all
  left [] is = let none : length text.now ≡ 0 = ap length is.text_is in absurd (omega (arith, some, none))
  left (first ∷ others) is = is

module _ (left part : List ℕ) where
  -- The part spells a register, and what is left after it the others.
  spelled_more : (after : Option (Bor (List ℕ))) (place : Pcr) (others : List Pcr) → IsFirstPart left part (option_map (λ r. r.now) after)
      → place.register < register_count → part ≡ place_text place → LeftSpells after others → SpellsPlaces left (place ∷ others)
  spelled_more None place others is lt spells none = rw none (record {
    text_is = sym is.1 ∙ spells ∙ sym (append-nil (place_text place));
    exist = (lt, tt);
  })
  spelled_more (Some rest) place [] is lt spells none = absurd none
  spelled_more (Some rest) place (next ∷ others) is lt spells more = record {
    text_is = is.parts ∙ ap (λ (l : List ℕ). l ++ 44 ∷ rest.now) spells ∙ ap (λ (l : List ℕ). place_text place ++ 44 ∷ l) more.text_is;
    exist = (lt, more.exist);
  }

  -- A text that spells registers has the first in its part, and the others after it.
  pub first_spelled : (after : Option (Bor (List ℕ))) (first : Pcr) (others : List Pcr) → IsFirstPart left part (option_map (λ r. r.now) after)
      → SpellsPlaces left (first ∷ others) → (part ≡ place_text first) × (first.register < register_count) × LeftSpells after others
  first_spelled None first [] is spells = (is.1 ∙ spells.text_is ∙ append-nil (place_text first), spells.exist.0, refl)
  first_spelled None first (next ∷ others) is spells =
      let whole : Lacks 44 (place_text first ++ 44 ∷ matching_text (next ∷ others)) =
      subst (λ (l : List ℕ). Lacks 44 l) spells.text_is (lacks_from 44 left is.0) in
      absurd (not_lacked 44 (place_text first) (matching_text (next ∷ others)) whole)
  first_spelled (Some rest) first [] is spells =
      absurd (not_alone 44 (place_text first) part rest.now (place_lacks first spells.exist.0) (sym spells.text_is ∙ is.parts))
  first_spelled (Some rest) first (next ∷ others) is spells =
      let cut = one_cut 44 part (place_text first) rest.now (matching_text (next ∷ others)) (lacks_from 44 part is.lacks)
      (place_lacks first spells.exist.0) (sym is.parts ∙ spells.text_is) in
      (cut.0, spells.exist.0, record { text_is = cut.1; exist = spells.exist.1 })

module _ (text part : List ℕ) (places : List Pcr) (left : Bor (List ℕ)) (after : Option (Bor (List ℕ))) (reads : ReadsPlaces text places (Some left))
    (is : IsFirstPart left.now part (option_map (λ r. r.now) after)) where
  -- One more register is read.
  pub reads_more : (place : Pcr) → place.register < register_count → part ≡ place_text place → ReadsPlaces text (places ++ place ∷ []) after
  reads_more place lt spells = record {
    spell = λ others more.
        subst (SpellsPlaces text) (sym (append_assoc places (place ∷ []) others))
        (reads.spell (place ∷ others) (spelled_more left.now part after place others is lt spells more));
    only = λ all whole. others_of all (reads.only all whole);
  } where
    others_of : (all : List Pcr) → (others : List Pcr) × (all ≡ places ++ others) × LeftSpells (Some left) others
        → (others : List Pcr) × (all ≡ (places ++ place ∷ []) ++ others) × LeftSpells after others
    others_of all ([], same, none) = absurd none
    others_of all (first ∷ others, same, more) =
        let (here, exists, later) = first_spelled left.now part after first others is more in
        let one = place_once first place exists lt (sym here ∙ spells) in (
          others,
          same ∙ ap (λ (p : Pcr). places ++ p ∷ others) one ∙ sym (append_assoc places (place ∷ []) others),
          later,
        )

  -- A part that spells no register is in no text that spells registers.
  pub reads_none : ((place : Pcr) → place.register < register_count → part ≡ place_text place → ⊥) → (all : List Pcr) → SpellsPlaces text all → ⊥
  reads_none none all whole = wrong (reads.only all whole) where
    wrong : (others : List Pcr) × (all ≡ places ++ others) × LeftSpells (Some left) others → ⊥
    wrong ([], same, absent) = absent
    wrong (first ∷ others, same, more) =
        let (here, exists, later) = first_spelled left.now part after first others is more in none first exists here

-- All is read.
pub reads_all : (text : List ℕ) (places : List Pcr) → ReadsPlaces text places None → SpellsPlaces text places
reads_all text places reads = subst (SpellsPlaces text) (append-nil places) (reads.spell [] refl)

-- ---- a part

module _ (text name number : List ℕ) (cut : IsSplitOnce 58 text name number) where
  -- A part has the name of the bank before its first colon, and the number after it.
  sides : (place : Pcr) → text ≡ place_text place → (name ≡ name_of place.alg) × (number ≡ decimal place.register)
  sides place spells =
      one_cut 58 name (name_of place.alg) number (decimal place.register) (lacks_from 58 name cut.lacks) (name_lacks place.alg)
      (sym cut.parts ∙ spells)

  pub no_alg : ((alg : Alg) → name_of alg ≡ name → ⊥) → (place : Pcr) → place.register < register_count → text ≡ place_text place → ⊥
  no_alg unknown place lt spells = unknown place.alg (sym (sides place spells).0)

  pub no_register : ((register : ℕ) → register < register_count → number ≡ decimal register → ⊥) → (place : Pcr)
      → place.register < register_count → text ≡ place_text place → ⊥
  no_register none place lt spells = none place.register lt (sides place spells).1

pub no_colon : (text : List ℕ) → LacksByte 58 text → (place : Pcr) → place.register < register_count → text ≡ place_text place → ⊥
no_colon text lacks place lt spells =
    let whole : Lacks 58 (name_of place.alg ++ 58 ∷ decimal place.register) =
    subst (λ (l : List ℕ). Lacks 58 l) spells (lacks_from 58 text lacks) in
    not_lacked 58 (name_of place.alg) (decimal place.register) whole

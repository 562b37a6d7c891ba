-- The texts of known files, one after another; and the entries that a watch has looked at.
use Rattle.std.proofs.Common.{◌≡◌, ℕ, zero, suc, ◌+◌, ◌<◌, ◌≤◌, ◌==◌, false, List, [], ◌∷◌, ◌++◌, length, map, take, drop, get_or, Option, None, Some, refl, sym, ap, subst, ◌∙◌, arith, take_all}
use Rattle.std.specs.Prelude.{IsSomeAnd}
use Rattle.std.proofs.lemmas.Bool.{false≢true}
use Rattle.std.proofs.Math.Seq.{take-suc}
use Rattle.std.proofs.lemmas.List.{get_or-map, length-map, length-take-le}
use Rattle.pcr_values.specs.declared.expected.Expected.{Expected}
use Rattle.ima_list.specs.Names.{ListEntry}
use Rattle.boot_verdict.specs.Names.{AreTracked, IsListVerdict, ListVerdict}
use Rattle.known_files.specs.declared.known.KnownFiles.{KnownFiles}
use Rattle.known_files.specs.declared.unknown.UnknownFiles.{UnknownFiles}
use Rattle.known_files.specs.declared.unknown.UnknownEntries.{UnknownEntries}
use Rattle.known_files.specs.Unknown.{AreUnknown, IsFresh, IsLookedAfter}
use Rattle.known_files.specs.declared.listed.ListedFiles.{ListedFiles}
use Rattle.known_files.specs.Known.{HoldsAll, Knows}
use Rattle.known_files.specs.Listing.{IsGoodText}
use Rattle.agent_inputs.specs.Loading.{Inputs}
use Rattle.agent_inputs.specs.declared.fault.RunFault.{RunFault}
use Rattle.judging.specs.declared.inputs.Input.{Input}
use Rattle.judging.specs.Answering.{AreKnownFiles, AreKnownTexts, HasWatched, IsFirstNotKnown, IsTextRefused, ListsAlso, TellsUnknown}
use Rattle.judging.specs.Requests.{location_of}
use Rattle.judging.specs.Inputs.{Holds, Where}

-- One more text.
pub known_more : (inputs : Inputs) (places : List Where) (place : Where) (texts : List (List ℕ)) (text : List ℕ) → AreKnownTexts inputs places texts
    → Holds inputs place text → IsGoodText text → AreKnownTexts inputs (places ++ place ∷ []) (texts ++ text ∷ [])
known_more inputs [] place [] text are holds good = (holds, good, tt)
known_more inputs [] place (other ∷ texts) text are holds good = absurd are
known_more inputs (first ∷ places) place [] text are holds good = absurd are
known_more inputs (first ∷ places) place (other ∷ texts) text are holds good =
    (are.0, are.1, known_more inputs places place texts text are.2 holds good)

-- Some inputs have these texts.
pub files_known : (inputs : Inputs) (places : List Where) (files : KnownFiles) (texts : List (List ℕ)) → 0 < length places
    → AreKnownTexts inputs places texts → Knows texts files → AreKnownFiles inputs places (Some files)
files_known inputs [] files texts some are knows = absurd (omega (arith, some))
files_known inputs (place ∷ places) files texts some are knows = (texts, are, knows)

-- What the texts of the first inputs list is listed.
pub record HasListed (inputs : Inputs) (places : List Where) (count : ℕ) (listed : ListedFiles) : Type 0 where
  pub texts : List (List ℕ)
  pub are : AreKnownTexts inputs (take count places) texts
  pub holds : HoldsAll texts listed

pub listed_none : (inputs : Inputs) (places : List Where) (listed : ListedFiles) → HoldsAll [] listed → HasListed inputs places 0 listed
listed_none inputs places listed holds = record { texts = []; are = tt; holds = holds }

split_at : {A : Type 0} (items : List A) (count : ℕ) (none : A) → count < length items
    → items ≡ take count items ++ get_or items count none ∷ drop (suc count) items
split_at [] count none within = absurd (omega (arith, within))
split_at (x ∷ items) zero none within = refl
split_at {A} (x ∷ items) (suc count) none within = ap (λ (rest : List A). x ∷ rest) (split_at items count none (omega (arith, within)))

module _ (inputs : Inputs) (known : List Input) (count : ℕ) (none : Input) (within : count < length known) where
  abbrev place : Where
  place = location_of (get_or known count none)

  within_places : count < length (map location_of known)
  within_places = omega (arith, within, length-map known location_of)

  same_place : get_or (map location_of known) count place ≡ place
  same_place = get_or-map location_of known count none place within

  next : count + 1 ≡ suc count
  next = omega arith

  -- One more text.
  pub listed_more : (old new : ListedFiles) → HasListed inputs (map location_of known) count old → ListsAlso inputs place old new
      → HasListed inputs (map location_of known) (count + 1) new
  listed_more old new has also = record {
    texts = has.texts ++ also.text ∷ [];
    are = subst (λ (places : List Where). AreKnownTexts inputs places (has.texts ++ also.text ∷ []))
        (sym (ap (λ (n : ℕ). take n (map location_of known)) next ∙ take-suc (map location_of known) count place within_places ∙ ap (λ (p : Where). take count (map location_of known) ++ p ∷ []) same_place))
        (known_more inputs (take count (map location_of known)) place has.texts also.text has.are also.holds also.good);
    holds = also.lists has.texts has.holds;
  }

  -- This text is the first that is refused.
  pub not_listed : (old : ListedFiles) (fault : RunFault) → HasListed inputs (map location_of known) count old
      → IsTextRefused inputs place (count + 1) fault → IsFirstNotKnown inputs (map location_of known) fault
  not_listed old fault has refused = record {
    before = take count (map location_of known);
    place = place;
    after = drop (suc count) (map location_of known);
    texts = has.texts;
    parts = split_at (map location_of known) count place within_places
        ∙ ap (λ (p : Where). take count (map location_of known) ++ p ∷ drop (suc count) (map location_of known)) same_place;
    good = has.are;
    why = subst (λ (n : ℕ). IsTextRefused inputs place (n + 1) fault) (sym (length-take-le count (map location_of known) (omega (arith, within_places)))) refused;
  }

pub all_listed : (inputs : Inputs) (places : List Where) (count : ℕ) (listed : ListedFiles) (files : KnownFiles) → 0 < length places
    → length places ≤ count → HasListed inputs places count listed
    → ((texts : List (List ℕ)) → HoldsAll texts listed → Knows texts files) → AreKnownFiles inputs places (Some files)
all_listed inputs places count listed files some all has knows =
    files_known inputs places files has.texts some (subst (λ (first : List Where). AreKnownTexts inputs first has.texts) (take_all count places all) has.are)
    (knows has.texts has.holds)

pub some_input : (known : List Input) → false ≡ (length known == 0) → 0 < length (map location_of known)
some_input [] none = absurd (false≢true none)
some_input (input ∷ known) none = omega arith

-- ---- what a watch tells

-- What is told within the first entries, of which there are so many, is told of entries that the watch has looked at.
pub told_within : (known : Option KnownFiles) (first count : ℕ) (start watch : UnknownEntries) (unknown : Option UnknownFiles) → IsFresh known first start
    → ((files : KnownFiles) (first : ℕ) (start : UnknownEntries) (entries : List ListEntry) → IsFresh (Some files) first start
    → AreTracked IsLookedAfter start entries watch → IsSomeAnd unknown (λ unknown. (unknown.first ≡ first)
    × ((texts : List (List ℕ)) → Knows texts files → AreUnknown texts first (take count entries) unknown.numbers.items)))
    → ((first : ℕ) (start : UnknownEntries) (entries : List ListEntry) → IsFresh None first start
    → AreTracked IsLookedAfter start entries watch → unknown ≡ None)
    → (entries : List ListEntry) → count ≡ length entries → HasWatched start watch entries → TellsUnknown known first unknown entries
told_within None first count start watch unknown fresh some none entries counted has = none first start has.0 fresh has.2
told_within (Some files) first count start watch None fresh some none entries counted has = some files first start has.0 fresh has.2
told_within (Some files) first count start watch (Some told) fresh some none entries counted has =
    let tells = some files first start has.0 fresh has.2 in
    let same : take count has.0 ≡ entries = ap (λ (n : ℕ). take n has.0) counted ∙ has.1 in
    record {
      first_is = tells.0;
      numbers_are = λ texts knows.
          subst (λ (looked : List ListEntry). AreUnknown texts first looked told.numbers.items) same (tells.1 texts knows);
    }

-- A verdict on a list alone counts the list's entries.
pub counted_list : (list : List ℕ) (expected : List Expected) (verdict : ListVerdict) (is : IsListVerdict list expected verdict)
    → verdict.entries ≡ length is.entries
counted_list list expected verdict is = ap (λ (v : ListVerdict). v.entries) is.verdict_is

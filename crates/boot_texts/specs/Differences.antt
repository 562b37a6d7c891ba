-- How far a boot and an earlier one extended each register alike, and which later events differ, as lines. The members and words are this
-- project's choice.
use Rattle.std.specs.Prelude.{◌≡◌, ℕ, ◌+◌, ◌||◌, Bool, true, false, if◌then◌else◌, List, [], ◌∷◌, ◌++◌, codes, drop, flat_map, length, Option, None, Some}
use Rattle.std.specs.List.{AllByRecursion}
use Rattle.pcr_banks.specs.declared.alg.Alg.{Alg}
use Rattle.pcr_banks.specs.Names.{all_algs, digest_in, name_of}
use Rattle.boot_log.specs.Names.{LogEvent, is_extended_into}
use Rattle.measured_data.specs.declared.confirmed.Pcr.{Pcr}
use Rattle.measured_data.specs.Confirming.{has_answer, is_answering}
use Rattle.boot_answers.specs.declared.alike_events.Common.{Common}
use Rattle.boot_answers.specs.CommonEvents.{IsLongestCommon, compared, unmarked}
use Rattle.boot_answers.specs.Differences.{IsFirstDifference}
use Rattle.cells.specs.declared.writer.Form.{Form}
use Rattle.cells.specs.Cells.{Cell, hex, if_some, in_order, number, rendered, text, word}
use Rattle.cells.specs.Values.{Member}
use Rattle.event_lines.specs.ContentJson.{event_content_json}
use Rattle.event_lines.specs.RegisterNames.{register_cell}
use Rattle.event_lines.specs.SteeringTexts.{value_cell}
use Rattle.cells.specs.ItemLines.{numbered_lines}
use Rattle.boot_texts.specs.Answering.{has_events}
use Rattle.boot_texts.specs.declared.difference_lines.ComparedBoot.{ComparedBoot}
use Rattle.boot_texts.specs.declared.difference_lines.ComparedBoot.TheVariants as boots
use Rattle.boot_texts.specs.declared.difference_lines.EventLine.{EventLine}
use Rattle.boot_texts.specs.declared.differences.Difference.{Difference}
use Rattle.boot_texts.specs.declared.differences.Difference.TheVariants.{Unanswered, Alike, Apart}

-- ---- how two boots extended a register

-- The bank answers for the register, and the boots differ in it after this many events.
pub record IsApartIn (matched : List Pcr) (register : ℕ) (events others : List LogEvent) (alg : Alg) (place : ℕ) : Type 0 where
  pub answers : is_answering matched alg register ≡ true
  pub apart : IsFirstDifference alg register events others (Some place)

-- The boots extended the register alike in the bank, if it answers.
abbrev pub IsAlikeIn : List Pcr → ℕ → List LogEvent → List LogEvent → Alg → Type 0
IsAlikeIn matched register events others alg = is_answering matched alg register ≡ true → IsFirstDifference alg register events others None

-- In the bank they differ after this many events, or are alike, if it answers.
abbrev pub IsComparedIn : List Pcr → ℕ → List LogEvent → List LogEvent → Alg → Option ℕ → Type 0
IsComparedIn matched register events others alg None = IsAlikeIn matched register events others alg
IsComparedIn matched register events others alg (Some place) = IsApartIn matched register events others alg place

-- Of the banks that answer it is the first in which the boots differ.
pub record IsFirstApart (matched : List Pcr) (register : ℕ) (events others : List LogEvent) (alg : Alg) (place : ℕ) : Type 0 where
  pub before : List Alg
  pub after : List Alg
  pub parts : all_algs ≡ before ++ alg ∷ after
  pub alike : AllByRecursion (IsAlikeIn matched register events others) before
  pub apart : IsApartIn matched register events others alg place

-- Of the events that are compared, from this place on, the marks are those of a longest common subsequence.
abbrev pub AreCommon : ℕ → List LogEvent → List LogEvent → Alg → ℕ → Common → Type 0
AreCommon register events others alg place common =
    IsLongestCommon (compared alg register place events) (compared alg register place others) common.now.items common.before.items

-- How the boots with these events, and the earlier one with the others, extended the register.
abbrev pub IsDifference : List Pcr → ℕ → List LogEvent → List LogEvent → Difference → Type 0
IsDifference matched register events others Unanswered = has_answer matched register ≡ false
IsDifference matched register events others Alike = (has_answer matched register ≡ true) × ((alg : Alg) → IsAlikeIn matched register events others alg)
IsDifference matched register events others (Apart alg place common) =
    IsFirstApart matched register events others alg place × AreCommon register events others alg place common

-- ---- a line on a register

-- `unknown` or `all`: how far the register was extended alike, in one word.
abbrev pub alike_cell : ℕ → List ℕ → Cell Member
alike_cell register said = in_order (
    register_cell (codes "register ") register ∷ word (codes " alike ") (codes "alike") said ∷ text (codes "\n") ∷ [])

-- After how many events the boots differ, in this bank.
abbrev pub apart_cell : ℕ → Alg → ℕ → Cell Member
apart_cell register alg place = in_order (
    register_cell (codes "register ") register
    ∷ word (codes " ") (codes "bank") (name_of alg)
    ∷ number (codes " alike ") (codes "alike") place
    ∷ text (codes "\n")
    ∷ [])

-- ---- a line on an event

-- This boot, or the earlier one.
abbrev pub boot_word : ComparedBoot → List ℕ
boot_word boots.Now = codes "now"
boot_word boots.Before = codes "before"

-- The register, and the event's number in the log of its boot.
abbrev pub place_cell : ℕ → List ℕ → ℕ → Cell Member
place_cell register boot n = in_order (
    register_cell (codes "register ") register ∷ text (codes " ") ∷ text boot ∷ number (codes " ") boot n ∷ [])

-- The register, the event's number in the log of its boot, its digest in the bank where it has one, and what its data claims.
abbrev pub event_cell : ComparedBoot → ℕ → Alg → ℕ → LogEvent → Cell Member
event_cell boot register alg n event = in_order (
    place_cell register (boot_word boot) n
    ∷ if_some (digest_in event.digests alg) (hex (codes " ") (codes "digest"))
    ∷ value_cell (codes " claimed ") (codes "claimed") (event_content_json event)
    ∷ [])

abbrev pub event_line : ComparedBoot → EventLine → ℕ → LogEvent → List ℕ
event_line boot line n event = rendered line.form (event_cell boot line.register line.alg n event)

-- ---- the lines on a register

-- The events that are extended into the register, each with its number in the log, of which the first has this number.
abbrev pub numbered_events : ℕ → ℕ → List LogEvent → List (ℕ × LogEvent)
numbered_events register number [] = []
numbered_events register number (event ∷ events) =
    if is_extended_into register event then (number, event) ∷ numbered_events register (number + 1) events else numbered_events register (number + 1) events

-- The lines of the register's events from this place on that have no mark.
abbrev pub lines_from : ComparedBoot → EventLine → ℕ → List Bool → List LogEvent → List ℕ
lines_from boot line place marks events =
    flat_map (λ numbered. event_line boot line numbered.0 numbered.1) (unmarked marks (drop place (numbered_events line.register 1 events)))

-- Whether one of the boots extended the register.
abbrev pub either_extended : ℕ → List LogEvent → List LogEvent → Bool
either_extended register events others = has_events register events || has_events register others

-- The line, if one of them did.
abbrev pub where_extended : ℕ → List LogEvent → List LogEvent → List ℕ → List ℕ
where_extended register events others line = if either_extended register events others then line else []

-- The line that the boots differ in the bank after so many events, and those of the later events without a mark, of this boot and of the
-- earlier one.
abbrev pub lines_of_both : EventLine → ℕ → List Bool → List Bool → List LogEvent → List LogEvent → List ℕ
lines_of_both line place marks other_marks events others =
    rendered line.form (apart_cell line.register line.alg place)
    ++ (lines_from boots.Now line place marks events ++ lines_from boots.Before line place other_marks others)

-- The lines on a register.
abbrev pub register_lines : Form → ℕ → Difference → List LogEvent → List LogEvent → List ℕ
register_lines form register Unanswered events others = where_extended register events others (rendered form (alike_cell register (codes "unknown")))
register_lines form register Alike events others = where_extended register events others (rendered form (alike_cell register (codes "all")))
register_lines form register (Apart alg place common) events others =
    lines_of_both (record { form = form; register = register; alg = alg }) place common.now.items common.before.items events others

-- ---- all registers

-- These are the differences of as many registers, from this one on.
abbrev pub AreOfRegisters : List Pcr → List LogEvent → List LogEvent → ℕ → List Difference → Type 0
AreOfRegisters matched events others register [] = Unit {0}
AreOfRegisters matched events others register (difference ∷ differences) =
    IsDifference matched register events others difference × AreOfRegisters matched events others (register + 1) differences

-- These are the differences of the registers 0 to 23, in order.
pub record AreDifferences (matched : List Pcr) (events others : List LogEvent) (differences : List Difference) : Type 0 where
  pub count : length differences ≡ 24
  pub each : AreOfRegisters matched events others 0 differences

abbrev pub difference_lines : Form → List LogEvent → List LogEvent → List Difference → List ℕ
difference_lines form events others differences = numbered_lines (λ register difference. register_lines form register difference events others) 0 differences

-- The text is the lines of the differences of all registers.
abbrev pub AreDifferenceLines : Form → List Pcr → List LogEvent → List LogEvent → List ℕ → Type 0
AreDifferenceLines form matched events others text =
    (differences : List Difference) × AreDifferences matched events others differences × (text ≡ difference_lines form events others differences)

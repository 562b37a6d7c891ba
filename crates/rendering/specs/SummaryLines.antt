-- A verdict in one line: its word, the first reason why it is no match, and counts. The word `match` is in no other line.
use Rattle.std.specs.Prelude.{ℕ, ◌==◌, Bool, true, false, if◌then◌else◌, List, [], ◌∷◌, ◌++◌, codes, Option, None, Some}
use Rattle.pcr_banks.specs.declared.alg.Alg.{Alg}
use Rattle.pcr_banks.specs.Names.{name_of}
use Rattle.cells.specs.Cells.{Cell, beside, count, if_some, in_order, nothing, rendered, text}
use Rattle.cells.specs.Values.{Member}
use Rattle.cells.specs.declared.writer.Form.TheVariants.{Text}
use Rattle.rendering.specs.declared.summary.Outcome.{Outcome}
use Rattle.rendering.specs.declared.summary.Outcome.TheVariants.{NoVerdict, Match, Differ}
use Rattle.rendering.specs.declared.summary.Reason.{Reason}
use Rattle.rendering.specs.declared.summary.Reason.TheVariants.{SignatureNotChecked, OtherValue, NotExpected, OtherQuote, BootAggregate, NotApart, UnknownFile, NothingCompared}
use Rattle.rendering.specs.declared.summary.Summary.{Summary}

abbrev pub outcome_word : Outcome → List ℕ
outcome_word NoVerdict = codes "no verdict"
outcome_word Match = codes "match"
outcome_word Differ = codes "differ"

-- A register, as `PCR 10 in the sha256 bank`.
abbrev pub place_cell : Alg × ℕ → Cell Member
place_cell register = in_order (
    count (codes "PCR ") register.1
    ∷ text (codes " in the ")
    ∷ text (name_of register.0)
    ∷ text (codes " bank")
    ∷ [])

abbrev pub pcr_cell : Option (Alg × ℕ) → Cell Member
pcr_cell None = text (codes "a PCR")
pcr_cell (Some register) = place_cell register

-- A list without entries records no boot aggregate.
abbrev pub aggregate_words : ℕ → List ℕ
aggregate_words entries =
    if entries == 0 then codes "the list is empty" else codes "the list does not record the boot aggregate of the log"

abbrev pub reason_cell : Summary → Reason → Cell Member
reason_cell summary SignatureNotChecked = text (codes "nobody checked the signature")
reason_cell summary OtherValue = beside (pcr_cell summary.first) (text (codes " is not as expected"))
reason_cell summary NotExpected = beside (pcr_cell summary.first) (text (codes " is required, but not in EXPECTED"))
reason_cell summary OtherQuote = text (codes "the quote has other PCR values")
reason_cell summary BootAggregate = text (aggregate_words summary.entries)
reason_cell summary NotApart = text (codes "an event extends PCR 10, or an entry another PCR")
reason_cell summary UnknownFile = text (codes "an entry is of no known file")
reason_cell summary NothingCompared = text (codes "no PCR was compared")

-- The reason, if there is one.
abbrev pub reason_part : Summary → Option Reason → Cell Member
reason_part summary None = nothing
reason_part summary (Some reason) = beside (reason_cell summary reason) (text (codes "; "))

abbrev pub entries_word : ℕ → List ℕ
entries_word entries = if entries == 1 then codes " entry" else codes " entries"

abbrev pub all_entries : ℕ → Cell Member
all_entries entries = beside (count (codes ", ") entries) (text (entries_word entries))

abbrev pub judged_entries : ℕ → ℕ → Cell Member
judged_entries judged entries = in_order (
    count (codes ", ") judged
    ∷ count (codes " of ") entries
    ∷ text (codes " entries judged")
    ∷ [])

-- How many entries are judged, as `412 entries` or `400 of 412 entries judged`.
abbrev pub entries_cell : ℕ → ℕ → Cell Member
entries_cell judged entries = if judged == entries then all_entries entries else judged_entries judged entries

-- How many of them are of no known file, if there are some.
abbrev pub unknown_part : ℕ → Cell Member
unknown_part unknown = if unknown == 0 then nothing else beside (count (codes ", ") unknown) (text (codes " unknown"))

-- As `22 of 23 PCRs agree, 400 of 412 entries judged, 3 unknown`.
abbrev pub counts_cell : Summary → Cell Member
counts_cell summary = in_order (
    count [] summary.matching
    ∷ count (codes " of ") summary.compared
    ∷ text (codes " PCRs agree")
    ∷ entries_cell summary.judged summary.entries
    ∷ unknown_part summary.unknown
    ∷ [])

-- Such as `differ: PCR 10 in the sha256 bank is not as expected; 22 of 23 PCRs agree, 412 entries`.
abbrev pub summary_cell : Summary → Cell Member
summary_cell summary = in_order (
    text (outcome_word summary.verdict)
    ∷ text (codes ": ")
    ∷ reason_part summary summary.reason
    ∷ counts_cell summary
    ∷ text (codes "\n")
    ∷ [])

abbrev pub summary_line : Summary → List ℕ
summary_line summary = rendered Text (summary_cell summary)

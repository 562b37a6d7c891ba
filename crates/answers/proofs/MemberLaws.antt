-- No answer has a member `fault`.
use Rattle.std.proofs.Common.{◌≡◌, ℕ, Bool, true, false, List, length, Option, Some, None, refl, codes}
use Rattle.std.specs.Prelude.{if◌then◌else◌}
use Rattle.json.specs.Find.{get}
use Rattle.json.specs.Json.{Json}
use Rattle.pcr_banks.specs.declared.banks.Banks.{Banks}
use Rattle.pcr_values.specs.declared.expected.Expected.{Expected}
use Rattle.pcr_values.specs.declared.selection.BankRange.{BankRange}
use Rattle.boot_verdict.specs.declared.isolation.Strays.{Strays}
use Rattle.boot_verdict.specs.declared.steps.Located.{Located}
use Rattle.boot_verdict.specs.declared.report.Unconfirmed.{Unconfirmed}
use Rattle.boot_verdict.specs.Names.{ListVerdict, Verdict, are_none}
use Rattle.known_files.specs.declared.unknown.UnknownFiles.{UnknownFiles}
use Rattle.cells.specs.Values.{members_of, object_of}
use Rattle.cells.specs.Cells.{Cell, beside, if_some, list_at, nothing, object_at}
use Rattle.cells.proofs.FaultMemberLaws.{AreOther, lacks, others_joined}
use Rattle.answers.specs.declared.row_order.RowOrder.TheVariants.{Given}
use Rattle.answers.specs.PositionCells.{positions_cell}
use Rattle.answers.specs.RegisterCells.{expected_cell, registers_cell}
use Rattle.answers.specs.ReportCells.{compared_cell, list_report_cell, meets, outcome_cell, prefix_cell, report_cell, stray_entry, stray_event, strays_cell, unconfirmed_cell, unknown_cell}

-- ---- parts

compared_other : (required : Option (List BankRange)) (compared : ℕ) → AreOther (members_of (compared_cell required compared).json)
unfolding beside
compared_other None compared = (refl, tt)
compared_other (Some ranges) compared = (refl, tt)

unless_other : (is : Bool) (items : Cell Json) → AreOther (members_of (if is then nothing else list_at (codes "extends") items).json)
unfolding list_at
unless_other true items = tt
unless_other false items = (refl, tt)

pub strays_other : (strays : Strays) → AreOther (members_of (strays_cell strays).json)
strays_other strays = unless_other (are_none strays) (beside (stray_event strays.event) (stray_entry strays.entry))

required_strays : (required : Option (List BankRange)) (strays : Strays) → AreOther (members_of (if_some required (λ ranges. strays_cell strays)).json)
required_strays None strays = tt
required_strays (Some ranges) strays = strays_other strays

pub unknown_other : (unknown : Option UnknownFiles) → AreOther (members_of (if_some unknown unknown_cell).json)
unfolding beside list_at
unknown_other None = tt
unknown_other (Some unknown) = (refl, (refl, tt))

pub unconfirmed_other : (unconfirmed : Option Unconfirmed) → AreOther (members_of (if_some unconfirmed unconfirmed_cell).json)
unfolding beside object_at
unconfirmed_other None = tt
unconfirmed_other (Some fault) = (refl, tt)

outcome_other : (required : Option (List BankRange)) (unknown : Option UnknownFiles) (is_match : Bool) (verdict : Verdict)
    → AreOther (members_of (outcome_cell Given required unknown is_match verdict).json)
unfolding beside list_at
outcome_other required unknown is_match verdict =
    others_joined (compared_cell required (length verdict.rows)).json _ (compared_other required _) (
      refl,
      (
        refl,
        others_joined (if_some required (λ ranges. strays_cell verdict.strays)).json _ (required_strays required verdict.strays)
            (others_joined (if_some unknown unknown_cell).json _ (unknown_other unknown) (refl, tt)),
      ),
    )

-- ---- answers

pub report_lacks : (required : Option (List BankRange)) (unknown : Option UnknownFiles) (is_match : Bool) (verdict : Verdict)
    → get (codes "fault") (object_of (report_cell Given required unknown is_match verdict).json) ≡ None
unfolding beside
report_lacks required unknown is_match verdict = lacks (object_of (report_cell Given required unknown is_match verdict).json) refl (refl, (refl, (refl, outcome_other required unknown is_match verdict)))

pub prefix_lacks : (required : Option (List BankRange)) (unknown : Option UnknownFiles) (prefix : Verdict) (entries : ℕ) (unconfirmed : Option Unconfirmed)
    → get (codes "fault") (object_of (prefix_cell Given required unknown prefix entries unconfirmed).json) ≡ None
unfolding beside
prefix_lacks required unknown prefix entries unconfirmed =
    lacks (object_of (prefix_cell Given required unknown prefix entries unconfirmed).json) refl (
      refl,
      (
        refl,
        (
          refl,
          (
            refl,
            others_joined (if_some unconfirmed unconfirmed_cell).json _ (unconfirmed_other unconfirmed)
                (outcome_other required unknown (meets required prefix) prefix),
          ),
        ),
      ),
    )

pub list_report_lacks : (required : Option (List BankRange)) (unknown : Option UnknownFiles) (verdict : ListVerdict)
    → get (codes "fault") (object_of (list_report_cell Given required unknown verdict).json) ≡ None
unfolding beside list_at
list_report_lacks required unknown verdict = lacks (object_of (list_report_cell Given required unknown verdict).json) refl (
  refl,
  others_joined (compared_cell required (length verdict.rows)).json _ (compared_other required _) (
    refl,
    others_joined (if_some required (λ ranges. strays_cell verdict.strays)).json _ (required_strays required verdict.strays)
        (others_joined (if_some unknown unknown_cell).json _ (unknown_other unknown) (refl, tt)),
  ),
)

pub positions_lacks : (required : Option (List BankRange)) (located : List Located)
    → get (codes "fault") (object_of (positions_cell required located).json) ≡ None
unfolding beside list_at
positions_lacks required located = lacks (object_of (positions_cell required located).json) refl (refl, (refl, tt))

pub registers_lacks : (now start : Banks) → get (codes "fault") (object_of (registers_cell now start).json) ≡ None
unfolding list_at
registers_lacks now start = lacks (object_of (registers_cell now start).json) refl (refl, tt)

pub expected_lacks : (expected : List Expected) → get (codes "fault") (object_of (expected_cell expected).json) ≡ None
unfolding list_at
expected_lacks expected = lacks (object_of (expected_cell expected).json) refl (refl, tt)

-- An event's line is one line, and has no member `fault`; likewise the header's.
use Rattle.std.proofs.Common.{◌≡◌, ℕ, arith, List, [], ◌∷◌, length, Option, Some, None, codes, refl}
use Rattle.std.specs.Prelude.{IfSome, flat_map}
use Rattle.std.specs.List.{AllByRecursion}
use Rattle.hex.specs.Hex.{IsBytes}
use Rattle.json.specs.Find.{get}
use Rattle.pcr_banks.specs.declared.alg.Alg.{Alg}
use Rattle.pcr_banks.specs.declared.sets.PerBank.{PerBank}
use Rattle.pcr_banks.specs.Names.{algorithm_with, all_algs, digest_in}
use Rattle.boot_log.specs.Names.{IsRow, IsSpecification, LogEvent, SpecificationData, event_type_name}
use Rattle.boot_log.specs.declared.header.DeclaredAlgorithm.{DeclaredAlgorithm}
use Rattle.event_data.specs.Names.{content_in}
use Rattle.measured_data.specs.declared.measured.Part.{Part}
use Rattle.measured_data.specs.declared.confirmed.Pcr.{Pcr}
use Rattle.measured_data.specs.Confirming.{confirmed_part}
use Rattle.measured_data.specs.Measuring.{measured_part}
use Rattle.cells.specs.Cells.{beside, each, if_some, list_at, object, object_at}
use Rattle.cells.specs.Values.{IsCount, IsOneLine, items_of, members_of}
use Rattle.cells.proofs.FaultMemberLaws.{AreOther, lacks, others_joined}
use Rattle.cells.proofs.LineLaws.{ArePlain, IsPlain, ItemsArePlain, line_within, members_joined, one_line}
use Rattle.event_lines.specs.ContentJson.{content_json}
use Rattle.event_lines.specs.EventCells.{algorithm_cell, confirmed_cell, digest_cell, mark_cell, name_cell, named_head_cell, part_cell, specification_cell, type_cell}
use Rattle.event_lines.specs.BriefJson.{brief_content_json}
use Rattle.event_lines.specs.EventJson.{event_json, header_json}
use Rattle.event_lines.specs.RegisterNames.{register_cell}
use Rattle.event_lines.proofs.BriefLaws.{brief_content_plain}
use Rattle.event_lines.proofs.RegisterNameLaws.{register_other, register_plain}
use Rattle.event_lines.proofs.ContentLaws.{content_plain}
use Rattle.event_lines.proofs.CountLaws.{content_counted}
use Rattle.event_lines.proofs.RestLaws.{rest_counted}

-- ---- an event is one line

type_plain : (kind : ℕ) (name : Option (List ℕ)) → IsCount kind → ArePlain (type_cell kind name).json 6
unfolding beside
type_plain kind None fits = ((kind, fits, refl), tt)
type_plain kind (Some name) fits = (tt, ((kind, fits, refl), tt))

head_plain : (number : ℕ) (event : LogEvent) → IsCount number → IsCount event.register → IsCount event.kind
    → ArePlain (named_head_cell number event).json 6
unfolding beside
head_plain number event count register kind = (
  (number, count, refl),
  members_joined 6 (register_cell (codes " ") event.register).json _ (register_plain 6 (codes " ") event.register register)
      (type_plain event.kind (event_type_name event.kind) kind),
)

digest_plain : (alg : Alg) (digest : Option (List ℕ)) → ArePlain (digest_cell alg digest).json 5
unfolding beside
digest_plain alg None = tt
digest_plain alg (Some bytes) = (tt, tt)

digests_plain : (digests : PerBank) (algs : List Alg) → ArePlain (flat_map (λ alg. (digest_cell alg (digest_in digests alg)).json) algs) 5
digests_plain digests [] = tt
digests_plain digests (alg ∷ algs) =
    members_joined 5 (digest_cell alg (digest_in digests alg)).json _ (digest_plain alg (digest_in digests alg)) (digests_plain digests algs)

part_plain : (alg : Alg) (part : Option Part) → ArePlain (part_cell alg part).json 5
unfolding beside
part_plain alg None = tt
part_plain alg (Some part) = (tt, tt)

parts_plain : (event : LogEvent) (algs : List Alg) → ArePlain (flat_map (λ alg. (part_cell alg (measured_part alg event)).json) algs) 5
parts_plain event [] = tt
parts_plain event (alg ∷ algs) =
    members_joined 5 (part_cell alg (measured_part alg event)).json _ (part_plain alg (measured_part alg event)) (parts_plain event algs)

confirmed_plain : (part : Option Part) → ArePlain (confirmed_cell part).json 6
unfolding beside
confirmed_plain None = (tt, tt)
confirmed_plain (Some part) = (tt, tt)

mark_plain : (matched : Option (List Pcr)) (event : LogEvent) → ArePlain (mark_cell matched event).json 6
unfolding beside each object_at
mark_plain None event = (parts_plain event all_algs, tt)
mark_plain (Some places) event = (parts_plain event all_algs, confirmed_plain (confirmed_part places event))

content_is_plain : (kind : ℕ) (bytes : List ℕ) → IsBytes bytes → IsPlain (content_json kind (content_in kind bytes)) 6
content_is_plain kind bytes fits = content_plain kind (content_in kind bytes) (content_counted kind bytes fits)

pub event_one_line : (matched : Option (List Pcr)) (number : ℕ) (event : LogEvent) → IsCount number → IsCount event.register → IsCount event.kind
    → IsBytes event.payload → IsOneLine (event_json matched number event)
unfolding beside each
event_one_line matched number event count register kind fits =
    line_within 7 (event_json matched number event) (omega arith)
    (members_joined 6 (named_head_cell number event).json _ (head_plain number event count register kind) (
      digests_plain event.digests all_algs,
      (
        tt,
        members_joined 6 (mark_cell matched event).json _ (mark_plain matched event) (content_is_plain event.kind event.payload fits, tt),
      ),
    ))

pub content_one_line : (kind : ℕ) (bytes : List ℕ) → IsBytes bytes → IsOneLine (content_json kind (content_in kind bytes))
content_one_line kind bytes fits =
    line_within 6 (content_json kind (content_in kind bytes)) (omega arith) (content_is_plain kind bytes fits)

pub brief_one_line : (kind : ℕ) (bytes : List ℕ) → IsBytes bytes → IsCount (length bytes) → IsOneLine (brief_content_json kind (content_in kind bytes))
brief_one_line kind bytes fits size =
    line_within 6 (brief_content_json kind (content_in kind bytes)) (omega arith)
    (brief_content_plain kind (content_in kind bytes) (content_counted kind bytes fits) (rest_counted kind bytes fits size))

-- ---- the header is one line

name_plain : (id : ℕ) (alg : Option Alg) → ArePlain (name_cell id alg).json 0
unfolding beside
name_plain id None = tt
name_plain id (Some alg) = (tt, tt)

rows_plain : (rows : List DeclaredAlgorithm) → AllByRecursion IsRow rows → ItemsArePlain (items_of (flat_map (λ row. (algorithm_cell row).json) rows)) 1
unfolding beside object
rows_plain [] are = tt
rows_plain (row ∷ rows) are = (
  members_joined 0 (name_cell row.id (algorithm_with row.id)).json _ (name_plain row.id (algorithm_with row.id))
      ((row.id, omega (arith, are.0.id_fits), refl), ((row.size, omega (arith, are.0.size_fits), refl), tt)),
  rows_plain rows are.1,
)

said_plain : (said : Option SpecificationData) → IfSome said IsSpecification → ArePlain (if_some said specification_cell).json 2
unfolding beside object_at
said_plain None fit = tt
said_plain (Some said) fit = (
  (
    (said.platform_class, omega (arith, fit.class_fits), refl),
    (
      (said.major, omega (arith, fit.major_fits), refl),
      (
        (said.minor, omega (arith, fit.minor_fits), refl),
        ((said.errata, omega (arith, fit.errata_fits), refl), ((said.uintn_size, omega (arith, fit.uintn_fits), refl), (tt, tt))),
      ),
    ),
  ),
  tt,
)

pub header_one_line : (said : Option SpecificationData) (rows : List DeclaredAlgorithm) → IfSome said IsSpecification → AllByRecursion IsRow rows
    → IsOneLine (header_json said rows)
unfolding beside each list_at
header_one_line said rows fit are = one_line (header_json said rows) (rows_plain rows are, said_plain said fit)

-- ---- no fault

pub header_lacks : (said : Option SpecificationData) (rows : List DeclaredAlgorithm) → get (codes "fault") (header_json said rows) ≡ None
unfolding beside each list_at object_at
header_lacks None rows = lacks (header_json None rows) refl (refl, tt)
header_lacks (Some said) rows = lacks (header_json (Some said) rows) refl (refl, (refl, tt))

type_other : (kind : ℕ) (name : Option (List ℕ)) → AreOther (members_of (type_cell kind name).json)
unfolding beside
type_other kind None = (refl, tt)
type_other kind (Some name) = (refl, (refl, tt))

confirmed_other : (part : Option Part) → AreOther (members_of (confirmed_cell part).json)
unfolding beside
confirmed_other None = (refl, tt)
confirmed_other (Some part) = (refl, tt)

mark_other : (matched : Option (List Pcr)) (event : LogEvent) → AreOther (members_of (mark_cell matched event).json)
unfolding beside each object_at
mark_other None event = (refl, tt)
mark_other (Some places) event = (refl, confirmed_other (confirmed_part places event))

pub event_lacks : (matched : Option (List Pcr)) (number : ℕ) (event : LogEvent) → get (codes "fault") (event_json matched number event) ≡ None
unfolding beside
event_lacks matched number event =
    let marks = others_joined (mark_cell matched event).json _ (mark_other matched event) (refl, tt) in
    lacks (event_json matched number event) refl
    (others_joined (named_head_cell number event).json _ (
      refl,
      others_joined (register_cell (codes " ") event.register).json _ (register_other (codes " ") event.register)
          (type_other event.kind (event_type_name event.kind)),
    ) (refl, (refl, marks)))

-- The entries of a list, whose lines are appended one after another.
use Rattle.std.proofs.Common.{◌≡◌, ℕ, false, ◌+◌, ◌-◌, ◌<◌, ◌≤◌, List, [], ◌∷◌, ◌++◌, length, take, drop, flat_map, refl, sym, ap, subst, ◌∙◌, arith, Some, Ok, Err, inl, inr}
use Rattle.std.proofs.lemmas.Bool.Decides.{nat_tests}
use Rattle.std.proofs.lemmas.List.{append-nil, nil_from_length}
use Rattle.std.proofs.lemmas.List.Concat.{flat_map-append, flat_map-cons}
use Rattle.agent_inputs.specs.declared.fault.RunFault.{RunFault}
use Rattle.agent_inputs.specs.Faults.{fault_of_list}
use Rattle.cells.specs.declared.writer.Form.{Form}
use Rattle.cells.specs.declared.writer.Form.TheVariants.{Json, Text}
use Rattle.ima_list.specs.declared.fault.ListFault.{ListFault}
use Rattle.ima_list.specs.Names.{BeginsWith, IsReading, ListEntry, line_of, list_fault_entry, list_spelling}
use Rattle.entry_lines.specs.EntryJson.{entry_json}
use Rattle.cells.specs.Values as json
use Rattle.entry_lines.specs.ListLines.{AreAllEntries, entry_lines, last_line}
use Rattle.line_chunks.specs.declared.piece.LineOffset.{LineOffset}
use Rattle.line_chunks.specs.Pieces.{AreEntriesBefore, AreItemsBefore, FailsAfterEntries, HasEntryLine, end_in, is_within, line_in, lines_in, whole_in}
use Rattle.line_chunks.proofs.LineLaws.{next_item, numbered_last, part_is}

pub lines_last : (form : Form) (entries : List ListEntry) (entry : ListEntry)
    → lines_in form (entries ++ entry ∷ []) ≡ lines_in form entries ++ line_in form (length entries) entry
lines_last Text entries entry =
    flat_map-append line_of entries (entry ∷ [])
    ∙ ap (λ (t : List ℕ). flat_map line_of entries ++ t) (flat_map-cons line_of entry [] ∙ append-nil (line_of entry))
lines_last Json entries entry =
    let same : length entries + 0 ≡ length entries = omega arith in
    numbered_last (λ number entry. json.line_of (entry_json number entry)) 0 entries entry
    ∙ ap (λ (n : ℕ). lines_in Json entries ++ json.line_of (entry_json n entry)) same

pub no_entries_before : (form : Form) (list : List ℕ) → AreEntriesBefore form list (record { offset = 0; number = 0 }) []
no_entries_before Text list = inl (record {
  items = [];
  rest = list;
  begins = record { are = tt; parts = refl };
  number_is = refl;
  offset_is = omega arith;
  few = omega arith;
  text_is = refl;
})
no_entries_before Json list = inl (record {
  items = [];
  rest = list;
  begins = record { are = tt; parts = refl };
  number_is = refl;
  offset_is = omega arith;
  few = omega arith;
  text_is = refl;
})

not_within : (position : LineOffset) (size : ℕ) → is_within position size ≡ false → position.number ≤ position.offset → position.offset ≤ size → ⊥
not_within position size none few within = grind (arith, nat_tests)

-- A position that is not within the lines has none before it.
pub none_before : (form : Form) (list : List ℕ) (position : LineOffset) (before : List ℕ) → is_within position (end_in form list) ≡ false
    → AreEntriesBefore form list position before → ⊥
none_before Text list position before none (inl are) = not_within position (length list) none are.few (omega (arith, are.offset_is))
none_before Text list position before none (inr all) = let no : Text ≡ Json = all.form_is in absurd cc
none_before Json list position before none (inl are) = not_within position (length list + 1) none are.few (omega (arith, are.offset_is))
none_before Json list position before none (inr all) = not_within position (length list + 1) none all.few (omega (arith, all.offset_is))

-- Within the list is within its lines.
pub within_list : (form : Form) (list : List ℕ) (number offset : ℕ) → number ≤ offset → offset ≤ length list
    → (number ≤ offset) × (offset ≤ end_in form list)
within_list Text list number offset few within = (few, within)
within_list Json list number offset few within = (few, omega (arith, within))

-- ---- before the end of the list

module _ (form : Form) (list : List ℕ) (position : LineOffset) (before left : List ℕ)
    (part : left ≡ take (length list - position.offset) (drop position.offset list)) (some : position.offset < length list) where
  -- The list begins with the entries before the position, and the part of it from there on follows them.
  begins_here : (are : AreItemsBefore (BeginsWith list) (lines_in form) list position before) → BeginsWith list are.items left
  begins_here are =
      let same : left ≡ are.rest = part ∙ part_is list (list_spelling are.items) are.rest position.offset are.begins.parts are.offset_is in
      subst (BeginsWith list are.items) (sym same) are.begins

  pub fails_after : (first : ListFault) (fault : RunFault) → 0 < length left
      → ((list : List ℕ) (before : List ListEntry) → BeginsWith list before left → length before ≡ position.number → 0 < length left
      → IsReading list (Err first))
      → list_fault_entry first ≡ Some position.number → fault ≡ fault_of_list first → AreEntriesBefore form list position before
      → FailsAfterEntries form list before fault
  fails_after first fault more read names says (inl are) = record {
    entries = are.items;
    rest = left;
    first = first;
    begins = begins_here are;
    reading = read list are.items (begins_here are) (sym are.number_is) more;
    number_is = names ∙ ap (λ (n : ℕ). Some n) are.number_is;
    text_is = are.text_is;
    fault_is = says;
  }
  fails_after first fault more read names says (inr all) = absurd (omega (arith, some, all.offset_is))

  pub next_entry : (entry : ListEntry) (after : List ℕ)
      → ((list : List ℕ) (before : List ListEntry) → BeginsWith list before left → BeginsWith list (before ++ entry ∷ []) after)
      → position.offset < length list - length after → AreEntriesBefore form list position before
      → HasEntryLine form list before (line_in form position.number entry)
      × AreEntriesBefore form list (record { offset = length list - length after; number = position.number + 1 })
      (before ++ line_in form position.number entry)
  next_entry entry after read further (inl are) =
      let next = next_item (BeginsWith list) (lines_in form) (line_in form) list position before after (length after) entry are
      (read list are.items (begins_here are)) (lines_last form are.items entry) refl further in
      (inl next.0, inl next.1)
  next_entry entry after read further (inr all) = absurd (omega (arith, some, all.offset_is))

-- ---- at its end

module _ (list : List ℕ) (position : LineOffset) (end : length list ≤ position.offset) (before : List ℕ)
    (law : (bytes : List ℕ) (entries : List ListEntry) → BeginsWith bytes entries [] → IsReading bytes (Ok entries)) where
  reading_here : {show : List ListEntry → List ℕ} (are : AreItemsBefore (BeginsWith list) show list position before) → IsReading list (Ok are.items)
  reading_here are =
      let none : are.rest ≡ [] = nil_from_length are.rest (omega (arith, end, are.offset_is)) in
      law list are.items (subst (BeginsWith list are.items) none are.begins)

  pub all_as_text : AreEntriesBefore Text list position before → AreAllEntries (whole_in Text) list before
  all_as_text (inl are) = record { entries = are.items; reading = reading_here are; text_is = are.text_is }
  all_as_text (inr all) = let no : Text ≡ Json = all.form_is in absurd cc

  -- The number comes next.
  pub count_next : position.offset ≤ length list → AreEntriesBefore Json list position before
      → HasEntryLine Json list before (last_line (Some Json) position.number)
      × AreEntriesBefore Json list (record { offset = position.offset + 1; number = position.number }) (before ++ last_line (Some Json) position.number)
  count_next within (inl are) =
      let number = ap (λ (n : ℕ). last_line (Some Json) n) are.number_is in (
        inr (record { form_is = refl; entries = are.items; reading = reading_here are; text_is = are.text_is; line_is = number }),
        inr (record {
          form_is = refl;
          entries = are.items;
          reading = reading_here are;
          number_is = are.number_is;
          offset_is = omega (arith, end, within);
          few = omega (arith, are.few);
          text_is = ap (λ (t : List ℕ). t ++ last_line (Some Json) position.number) are.text_is
              ∙ ap (λ (t : List ℕ). entry_lines (Some Json) are.items ++ t) number;
        }),
      )
  count_next within (inr all) = absurd (omega (arith, within, all.offset_is))

-- Behind the number are no more lines.
pub all_counted : (list : List ℕ) (position : LineOffset) (before : List ℕ) → length list < position.offset
    → AreEntriesBefore Json list position before → AreAllEntries (whole_in Json) list before
all_counted list position before past (inl are) = absurd (omega (arith, past, are.offset_is))
all_counted list position before past (inr all) = record { entries = all.entries; reading = all.reading; text_is = all.text_is }

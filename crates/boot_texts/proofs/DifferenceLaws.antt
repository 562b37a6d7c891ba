-- The lines of a register's events from a place on, one event after another; and those of all registers.
use Rattle.std.proofs.Common.{◌≡◌, ℕ, ◌+◌, ◌-◌, ◌<◌, ◌≤◌, Bool, true, false, cond, List, [], ◌∷◌, ◌++◌, length, take, drop, get_or, suc, refl, sym, ap, ◌∙◌, append_assoc, append-nil, Option, Some, None, Result, Ok, Err, take-append-drop, arith}
use Rattle.std.specs.Prelude.{flat_map, OnOk}
use Rattle.std.proofs.Math.Seq.{drop-cons}
use Rattle.std.proofs.lemmas.List.{drop-append-le, drop-drop, drop_all, get_or-drop, length-append, length-drop}
use Rattle.std.proofs.lemmas.List.Concat.{flat_map-append}
use Rattle.pcr_banks.specs.declared.alg.Alg.{Alg}
use Rattle.boot_log.specs.Names.{LogEvent, is_extended_into}
use Rattle.measured_data.specs.declared.confirmed.Pcr.{Pcr}
use Rattle.measured_data.specs.Confirming.{is_answering}
use Rattle.boot_answers.specs.CommonEvents.{unmarked}
use Rattle.boot_answers.specs.Differences.{IsFirstDifference}
use Rattle.cells.specs.declared.writer.Form.{Form}
use Rattle.cells.specs.ItemLines.{numbered_lines}
use Rattle.cells.proofs.ItemLineLaws.{numbered_joined}
use Rattle.boot_texts.specs.declared.difference_lines.ComparedBoot.{ComparedBoot}
use Rattle.boot_texts.specs.declared.difference_lines.EventLine.{EventLine}
use Rattle.boot_texts.specs.declared.differences.Difference.{Difference}
use Rattle.boot_texts.specs.Differences.{AreOfRegisters, IsComparedIn, IsDifference, difference_lines, event_line, lines_from, numbered_events, register_lines}

-- ---- the events of a register with their numbers

abbrev Numbered : Type 0
Numbered = ℕ × LogEvent

kept : (b : Bool) (first : Numbered) (events before more : List Numbered) → events ≡ before ++ more
    → cond b (first ∷ events) events ≡ cond b (first ∷ before) before ++ more
kept true first events before more are = ap (λ (l : List Numbered). first ∷ l) are
kept false first events before more are = are

-- The event with this number, if the test holds.
abbrev only : Bool → ℕ → LogEvent → List Numbered
only b number event = cond b ((number, event) ∷ []) []

same_number : (b : Bool) (event : LogEvent) (number other : ℕ) → number ≡ other
    → only b number event ≡ only b other event
same_number b event number other is = ap (λ (n : ℕ). only b n event) is

-- One event more.
numbered_more : (register number : ℕ) (read : List LogEvent) (event : LogEvent)
    → numbered_events register number (read ++ event ∷ [])
    ≡ numbered_events register number read ++ only (is_extended_into register event) (number + length read) event
numbered_more register number [] event = same_number (is_extended_into register event) event number (number + 0) (omega arith)
numbered_more register number (first ∷ read) event =
    let more = only (is_extended_into register event) ((number + 1) + length read) event in
    kept (is_extended_into register first) (number, first) (numbered_events register (number + 1) (read ++ event ∷ []))
    (numbered_events register (number + 1) read) more (numbered_more register (number + 1) read event)
    ∙ ap (λ (l : List Numbered). numbered_events register number (first ∷ read) ++ l)
    (same_number (is_extended_into register event) event ((number + 1) + length read) (number + length (first ∷ read)) (omega arith))

-- How many of these events are extended into the register.
abbrev pub count_of : ℕ → List LogEvent → ℕ
count_of register read = length (numbered_events register 1 read)

-- No element is left of none.
none_unmarked : (marks : List Bool) → unmarked {X = Numbered} marks [] ≡ []
none_unmarked [] = refl
none_unmarked (mark ∷ marks) = refl

-- One element more, unless it has a mark.
unmarked_more : (marks : List Bool) (xs : List Numbered) (x : Numbered)
    → unmarked marks (xs ++ x ∷ []) ≡ unmarked marks xs ++ cond (get_or marks (length xs) false) [] (x ∷ [])
unmarked_more [] xs x = refl
unmarked_more (true ∷ marks) [] x = none_unmarked marks
unmarked_more (false ∷ marks) [] x = ap (λ (l : List Numbered). x ∷ l) (none_unmarked marks)
unmarked_more (true ∷ marks) (y ∷ xs) x = unmarked_more marks xs x
unmarked_more (false ∷ marks) (y ∷ xs) x = ap (λ (l : List Numbered). y ∷ l) (unmarked_more marks xs x)

module _ (boot : ComparedBoot) (line : EventLine) (place : ℕ) (marks : List Bool) (read : List LogEvent) (event : LogEvent) where
  abbrev all : List Numbered
  all = numbered_events line.register 1 read

  abbrev longer : List Numbered
  longer = numbered_events line.register 1 (read ++ event ∷ [])

  abbrev line_of_one : Numbered → List ℕ
  line_of_one numbered = event_line boot line numbered.0 numbered.1

  abbrev lines : List Numbered → List ℕ
  lines events = flat_map line_of_one (unmarked marks events)

  other_is : is_extended_into line.register event ≡ false → longer ≡ all
  other_is other =
      numbered_more line.register 1 read event
      ∙ ap (λ (b : Bool). all ++ only b (1 + length read) event) other ∙ append-nil all

  own_is : is_extended_into line.register event ≡ true → longer ≡ all ++ (1 + length read, event) ∷ []
  own_is own =
      numbered_more line.register 1 read event
      ∙ ap (λ (b : Bool). all ++ only b (1 + length read) event) own

  pub other_lines : is_extended_into line.register event ≡ false
      → lines_from boot line place marks (read ++ event ∷ []) ≡ lines_from boot line place marks read
  other_lines other = ap (λ (l : List Numbered). lines (drop place l)) (other_is other)

  pub other_count : is_extended_into line.register event ≡ false → count_of line.register (read ++ event ∷ []) ≡ count_of line.register read
  other_count other = ap (λ (l : List Numbered). length l) (other_is other)

  pub own_count : is_extended_into line.register event ≡ true → count_of line.register (read ++ event ∷ []) ≡ count_of line.register read + 1
  own_count own = ap (λ (l : List Numbered). length l) (own_is own) ∙ length-append all ((1 + length read, event) ∷ [])

  -- One before the place.
  pub passed_lines : is_extended_into line.register event ≡ true → count_of line.register read < place
      → lines_from boot line place marks (read ++ event ∷ []) ≡ lines_from boot line place marks read
  passed_lines own before =
      ap lines (drop_all place longer (omega (arith, own_count own, before)) ∙ sym (drop_all place all (omega (arith, before))))

  one_line : (mark : Bool) (numbered : Numbered) → flat_map line_of_one (cond mark [] (numbered ∷ [])) ≡ cond mark [] (line_of_one numbered)
  one_line true numbered = refl
  one_line false numbered = append-nil (line_of_one numbered)

  -- One from the place on.
  pub told_lines : (number : ℕ) → is_extended_into line.register event ≡ true → place ≤ count_of line.register read
      → number ≡ length (read ++ event ∷ [])
      → lines_from boot line place marks (read ++ event ∷ [])
      ≡ lines_from boot line place marks read
      ++ cond (get_or marks (count_of line.register read - place) false) [] (event_line boot line number event)
  told_lines number own within is =
      let count : 1 + length read ≡ number = omega (arith, is, length-append read (event ∷ [])) in
      let rest = drop place all in
      let numbered : Numbered = (1 + length read, event) in
      let mark = get_or marks (length rest) false in
      ap (λ (l : List Numbered). lines (drop place l)) (own_is own)
      ∙ ap lines (drop-append-le place all (numbered ∷ []) within)
      ∙ ap (flat_map line_of_one) (unmarked_more marks rest numbered)
      ∙ flat_map-append line_of_one (unmarked marks rest) (cond mark [] (numbered ∷ []))
      ∙ ap (λ (l : List ℕ). lines rest ++ l) (one_line mark numbered
      ∙ ap (λ (n : ℕ). cond mark [] (event_line boot line n event)) count
      ∙ ap (λ (n : ℕ). cond (get_or marks n false) [] (event_line boot line number event)) (length-drop place all))

-- Without events there are no lines.
pub no_lines : (boot : ComparedBoot) (line : EventLine) (place : ℕ) (marks : List Bool) → lines_from boot line place marks [] ≡ []
no_lines boot line place marks =
    let none : List Numbered = [] in
    let few : length none ≤ place = omega arith in
    ap (flat_map (λ (numbered : Numbered). event_line boot line numbered.0 numbered.1))
    (ap (λ (events : List Numbered). unmarked marks events) (drop_all place none few) ∙ none_unmarked marks)

-- The first mark of what is left of the marks, and those after it.
pub first_mark_is : (marks later : List Bool) (place : ℕ) → later ≡ drop place marks → get_or later 0 false ≡ get_or marks place false
first_mark_is marks later place are =
    let here : place + 0 ≡ place = omega arith in
    ap (λ (l : List Bool). get_or l 0 false) are ∙ get_or-drop place marks 0 false ∙ ap (λ (n : ℕ). get_or marks n false) here

pub later_marks : (marks later : List Bool) (place : ℕ) → later ≡ drop place marks → drop 1 later ≡ drop (place + 1) marks
later_marks marks later place are = ap (λ (l : List Bool). drop 1 l) are ∙ drop-drop 1 place marks

-- ---- banks

-- The algorithms before one, and those after it.
pub parted : (algs : List Alg) (index : ℕ) (d : Alg) → index < length algs
    → algs ≡ take index algs ++ get_or algs index d ∷ drop (suc index) algs
parted algs index d within =
    sym (take-append-drop index algs) ∙ ap (λ (l : List Alg). take index algs ++ l) (drop-cons algs index d within)

-- How the boots are compared in a bank that answers.
pub compared : (matched : List Pcr) (register : ℕ) (events others : List LogEvent) (alg : Alg) (found : Option ℕ)
    → is_answering matched alg register ≡ true → IsFirstDifference alg register events others found
    → IsComparedIn matched register events others alg found
compared matched register events others alg None answers is = λ _. is
compared matched register events others alg (Some place) answers is = record { answers = answers; apart = is }

-- ---- registers

module _ (matched : List Pcr) (events others : List LogEvent) where
  pub one_register : (number : ℕ) (differences : List Difference) (difference : Difference) → AreOfRegisters matched events others number differences
      → IsDifference matched (number + length differences) events others difference
      → AreOfRegisters matched events others number (differences ++ difference ∷ [])
  one_register number [] difference are is =
      let same : number + length {A = Difference} [] ≡ number = omega arith in
      ((rw same at is), tt)
  one_register number (first ∷ differences) difference are is =
      let same : number + length (first ∷ differences) ≡ (number + 1) + length differences = omega arith in
      (are.0, one_register (number + 1) differences difference are.1 (rw same at is))

abbrev lines_of : Form → List LogEvent → List LogEvent → ℕ → Difference → List ℕ
lines_of form events others register difference = register_lines form register difference events others

pub one_register_lines : (form : Form) (events others : List LogEvent) (differences : List Difference) (difference : Difference) (register : ℕ)
    → length differences ≡ register
    → difference_lines form events others (differences ++ difference ∷ [])
    ≡ difference_lines form events others differences ++ register_lines form register difference events others
one_register_lines form events others differences difference register count =
    let line = lines_of form events others in
    let before = numbered_lines line 0 differences in
    let same : 0 + length differences ≡ register = omega (arith, count) in
    numbered_joined line 0 differences (difference ∷ [])
    ∙ ap (λ (n : ℕ). before ++ (line n difference ++ [])) same
    ∙ ap (λ (l : List ℕ). before ++ l) (append-nil (line register difference))

-- ---- text after text

pub joined : (old mid new first second : List ℕ) → mid ≡ old ++ first → new ≡ mid ++ second → new ≡ old ++ (first ++ second)
joined old mid new first second before after = after ∙ ap (λ (l : List ℕ). l ++ second) before ∙ append_assoc old first second

pub after_ok : {A E : Type 0} (old mid new first second : List ℕ) (result : Result A E) → mid ≡ old ++ first → OnOk result (new ≡ mid ++ second)
    → OnOk result (new ≡ old ++ (first ++ second))
after_ok old mid new first second (Ok value) before after = joined old mid new first second before after
after_ok old mid new first second (Err fault) before after = tt

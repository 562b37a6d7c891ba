-- What the first entry of a list records, by the first bytes of the list; and of which registers that is the old aggregate.
use Rattle.std.proofs.Common.{◌≡◌, ◌↔◌, ℕ, ◌<◌, ◌≤◌, Bool, true, false, List, [], ◌∷◌, ◌++◌, length, length-append, Option, Some, Err, refl, sym, ap, subst, ◌∙◌, append-nil, arith, inl, inr}
use Rattle.std.specs.Prelude.{IsTrue}
use Rattle.std.proofs.lemmas.Bool.{cases_lt}
use Rattle.std.proofs.lemmas.List.Concat.{flat_map-cons}
use Rattle.pcr_banks.specs.declared.alg.Alg.{Alg}
use Rattle.pcr_banks.specs.declared.banks.Banks.{Banks}
use Rattle.pcr_banks.specs.Names.{value_at}
use Rattle.boot_log.proofs.LogLaws.{one_reading}
use Rattle.boot_log.specs.Names.{algs_in}
use Rattle.ima_list.specs.declared.fault.ListFault.{ListFault}
use Rattle.ima_list.specs.Names.{AreComplete, BeginsWith, FailsFor, HasListFault, IsLongest, IsReading, ListEntry, list_fault_entry, list_spelling, spelling}
use Rattle.ima_list.proofs.ListLaws.{same_entries}
use Rattle.ima_list.proofs.PieceLaws.{begins_on, fault_number}
use Rattle.boot_verdict.specs.Names.{is_old, pcr_after_log, recorded_by_any}
use Rattle.agent_inputs.specs.Loading.{Inputs}
use Rattle.judging.specs.declared.request.Answer.TheVariants as answers
use Rattle.judging.specs.declared.request.Answered.{Answered}
use Rattle.judging.specs.Answering.{AreRegistersAfter, IsAnswer}
use Rattle.judging.specs.Inputs.{Where}
use Rattle.judging.specs.Requests.{LogRegistersOf}
use Rattle.hints.specs.Heads.{IsHead, IsLookedAt, head_size}
use Rattle.hints.specs.OldAggregates.{BeginsWithOld, IsSaidOld, LogLeaves, RecordsOld, registers_in}

-- ---- the first entry

module _ (list : List ℕ) where
  -- The list begins with no entry.
  abbrev pub HasNoFirst : Type 0
  HasNoFirst = (first : ListEntry) (rest : List ℕ) → BeginsWith list (first ∷ []) rest → ⊥

  pub begins_here : BeginsWith list [] list
  begins_here = record { are = tt; parts = refl }

  only_first : (entry first : ListEntry) (rest left : List ℕ) → BeginsWith list (entry ∷ []) rest → BeginsWith list (first ∷ []) left → entry ≡ first
  only_first entry first rest left begins other =
      let same : entry ∷ [] ≡ first ∷ [] = (same_entries (entry ∷ []) (first ∷ []) list rest left refl begins other).0 in cc

  none_longer : (entries : List ListEntry) (rest : List ℕ) → IsLongest list entries rest → length entries ≡ 0 → HasNoFirst
  none_longer entries rest longest none first left begins = omega (arith, longest.longest (first ∷ []) left begins, none)

  none_complete : AreComplete list [] list → HasNoFirst
  none_complete (inl whole) first left begins = none_longer [] [] whole.1 refl first left begins
  none_complete (inr short) first left begins =
      let reading = short.1 in none_longer reading.entries reading.rest reading.longest (sym reading.fault_is.0) first left begins

  none_faulty : (fault : ListFault) → FailsFor list fault → list_fault_entry fault ≡ Some 0 → HasNoFirst
  none_faulty fault fails number first left begins =
      let reading : HasListFault list fault = subst (λ (l : List ℕ). IsReading l (Err fault)) (append-nil list) (fails.1 []) in
      let at : Some (length reading.entries) ≡ Some 0 =
      sym (fault_number (length reading.entries) reading.rest fault reading.fault_is) ∙ number in
      none_longer reading.entries reading.rest reading.longest (cc) first left begins

  module _ (values : Alg → ℕ → Option (List ℕ)) where
    -- The entry that was read is the first.
    pub decided_first : (entry : ListEntry) (rest : List ℕ) (said : Bool) → BeginsWith list (entry ∷ []) rest → said ≡ is_old values (recorded_by_any entry)
        → IsTrue said ↔ BeginsWithOld values list
    decided_first entry rest true begins is = (λ yes. record { first = entry; rest = rest; begins = begins; records = sym is }, λ old. refl)
    decided_first entry rest false begins is = (
      λ said. absurd (cc),
      λ old.
          let same = only_first entry old.first rest old.rest begins old.begins in
          is ∙ ap (λ (e : ListEntry). is_old values (recorded_by_any e)) same ∙ old.records,
    )

    decided_none : HasNoFirst → IsTrue false ↔ BeginsWithOld values list
    decided_none none = (λ said. absurd (cc), λ old. absurd (none old.first old.rest old.begins))

    pub decided_complete : AreComplete list [] list → IsTrue false ↔ BeginsWithOld values list
    decided_complete complete = decided_none (none_complete complete)

    pub decided_faulty : (fault : ListFault) → FailsFor list fault → list_fault_entry fault ≡ Some 0 → IsTrue false ↔ BeginsWithOld values list
    decided_faulty fault fails number = decided_none (none_faulty fault fails number)

-- ---- the first bytes of a list

-- What begins the same bytes and is no longer begins what is longer.
begun : (short rest long more : List ℕ) → short ++ rest ≡ long ++ more → length short ≤ length long
    → (left : List ℕ) × (long ≡ short ++ left)
begun [] rest long more same fits = (long, refl)
begun (x ∷ short) rest [] more same fits = absurd (omega (arith, fits))
begun (x ∷ short) rest (y ∷ long) more same fits =
    let first : x ≡ y = cc in
    let others : short ++ rest ≡ long ++ more = cc in
    let found = begun short rest long more others (omega (arith, fits)) in
    (found.0, cc)

module _ (values : Alg → ℕ → Option (List ℕ)) (head list : List ℕ) (is : IsHead head list) where
  old_in_list : BeginsWithOld values head → BeginsWithOld values list
  old_in_list old = record {
    first = old.first;
    rest = old.rest ++ is.rest;
    begins = rw is.whole (begins_on head old.rest is.rest (old.first ∷ []) old.begins);
    records = old.records;
  }

  abbrev Begins : ListEntry → List ℕ → Type 0
  Begins first rest = BeginsWith list (first ∷ []) rest

  spelled : (first : ListEntry) → list_spelling (first ∷ []) ≡ spelling first
  spelled first = flat_map-cons spelling first [] ∙ append-nil (spelling first)

  parts : (first : ListEntry) (rest : List ℕ) → Begins first rest → spelling first ++ rest ≡ head ++ is.rest
  parts first rest begins = ap (λ (s : List ℕ). s ++ rest) (sym (spelled first)) ∙ sym begins.parts ∙ is.whole

  -- An entry that is no longer than what is looked at is within it.
  fits_in_head : (first : ListEntry) (rest : List ℕ) → Begins first rest → length (spelling first) ≤ head_size
      → length (spelling first) ≤ length head
  fits_in_head first rest begins fits =
      elim (cases_lt (length head) head_size) [
        | inl short ↦
            omega (
              arith,
              ap length (parts first rest begins),
              length-append (spelling first) rest,
              length-append head is.rest,
              ap length (is.enough short),
            )
        | inr long ↦ omega (arith, fits, long)
      ]

  old_in_head : (first : ListEntry) (rest : List ℕ) → Begins first rest → is_old values (recorded_by_any first) ≡ true
      → length (spelling first) ≤ head_size → BeginsWithOld values head
  old_in_head first rest begins records fits =
      let left = begun (spelling first) rest head is.rest (parts first rest begins) (fits_in_head first rest begins fits) in
      record {
        first = first;
        rest = left.0;
        begins = record { are = begins.are; parts = left.1 ∙ ap (λ (s : List ℕ). s ++ left.0) (sym (spelled first)) };
        records = records;
      }

-- ---- what is said

module _ (log list head : List ℕ) (start registers : Banks) (after : AreRegistersAfter log start registers) (is : IsHead head list) where
  values_are : value_at registers ≡ pcr_after_log (algs_in after.0) after.1
  values_are = λ i alg register. after.4.values alg register i

  records_old : BeginsWithOld (value_at registers) head → RecordsOld log list
  records_old old = record {
    table = after.0;
    events = after.1;
    log_is = after.2;
    first_is = subst (λ (values : Alg → ℕ → Option (List ℕ)). BeginsWithOld values list) values_are (old_in_list (value_at registers) head list is old);
  }

  -- What is not recorded in the first bytes is longer.
  is_longer : (BeginsWithOld (value_at registers) head → IsTrue false) → (old : RecordsOld log list) → head_size < length (spelling old.first_is.first)
  is_longer none old =
      let first = old.first_is in
      let same = one_reading log after.0 old.table after.1 old.events after.2 old.log_is in
      let records : is_old (value_at registers) (recorded_by_any first.first) ≡ true = rw (values_are, same.0, same.1) first.records in
      elim (cases_lt head_size (length (spelling first.first))) [
        | inl longer ↦ longer
        | inr fits ↦
            let said : false ≡ true = none (old_in_head (value_at registers) head list is first.first first.rest first.begins records fits) in
            absurd (cc)
      ]

-- What an answer leaves.
pub left_by : (inputs : Inputs) (log : Where) (given : Answered) (found : Option Banks) → IsAnswer inputs (LogRegistersOf log) given
    → found ≡ registers_in given.answer → LogLeaves inputs log found
left_by inputs log given found (answers.Registers registers, (content, held, after), is) found_is =
    rw (found_is, is) (content, held, (registers.start, after))
left_by inputs log given found (answers.Attestation report, none, is) found_is = absurd none
left_by inputs log given found (answers.Report report, none, is) found_is = absurd none
left_by inputs log given found (answers.Prefix report, none, is) found_is = absurd none
left_by inputs log given found (answers.Positions positions, none, is) found_is = absurd none
left_by inputs log given found (answers.ListReport report, none, is) found_is = absurd none
left_by inputs log given found (answers.Expected expected, none, is) found_is = absurd none
left_by inputs log given found (answers.Key report part, none, is) found_is = absurd none

pub said_of : (inputs : Inputs) (log : Where) (list : List ℕ) (registers : Banks) (head : List ℕ) (said : Bool) → LogLeaves inputs log (Some registers)
    → IsLookedAt inputs list (Some head) → IsTrue said ↔ BeginsWithOld (value_at registers) head → IsSaidOld inputs (Some log) (Some list) said
said_of inputs log list registers head true (content, held, (start, after)) (bytes, has, is) old =
    (content, held, (bytes, has, records_old content bytes head start registers after is (old.0 refl)))
said_of inputs log list registers head false (content, held, (start, after)) (bytes, has, is) old =
    inr (inr (content, held, (bytes, has, is_longer content bytes head start registers after is old.1)))

-- Checkpoints: with the same data, and with possible counts.
use Rattle.std.proofs.Common.{◌≡◌, ℕ, ◌+◌, ◌*◌, ◌≤◌, List, [], ◌∷◌, ◌++◌, length, Option, Some, None, option_map, refl, sym, ap, subst, ◌∙◌, arith, inl, inr}
use Rattle.std.specs.Prelude.{IfSome, IsSome, IsTrue, is_some}
use Rattle.std.proofs.lemmas.Bool.{cases_Bool, false≢true, true≢false}
use Rattle.std.proofs.lemmas.Bool.Decides.{eqb_tells}
use Rattle.std.proofs.lemmas.List.{append-nil, length-append}
use Rattle.std.specs.Int.{w32, to_le_bytes}
use Rattle.pcr_banks.specs.declared.alg.Alg.{Alg}
use Rattle.pcr_banks.specs.declared.banks.Banks.{Banks}
use Rattle.pcr_banks.specs.declared.digest.Digest.{Digest}
use Rattle.pcr_banks.specs.Names.{alg_of, bank_of, bytes_of, extended_by_all, in_bank, is_active, value_at}
use Rattle.ima_list.specs.Names.{AreEntries, IsEntry, IsImaPayload, ListEntry, digests_of, is_ima, list_spelling, payload_spelling, replayed_value, spelling}
use Rattle.boot_verdict.specs.declared.checkpoint.Checkpoint.{Checkpoint}
use Rattle.boot_verdict.specs.Names.{IsCheckpoint, first_stray, recorded_aggregate, told_aggregate, stray_from}
use Rattle.growing_lists.specs.CheckpointData.{HaveValues, IsCounted, IsPossible, IsStrayOf, LeavesRoom, SameData, SameValues}
use Rattle.growing_lists.specs.Sessions.{IsOfBoot}

-- ---- the same data

active_by : (one two : Option (List (List ℕ))) → (IsTrue (is_some one) → IsSome (in_bank one 0))
    → (IsTrue (is_some two) → IsSome (in_bank two 0)) → in_bank one 0 ≡ in_bank two 0 → is_some one ≡ is_some two
active_by None None one two same = refl
active_by (Some bank) (Some other) one two same = refl
active_by None (Some other) one two same = absurd (false≢true (subst (λ (value : Option (List ℕ)). IsSome value) (sym same) (two refl)))
active_by (Some bank) None one two same = absurd (false≢true (subst (λ (value : Option (List ℕ)). IsSome value) same (one refl)))

-- Banks with the same values are active together.
active_together : (first second : Banks) → HaveValues first → HaveValues second → SameValues first second → (a : Alg)
    → is_active first a ≡ is_active second a
active_together first second one two same a =
    active_by (bank_of first a) (bank_of second a) (λ on. one.whole a 0 on (omega arith)) (λ on. two.whole a 0 on (omega arith)) (same a 0)

module _ (first second : Checkpoint) (one : IsPossible first) (two : IsPossible second) (same : SameData first second) where
  before_active : (a : Alg) → is_active first.before a ≡ is_active second.before a
  before_active a = active_together first.before second.before one.before two.before same.before a

  -- They are those of the same lists.
  pub same_lists : (list : List ℕ) → IsCheckpoint list first → IsCheckpoint list second
  same_lists list is = record {
    entries = is.entries;
    list_is = is.list_is;
    genuine = is.genuine;
    replayed = record {
      active = λ a.
          sym (active_together first.after second.after one.after two.after same.after a) ∙ is.replayed.active a ∙ before_active a;
      values = λ a r.
          sym (same.after a r) ∙ is.replayed.values a r
          ∙ ap (λ (value : Option (List ℕ)). option_map (λ bytes. extended_by_all a bytes (digests_of is.entries a r)) value) (same.before a r);
    };
    count = sym same.entries ∙ is.count;
    size = sym same.bytes ∙ is.size;
    recorded = ap (λ (recorded : Option Digest). option_map (λ digest. (alg_of digest, bytes_of digest)) recorded) (sym same.recorded) ∙ is.recorded;
    told = ap (λ (told : Option Digest). option_map (λ digest. (alg_of digest, bytes_of digest)) told) (sym same.told) ∙ is.told;
    stray = sym same.stray ∙ is.stray;
  }

  -- They are those of the same boots.
  pub same_boots : (log : List ℕ) → IsOfBoot log first → IsOfBoot log second
  same_boots log is = record {
    table = is.table;
    events = is.events;
    log_is = is.log_is;
    start = record {
      active = λ a. sym (before_active a) ∙ is.start.active a;
      values = λ a r. sym (same.before a r) ∙ is.start.values a r;
    };
  }

-- ---- possible counts

-- They are those of the same data.
pub counted_same : (first second : Checkpoint) → HaveValues first.before → HaveValues first.after → IsPossible second → SameData first second
    → IsCounted first
counted_same first second before after possible same =
    let active = λ (a : Alg).
    active_together first.before second.before before possible.before same.before a ∙ possible.counted.active a
    ∙ sym (active_together first.after second.after after possible.after same.after a) in
    record {
      room = rw same.bytes possible.counted.room;
      size = rw (same.entries, same.bytes) possible.counted.size;
      active = active;
      stray = rw (same.entries, same.stray) possible.counted.stray;
      empty = λ none.
          let nothing = possible.counted.empty (sym same.entries ∙ none) in
          record {
            bytes = same.bytes ∙ nothing.bytes;
            recorded = same.recorded ∙ nothing.recorded;
            told = same.told ∙ nothing.told;
            same = record { active = active; values = λ a r. same.before a r ∙ nothing.same.values a r ∙ sym (same.after a r) };
          };
    }

payload_size : (entry : ListEntry) (form : IsTrue (is_ima entry) → IsImaPayload entry.payload) → 4 ≤ length (payload_spelling entry)
payload_size entry form =
    elim (cases_Bool (is_ima entry)) [
      | inl ima ↦
          let is = form ima in
          let long = ap (λ (l : List ℕ). length l) is.spelled ∙ length-append is.file (to_le_bytes w32 (length is.path) ++ is.path) in
          let size = is.file_size in
          rw ima (omega (arith, long, size))
      | inr other ↦ rw other (omega (arith, length-append (to_le_bytes w32 (length entry.payload)) entry.payload))
    ]

entry_size : (entry : ListEntry) → IsEntry entry → 32 ≤ length (spelling entry)
entry_size entry is =
    let size = is.digest_size in
    let payload = payload_size entry is.ima_form in
    let named = to_le_bytes w32 (length entry.name) ++ entry.name in
    omega (
      arith,
      size,
      payload,
      length-append (to_le_bytes w32 entry.register) (entry.digest ++ (named ++ payload_spelling entry)),
      length-append entry.digest (named ++ payload_spelling entry),
      length-append named (payload_spelling entry),
      length-append (to_le_bytes w32 (length entry.name)) entry.name,
    )

entries_size : (entries : List ListEntry) → AreEntries entries → length entries * 32 ≤ length (list_spelling entries)
entries_size [] are = omega arith
entries_size (entry ∷ entries) are =
    let joined = length-append (spelling entry) (list_spelling entries) in
    let first = entry_size entry are.0 in
    let others = entries_size entries are.1 in
    omega (arith, joined, first, others)

no_entries : (entries : List ListEntry) → length entries ≡ 0 → entries ≡ []
no_entries [] none = refl
no_entries (entry ∷ entries) none = let no : ⊥ = omega (arith, none) in absurd no

none_recorded : (recorded : Option Digest) → option_map {U = Alg × List ℕ} (λ digest. (alg_of digest, bytes_of digest)) recorded ≡ None → recorded ≡ None
none_recorded None is = refl
none_recorded (Some digest) is = absurd (true≢false (ap (λ (value : Option (Alg × List ℕ)). is_some value) is))

same_option : (value : Option (List ℕ)) → option_map (λ bytes. bytes) value ≡ value
same_option None = refl
same_option (Some bytes) = refl

-- The stray entry of a list is one of its entries.
stray_is_one : (n : ℕ) (entries : List ListEntry) → AreEntries entries → IfSome (stray_from n entries) (IsStrayOf (n + length entries))
stray_is_one n [] are = tt
stray_is_one n (entry ∷ entries) are =
    let exists = are.0.register_exists in
    let size : n + 1 + length entries ≡ n + length (entry ∷ entries) = omega arith in
    elim (eqb_tells entry.register 10) [
      | inl same ↦ rw same.0 (subst (λ (count : ℕ). IfSome (stray_from (n + 1) entries) (IsStrayOf count)) size (stray_is_one (n + 1) entries are.1))
      | inr other ↦ rw other.0 (record { within = omega arith; exists = exists; other = other.1 })
    ]

-- They are those of a list that leaves room.
pub counted_list : (known : Checkpoint) (list : List ℕ) → IsCheckpoint list known → LeavesRoom known → IsCounted known
counted_list known list is room =
    let count = is.count in
    let size = is.size in
    let spelled = ap (λ (l : List ℕ). length l) (is.list_is.begins.parts ∙ append-nil (list_spelling is.entries)) in
    let are = is.list_is.begins.are in
    let long = entries_size is.entries are in
    let active = λ (a : Alg). sym (is.replayed.active a) in
    let counted : 0 + length is.entries ≡ known.entries = omega (arith, count) in
    record {
      room = room;
      size = omega (arith, count, size, spelled, long);
      active = active;
      stray = rw is.stray (
          subst (λ n. IfSome (first_stray is.entries) (IsStrayOf n)) counted (stray_is_one 0 is.entries are)
          );
      empty = λ none.
          let empty = no_entries is.entries (sym is.count ∙ none) in
          record {
            bytes = size ∙ spelled ∙ ap (λ (entries : List ListEntry). length (list_spelling entries)) empty;
            recorded = none_recorded known.recorded (is.recorded ∙ ap recorded_aggregate empty);
            told = none_recorded known.told (is.told ∙ ap told_aggregate empty);
            same = record {
              active = active;
              values = λ a r.
                  sym (is.replayed.values a r ∙ ap (λ (entries : List ListEntry). replayed_value known.before entries a r) empty
                  ∙ same_option (value_at known.before a r));
            };
          };
    }

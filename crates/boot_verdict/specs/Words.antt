-- Words that texts and JSON have in common.
use Rattle.std.specs.Prelude.{ℕ, List, [], ◌++◌, codes, decimal, Option, Some, None}
use Rattle.ima_list.specs.Names.{list_fault_entry, list_fault_number, replay_fault_entry, replay_fault_number}
use Rattle.boot_verdict.specs.declared.report.Unconfirmed.{Unconfirmed}
use Rattle.boot_verdict.specs.declared.report.Unconfirmed.TheVariants as faults
use Rattle.boot_verdict.specs.declared.report.Aggregate.{Aggregate}
use Rattle.boot_verdict.specs.declared.report.Aggregate.TheVariants.{Good, Wrong, NoBank, Missing, Old}

-- The state of a boot aggregate.
abbrev pub aggregate_word : Aggregate → List ℕ
aggregate_word Good = codes "good"
aggregate_word Wrong = codes "wrong"
aggregate_word NoBank = codes "nobank"
aggregate_word Missing = codes "missing"
aggregate_word Old = codes "old_kernel"

-- ---- what is wrong after a confirmed prefix

-- The kind of the fault, in one word.
abbrev pub unconfirmed_kind : Unconfirmed → List ℕ
unconfirmed_kind (faults.List fault) = codes "list"
unconfirmed_kind (faults.Replay fault) = codes "replay"

-- Its number among the faults of its kind.
abbrev pub unconfirmed_number : Unconfirmed → ℕ
unconfirmed_number (faults.List fault) = list_fault_number fault
unconfirmed_number (faults.Replay fault) = replay_fault_number fault

-- The entry that it names, if it names one.
abbrev pub unconfirmed_entry : Unconfirmed → Option ℕ
unconfirmed_entry (faults.List fault) = list_fault_entry fault
unconfirmed_entry (faults.Replay fault) = Some (replay_fault_entry fault)

abbrev pub entry_words : Option ℕ → List ℕ
entry_words None = []
entry_words (Some entry) = codes " at entry " ++ decimal entry

-- The fault in words, as `unconfirmed: replay fault 1 at entry 98`.
abbrev pub unconfirmed_message : Unconfirmed → List ℕ
unconfirmed_message fault =
    (codes "unconfirmed: " ++ (unconfirmed_kind fault ++ (codes " fault " ++ decimal (unconfirmed_number fault))))
    ++ entry_words (unconfirmed_entry fault)

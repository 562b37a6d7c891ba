-- What an answer tells where files have to be known, if all is well with it: each entry that it is on is known.
use Rattle.std.specs.Prelude.{◌≡◌, ◌⊎◌, ℕ, List, [], ◌∷◌, length, drop, max, true, Option, None, Some}
use Rattle.std.specs.List.{AllByRecursion}
use Rattle.ima_list.specs.Names.{BeginsWith, ListEntry}
use Rattle.boot_verdict.specs.declared.checkpoint.Checkpoint.{Checkpoint}
use Rattle.known_files.specs.declared.unknown.UnknownFiles.{UnknownFiles}
use Rattle.known_files.specs.EntryFiles.{IsKnown, is_aggregate}
use Rattle.agent_inputs.specs.Loading.{Inputs}
use Rattle.judging.specs.declared.request.Answer.{Answer}
use Rattle.judging.specs.declared.request.Answer.TheVariants as answers
use Rattle.judging.specs.declared.request.Answered.{Answered}
use Rattle.judging.specs.Answering.{AreKnownTexts, OfList, entries_taken}
use Rattle.judging.specs.Inputs.{Where}

-- How many entries of a list the answer is on, if it is a report on one.
abbrev pub entries_of : Answer → Option ℕ
entries_of (answers.Report report) = Some report.entries
entries_of (answers.Prefix prefix) = Some prefix.report.entries
entries_of (answers.ListReport report) = Some report.entries
entries_of (answers.Attestation report) = Some report.report.entries
entries_of answer = None

-- The first of these entries, if there is one, is known by these texts, or one of the boot aggregate.
abbrev pub IsFirstKnown : List (List ℕ) → List ListEntry → Type 0
IsFirstKnown texts [] = Unit {0}
IsFirstKnown texts (entry ∷ entries) = IsKnown texts entry ⊎ (is_aggregate entry ≡ true)

-- The list begins with as many entries as the answer is on; each of them from number `first` on is known by these texts, but that its first may
-- be one of the boot aggregate; and none is told unknown.
pub record HasKnownEntries (given : Answered) (texts : List (List ℕ)) (first : ℕ) (list : List ℕ) : Type 0 where
  pub entries : List ListEntry
  pub rest : List ℕ
  pub unknown : UnknownFiles
  pub begins : BeginsWith list entries rest
  pub count_is : entries_of given.answer ≡ Some (length entries)
  pub are_known : AllByRecursion (IsKnown texts) (drop (max 1 first) entries)
  pub first_known : first ≡ 0 → IsFirstKnown texts entries
  pub unknown_is : given.unknown ≡ Some unknown
  pub first_is : unknown.first ≡ first
  pub none_told : unknown.numbers.items ≡ []

-- The texts of these inputs make the entries known that the answer is on, of the list that was taken before and what this input adds to it.
pub record TellsKnown (inputs : Inputs) (places : List Where) (list : Where) (known : Option Checkpoint) (given : Answered) : Type 0 where
  pub texts : List (List ℕ)
  pub texts_are : AreKnownTexts inputs places texts
  pub entries_are : OfList inputs list known (HasKnownEntries given texts (entries_taken known))

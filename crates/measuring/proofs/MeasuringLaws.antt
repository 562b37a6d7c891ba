-- Measured files, and the first refused one.
use Rattle.std.proofs.Common.{◌≡◌, ℕ, ◌+◌, ◌<◌, List, [], get_or, length, map, Some, refl, ap, inl, inr, arith, rules, string_bytes}
use Rattle.std.specs.Prelude.{◌⊎◌, slice_get, IfSome}
use Rattle.std.specs.Borrow.{Bor}
use Rattle.std.proofs.lemmas.Bool.{cases_lt}
use Rattle.std.proofs.lemmas.List.{length-map}
use Rattle.std.proofs.lemmas.Option.{slice_get-get_or}
use Rattle.agent_plans.specs.declared.plan.Measurement.{Measurement}
use Rattle.boot_log.specs.declared.header.DeclaredAlgorithm.{DeclaredAlgorithm}
use Rattle.boot_log.specs.Names.{IsFirmware, IsLog, LogEvent, algs_in}
use Rattle.measure_book.specs.declared.origin.Origin.{Origin}
use Rattle.measure_book.specs.declared.op.Outcome.{Outcome}
use Rattle.measure_book.specs.declared.op.Outcome.TheVariants.{Done}
use Rattle.measure_book.specs.declared.op.Receipt.{Receipt}
use Rattle.measure_book.specs.Names.{book_outcome_of, measure}
use Rattle.pcr_banks.specs.declared.alg.Alg.{Alg}
use Rattle.pcr_banks.specs.declared.banks.Banks.{Banks}
use Rattle.pcr_banks.specs.declared.digest.Digest.{Digest}
use Rattle.pcr_banks.specs.Names.{digest_of, hash_of}
use Rattle.ima_list.specs.Names.{measured}
use Rattle.hash_workers.proofs.ListLaws.{at_map, within_at}
use Rattle.agent_inputs.specs.declared.fault.RunFault.{RunFault}
use Rattle.agent_inputs.specs.declared.fault.RunFault.TheVariants.{Memory}
use Rattle.agent_inputs.specs.Opening.{IsReplayedOf}
use Rattle.agent_inputs.specs.Loading.{IsHashOfAll, Inputs, input_limit}
use Rattle.measuring.specs.Measuring.{AreDone, AreLog, AreNames, Contents, HasFile, HasFiles, IsFileFault, IsFileMeasure, IsMeasuringFault, IsNamesFault, IsNotRecorded, IsRecordingFault, IsSetOut, IsUnhashed, failing_in, files_in}
use Rattle.measuring.specs.parts.{names_borrowed}

-- One more job was not refused.
pub one_more_done : (given : List Outcome) (i : ℕ) (outcome : Outcome) (receipt : Receipt) → slice_get given i ≡ Some outcome
    → outcome ≡ Done receipt → AreDone (map book_outcome_of given) i → AreDone (map book_outcome_of given) (i + 1)
one_more_done given i outcome receipt at is before = λ job reason below has. elim (cases_lt job i) [
  | inl less ↦ before job reason less has
  | inr more ↦
      let same : job ≡ i = omega arith in
      let here = at_map book_outcome_of given i outcome at in
      let done = ap book_outcome_of is in cc
]

-- The name of this number, where there are as many as are borrowed.
pub name_at : (names : List (Bor (List ℕ))) (number : ℕ) (default : Bor (List ℕ)) → number < length (names_borrowed names)
    → slice_get names number ≡ Some (get_or names number default)
name_at names number default within =
    slice_get-get_or names number default (omega (arith, length-map names (λ (name : Bor (List ℕ)). name.now)))

-- What holds of a borrowed name holds of the name of this number.
pub of_borrowed : (names : List (Bor (List ℕ))) (number : ℕ) (name : Bor (List ℕ)) (P : List ℕ → Type 0) → slice_get names number ≡ Some name
    → P name.now → IfSome (slice_get (names_borrowed names) number) P
of_borrowed names number name P has holds = rw (at_map (λ (n : Bor (List ℕ)). n.now) names number name has) holds

measured_of_hash : (alg : Alg) (content path : List ℕ)
    → measured (digest_of alg (hash_of alg content)) path [] ≡ record { alg = alg; digest = hash_of alg content; path = path; sig = [] }
measured_of_hash alg content path = search rules

-- What is measured of a file, if its digest is the hash of its content.
pub file_measure : (held : Contents) (names : List (Bor (List ℕ))) (alg : Alg) (number : ℕ) (name : Bor (List ℕ)) (digest : Digest)
    (path sig : List ℕ) → slice_get names number ≡ Some name
    → IsHashOfAll (held name.now) alg input_limit digest → path ≡ name.now → sig ≡ []
    → IsFileMeasure held (names_borrowed names) alg number (measure (measured digest path sig))
file_measure held names alg number name digest path sig has hashed path_is sig_is = record {
  file = record {
    name = name.now;
    content = hashed.content;
    has = at_map (λ (n : Bor (List ℕ)). n.now) names number name has;
    held_is = hashed.held;
    within = hashed.within;
  };
  op_is = rw (path_is, sig_is, hashed.digest_is) (ap measure (measured_of_hash alg hashed.content name.now));
}

-- One more file was read.
pub had_more : (held : Contents) (names : List (List ℕ)) (number : ℕ) → HasFiles held names number → HasFile held names number
    → HasFiles held names (number + 1)
had_more held names number before here earlier below = elim (cases_lt earlier number) [
  | inl less ↦ before earlier less
  | inr more ↦ let same : earlier ≡ number = omega arith in rw same here
]

-- The fault of the first file without an operation.
pub file_fault : (held : Contents) (Fails : List ℕ → Type 0) (names : List (List ℕ)) (number : ℕ) (fault : RunFault) → number < length names
    → IfSome (slice_get names number) (λ name. IsUnhashed held Fails name fault) → HasFiles held names number → IsFileFault held Fails names fault
file_fault held Fails names number fault within unhashed before =
    let at = within_at names number within in
    record { index = number; name = at.0; has = at.1; reason = rw at.1 at unhashed; before = before }

-- A fault of files of which some may fail is one of files of which more may.
module _ (held : Contents) (Fails Others : List ℕ → Type 0) (more : (name : List ℕ) → Fails name → Others name) where
  unhashed : (name : List ℕ) (fault : RunFault) → IsUnhashed held Fails name fault → IsUnhashed held Others name fault
  unhashed name fault (inl long) = inl long
  unhashed name fault (inr (inl failed)) = inr (inl (failed.0, more name failed.1))
  unhashed name fault (inr (inr memory)) = inr (inr memory)

  pub fault_among : (names : List (List ℕ)) (fault : RunFault) → IsFileFault held Fails names fault → IsFileFault held Others names fault
  fault_among names fault file = record {
    index = file.index;
    name = file.name;
    has = file.has;
    reason = unhashed file.name fault file.reason;
    before = file.before;
  }

-- The origin of a book over a log, as asked.
abbrev pub set_out : (log : List ℕ) (request : Measurement) (table : List DeclaredAlgorithm) (events : List LogEvent) → IsLog log table events → (start : Banks)
    → IsFirmware (algs_in table) events start
    → IsSetOut log request (record { start = start; template = request.template; alg = request.alg; limit = request.limit })
set_out log request table events is start starts =
    record { table = table; events = events; log_is = is; starts = starts; origin_is = refl }

pub not_recorded : (held : Contents) (Fails : List ℕ → Type 0) (log : List ℕ) (request : Measurement) (names : List (List ℕ)) (origin : Origin)
    (fault : RunFault) → IsSetOut log request origin
    → IsFileFault held Fails names fault ⊎ IsRecordingFault held names origin request.workers fault
    → IsFileFault held Fails names fault ⊎ IsNotRecorded held log request names fault
not_recorded held Fails log request names origin fault out (inl file) = inl file
not_recorded held Fails log request names origin fault out (inr reason) = inr (origin, out, reason)

-- Why nothing is measured of inputs that hold this log.
module _ (inputs : Inputs) (request : Measurement) (log : List ℕ)
    (has : IsReplayedOf inputs (Some (string_bytes request.log.name)) request.log.hcrtm log) (is : AreLog log) where
  pub no_names : (fault : RunFault) → IsNamesFault inputs request fault ⊎ (fault ≡ Memory) → IsMeasuringFault inputs request fault
  no_names fault (inl known) = inr (log, has, inr (inl (is, inl known)))
  no_names fault (inr memory) = inr (log, has, inr (inr memory))

  pub not_all : (names : List (List ℕ)) → AreNames inputs request names → (held : Contents) (Fails : List ℕ → Type 0) → held ≡ files_in inputs
      → ((name : List ℕ) → Fails name → failing_in inputs name) → (fault : RunFault)
      → IsFileFault held Fails names fault ⊎ IsNotRecorded held log request names fault → IsMeasuringFault inputs request fault
  not_all names are held Fails same more fault (inl file) =
      let among = fault_among held Fails (failing_in inputs) more names fault file in
      inr (log, has, inr (inl (is, inr (names, are, inl (rw same at among)))))
  not_all names are held Fails same more fault (inr recording) = inr (log, has, inr (inl (is, inr (names, are, inr (rw same at recording)))))

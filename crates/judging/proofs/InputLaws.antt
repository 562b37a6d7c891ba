-- What a list that was read from the source of an input says of the input, whatever list was taken before.
use Rattle.std.proofs.Common.{◌≡◌, ◌⊎◌, ℕ, ◌≤◌, List, [], ◌++◌, length, Option, None, Some, Ok, Err, refl, sym, ap, subst, ◌∙◌, append_assoc, append-nil, arith, true, inl, inr}
use Rattle.std.specs.Prelude.{IfSome}
use Rattle.std.specs.Io.KnownBytes.{Consumes, IsAtEnd}
use Rattle.std.proofs.lemmas.List.{length-append}
use Rattle.byte_streams.specs.Streams.{SourceState}
use Rattle.pcr_values.specs.declared.expected.Expected.{Expected}
use Rattle.boot_log.specs.declared.header.DeclaredAlgorithm.{DeclaredAlgorithm}
use Rattle.boot_log.specs.Names.{IsLog, LogEvent, algs_in}
use Rattle.boot_log.proofs.LogLaws.{one_reading}
use Rattle.ima_list.specs.declared.fault.ListFault.{ListFault}
use Rattle.ima_list.specs.declared.fault.ListFault.TheVariants as lists
use Rattle.ima_list.specs.Names.{BeginsWith, IsReading, ListEntry, list_spelling}
use Rattle.ima_list.proofs.PieceLaws.{reading_to_the_end}
use Rattle.boot_verdict.specs.declared.report.Report.{Report}
use Rattle.boot_verdict.specs.declared.verifier.VerifyFault.{VerifyFault}
use Rattle.boot_verdict.specs.declared.verifier.VerifyFault.TheVariants as verdicts
use Rattle.boot_verdict.specs.declared.aggregate_rule.AggregateRule.{AggregateRule}
use Rattle.boot_verdict.specs.declared.checkpoint.Checkpoint.{Checkpoint}
use Rattle.boot_verdict.specs.Names.{CameFrom, CameWhole, FailsFor, IsListFaultAfter, IsMoreFault, IsVerdictUnder, IsVerifyFaultFrom, ReadsAsLog, Verdict, most_after, verdict_of, verdict_under}
use Rattle.boot_verdict.proofs.ReplayLaws.{one_list}
use Rattle.boot_verdict.specs.declared.report.Unconfirmed.{Unconfirmed}
use Rattle.boot_verdict.specs.declared.report.Unconfirmed.TheVariants as unconfirmed
use Rattle.growing_lists.specs.declared.session.Session.{Session}
use Rattle.growing_lists.specs.CheckpointData.{IsPossible}
use Rattle.growing_lists.specs.declared.confirmation.Confirmed.{Confirmed}
use Rattle.growing_lists.specs.Prefixes.{CameWrong, IsPrefixTaken, IsUnconfirmedFault, IsWrongWith, TakesUnconfirmed}
use Rattle.growing_lists.specs.Sessions.{HasTaken, TakesMore}
use Rattle.agent_plans.specs.declared.plan.Scope.{Scope}
use Rattle.agent_inputs.specs.declared.fault.RunFault.{RunFault}
use Rattle.agent_inputs.specs.declared.fault.RunFault.TheVariants as runs
use Rattle.agent_inputs.specs.Faults.{HasLogFault}
use Rattle.agent_inputs.specs.Loading.{HasFailed, Inputs}
use Rattle.judging.specs.declared.request.ScopedReport.{ScopedReport}
use Rattle.judging.specs.declared.request.ScopedReport.TheVariants as judged
use Rattle.judging.specs.Answering.{CanBeReadBack, Evidence, GivesInput, IsNext, IsNotFound, IsRefusedAfter, IsRefusedList, IsStarted, IsUnconfirmedIn, IsVerdictOn, goal_in, seeks_prefix}
use Rattle.judging.specs.Requests.{VerdictOf}
use Rattle.judging.specs.Inputs.{Holds, IsFaultAt, OfInput, Where, held_in, limit_of}

-- The source gives exactly what the input holds.
abbrev pub HasAll : Option (List ℕ) → Option (List ℕ) → Type 0
HasAll known remaining = IfSome known (λ all. remaining ≡ Some all)

-- ---- what came, and what is told

whole_from : (all : List ℕ) (new : Option (List ℕ)) (list : List ℕ) → Consumes (Some all) new (list ++ []) → IsAtEnd new → list ≡ all
whole_from all None list lost end = absurd lost
whole_from all (Some rest) list lost end =
    sym (lost ∙ ap (λ (r : List ℕ). (list ++ []) ++ r) end ∙ append-nil (list ++ []) ∙ append-nil list)

pub held_whole : (known old new : Option (List ℕ)) (limit : ℕ) (list : List ℕ) → HasAll known old → CameWhole old new limit list
    → IfSome known (λ all. list ≡ all)
held_whole None old new limit list has whole = tt
held_whole (Some all) old new limit list has whole =
    whole_from all new list (subst (λ (o : Option (List ℕ)). Consumes o new (list ++ [])) has whole.came.lost) whole.end

-- The told bytes begin with those that came, and more if more came.
begins_from : (bytes : List ℕ) (new : Option (List ℕ)) (list over : List ℕ) → Consumes (Some bytes) new (list ++ over)
    → (later : List ℕ) × (list ++ later ≡ bytes) × (length over ≤ length later)
begins_from bytes None list over lost = absurd lost
begins_from bytes (Some rest) list over lost =
    (over ++ rest, sym (lost ∙ append_assoc list over rest), omega (arith, length-append over rest))

pub held_more : (known old new : Option (List ℕ)) (limit : ℕ) (list over : List ℕ) → HasAll known old → CameFrom old new limit list over
    → (later : List ℕ) × IfSome known (λ all. list ++ later ≡ all) × (length over ≤ length later)
held_more None old new limit list over has came = (over, tt, omega arith)
held_more (Some bytes) old new limit list over has came =
    begins_from bytes new list over (subst (λ (o : Option (List ℕ)). Consumes o new (list ++ over)) has came.lost)

-- A list that begins with these entries begins with them when it goes on.
goes_on : (taken came later : List ℕ) (entries : List ListEntry) (rest : List ℕ) → BeginsWith (taken ++ came) entries rest
    → BeginsWith (taken ++ (came ++ later)) entries (rest ++ later)
goes_on taken came later entries rest begins = record {
  are = begins.are;
  parts =
      sym (append_assoc taken came later) ∙ ap (λ (bytes : List ℕ). bytes ++ later) begins.parts
      ∙ append_assoc (list_spelling entries) rest later;
}

-- The verdict on a log and the spelling of entries is that on what they read as.
verdict_here : {rule : AggregateRule} {log list rest : List ℕ} {prefix : List ListEntry} {table : List DeclaredAlgorithm} {events : List LogEvent} (expected : List Expected)
    (verdict : Verdict) → IsLog log table events → BeginsWith list prefix rest → IsVerdictUnder rule log (list_spelling prefix) expected verdict
    → verdict ≡ verdict_under rule (algs_in table) events prefix expected
verdict_here {rule} {log} {list} {rest} {prefix} {table} {events} expected verdict log_is begins is =
    let same = one_reading log is.table table is.events events is.log_is log_is in
    let listed : IsReading (list_spelling prefix) (Ok prefix) =
    reading_to_the_end (list_spelling prefix) prefix (record { are = begins.are; parts = sym (append-nil (list_spelling prefix)) }) in
    let entries : is.entries ≡ prefix = one_list is.list_is listed in
    is.verdict_is ∙ (λ i. verdict_under rule (algs_in (same.0 i)) (same.1 i) (entries i) expected)

-- The checkpoint of the spelling of a list's first entries counts them.
spelled_count : {log list rest : List ℕ} {prefix : List ListEntry} {next : Checkpoint} → BeginsWith list prefix rest
    → IsNext log (list_spelling prefix) next → next.entries ≡ length prefix
spelled_count {log} {list} {rest} {prefix} {next} begins is =
    let read : IsReading (list_spelling prefix) (Ok prefix) =
    reading_to_the_end (list_spelling prefix) prefix (record { are = begins.are; parts = sym (append-nil (list_spelling prefix)) }) in
    is.checkpoint.count ∙ ap length (one_list is.checkpoint.list_is read)

-- What a verdict tells of its entries, of which so many are known, follows from what it told before.
pub tells_of : (inputs : Inputs) (scope : Scope) (list : Where) (evidence : Evidence) (Tells Also : List ListEntry → Type 0) (on : ScopedReport)
    (next : Checkpoint) → ((entries : List ListEntry) → next.entries ≡ length entries → Tells entries → Also entries)
    → IsVerdictOn inputs scope list evidence Tells on next → IsVerdictOn inputs scope list evidence Also on next
tells_of inputs scope list evidence Tells Also (judged.Whole report) next so is = (
  is.0,
  λ taken take.
      let more = is.1 taken take in (
        more.0,
        more.1,
        (more.2.0, more.2.1, (more.2.2.0, so more.2.2.0.checkpoint.entries more.2.2.0.checkpoint.count more.2.2.1)),
      ),
  is.2,
)
tells_of inputs scope list evidence Tells Also (judged.Prefix report) next so is = (
  is.0,
  is.1,
  λ taken take.
      let more = is.2 taken take in
      let f = more.2 in (
        more.0,
        more.1,
        record {
          table = f.table;
          events = f.events;
          prefix = f.prefix;
          rest = f.rest;
          log_is = f.log_is;
          begins = f.begins;
          confirmed = f.confirmed;
          verdict_is = f.verdict_is;
          next_is = f.next_is;
          tells = so f.prefix (spelled_count f.begins f.next_is) f.tells;
        },
      ),
  is.3,
)

-- Whoever goes on from what a session knows goes on from what it has taken.
next_of : {log list : List ℕ} {session : Session} → HasTaken log list session → IsPossible session.checkpoint → IsNext log list session.checkpoint
next_of is possible = record {
  checkpoint = is.checkpoint;
  boot = record { table = is.table; events = is.events; log_is = is.log_is; start = is.start };
  possible = possible;
}

module _ {inputs : Inputs} {list : Where} {old new : SourceState} (gives : GivesInput inputs list old new) where
  -- All that came is all that the input holds.
  pub held : {limit : ℕ} {came : List ℕ} → CameWhole old.remaining new.remaining limit came → Holds inputs list came
  held {limit} {came} whole = held_whole (held_in inputs list) old.remaining new.remaining limit came gives.all whole

  -- What came is what the input holds first.
  begun : {limit : ℕ} {came over : List ℕ} → CameFrom old.remaining new.remaining limit came over
      → (later : List ℕ) × Holds inputs list (came ++ later) × (length over ≤ length later)
  begun {limit} {came} {over} from = held_more (held_in inputs list) old.remaining new.remaining limit came over gives.all from

  module _ (taken : List ℕ) (limit : ℕ) where
    lasting : (first : ListFault)
        → ((came : List ℕ) × (over : List ℕ) × CameFrom old.remaining new.remaining limit came over × FailsFor (taken ++ came) first)
        → OfInput inputs list (λ more. IsReading (taken ++ more) (Err first))
    lasting first fails =
        let more = begun fails.2 in
        (fails.0 ++ more.0, more.1, subst (λ (bytes : List ℕ). IsReading bytes (Err first)) (append_assoc taken fails.0 more.0) (fails.3.1 more.0))

    list_fault : (first : ListFault) → IsListFaultAfter taken old.remaining new.remaining limit (verdicts.List first)
        → OfInput inputs list (λ more. IsReading (taken ++ more) (Err first))
    list_fault (lists.Truncated entry) is = (is.0, held is.1, is.2)
    list_fault (lists.BadRegister entry) is = lasting (lists.BadRegister entry) is
    list_fault (lists.NameTooLong entry) is = lasting (lists.NameTooLong entry) is
    list_fault lists.Memory is = lasting lists.Memory is

    wrong_with : (count : ℕ) (fault : Option Unconfirmed) → CameWrong taken old.remaining new.remaining limit count fault
        → OfInput inputs list (λ more. IsWrongWith (taken ++ more) count fault)
    wrong_with count None is = (is.0, held is.1, is.2)
    wrong_with count (Some (unconfirmed.Replay fault)) is = (is.0, held is.1, is.2)
    wrong_with count (Some (unconfirmed.List fault)) is = let list = list_fault fault is.0 in (list.0, list.1, (list.2, is.1))

  -- ---- why the list is refused

  refused_after : (taken : List ℕ) (limit : ℕ) (first : VerifyFault) → (first ≡ verdicts.Source → HasFailed old new)
      → IsMoreFault taken old.remaining new.remaining limit first → IsRefusedAfter inputs list limit taken first
  refused_after taken limit (verdicts.Log first) failed is = is
  refused_after taken limit (verdicts.List first) failed is = list_fault taken limit first is
  refused_after taken limit (verdicts.Replay first) failed is = (is.0, held is.1, is.2)
  refused_after taken limit verdicts.Source failed is = gives.failing (failed refl)
  refused_after taken limit verdicts.TooLong failed is =
      let more = begun is.2 in (is.0 ++ more.0, more.1, (is.0, more.0, refl, is.3, omega (arith, is.4, more.2), is.5))
  refused_after taken limit verdicts.Memory failed is = tt

  pub list_refused : (first : VerifyFault) (fault : RunFault) → (first ≡ verdicts.Source → HasFailed old new)
      → IsMoreFault [] old.remaining new.remaining (limit_of list) first → IsFaultAt list first fault → IsRefusedList inputs list fault
  list_refused first fault failed is says = (first, refused_after [] (limit_of list) first failed is, says)

  pub positions_refused : (evidence : Evidence) (first : VerifyFault) (fault : RunFault) → (first ≡ verdicts.Source → HasFailed old new)
      → IsVerifyFaultFrom evidence.log old.remaining new.remaining (limit_of list) first → (first ≡ verdicts.Memory → ReadsAsLog evidence.log)
      → IsFaultAt list first fault
      → HasLogFault evidence.log fault ⊎ (ReadsAsLog evidence.log × IsRefusedList inputs list fault)
  positions_refused evidence (verdicts.Log first) fault failed is memory says = inl (record { first = first; first_is = is.0; says = says })
  positions_refused evidence (verdicts.List first) fault failed is memory says = inr (is.0, list_refused (verdicts.List first) fault failed is.1 says)
  positions_refused evidence (verdicts.Replay first) fault failed is memory says = inr (is.0, list_refused (verdicts.Replay first) fault failed is.1 says)
  positions_refused evidence verdicts.Source fault failed is memory says = inr (is.0, list_refused verdicts.Source fault failed is.1 says)
  positions_refused evidence verdicts.TooLong fault failed is memory says = inr (is.0, list_refused verdicts.TooLong fault failed is.1 says)
  positions_refused evidence verdicts.Memory fault failed is memory says = inr (memory refl, (verdicts.Memory, tt, says))

  -- ---- a verdict

  module _ (place : Where) (resume : Option Where) (scope : Scope) (evidence : Evidence) {before : Session}
      (started : IsStarted evidence.log evidence.checkpoint before) where
    -- All of the list was taken, and if a prefix is sought, none is confirmed.
    pub whole_found : (Tells : List ListEntry → Type 0) (after : Session) (report : Report) → CanBeReadBack after.checkpoint
        → ((log taken : List ℕ) → HasTaken log taken before
        → (takes : TakesMore log taken old.remaining new.remaining (most_after before.checkpoint (limit_of list)) after)
        × Tells takes.taken.checkpoint.entries)
        → (seeks_prefix scope evidence ≡ true → (log taken : List ℕ) → HasTaken log taken before
        → TakesUnconfirmed log taken old.remaining new.remaining (most_after before.checkpoint (limit_of list)) (goal_in evidence)
        before.checkpoint.entries after)
        → ((log all : List ℕ) → HasTaken log all after → IsVerdictUnder evidence.rule log all evidence.expected (verdict_of report))
        → IsVerdictOn inputs scope list evidence Tells (judged.Whole report) after.checkpoint
    unfolding next_of
    whole_found Tells after report room takes none verdict = (
      started.boot,
      λ taken take.
          let both = takes evidence.log taken (started.takes taken take) in
          let t = both.0 in (
            t.more,
            held t.came,
            (
              subst (λ (n : ℕ). length t.more ≤ n) (started.most list) t.came.came.within,
              verdict evidence.log (taken ++ t.more) t.taken,
              (next_of t.taken (room _ t.taken.checkpoint), both.1),
            ),
          ),
      λ sought taken take.
          let n = rw started.count at (none sought evidence.log taken (started.takes taken take)) in
          (n.takes.more, held n.takes.came, (n.entries, n.list_is, n.none)),
    )

    pub prefix_found : (Tells : List ListEntry → Type 0) (after : Session) (report : Report) (confirmed : Confirmed) → CanBeReadBack after.checkpoint
        → seeks_prefix scope evidence ≡ true
        → ((log taken : List ℕ) → HasTaken log taken before → (prefix : IsPrefixTaken log taken old.remaining new.remaining
        (most_after before.checkpoint (limit_of list)) (goal_in evidence) before.checkpoint.entries after confirmed) × Tells prefix.prefix)
        → ((log all : List ℕ) → HasTaken log all after → IsVerdictUnder evidence.rule log all evidence.expected (verdict_of report))
        → IsVerdictOn inputs scope list evidence Tells
        (judged.Prefix (record { report = report; entries = confirmed.entries; unconfirmed = confirmed.unconfirmed })) after.checkpoint
    prefix_found Tells after report confirmed room sought prefixes verdict = (
      started.boot,
      sought,
      λ taken take.
          let both = rw started.count at (prefixes evidence.log taken (started.takes taken take)) in
          let f = both.0 in
          let more = begun f.came_is in (
            f.came ++ more.0,
            more.1,
            record {
              table = f.table;
              events = f.events;
              prefix = f.prefix;
              rest = f.rest ++ more.0;
              log_is = f.log_is;
              begins = goes_on taken f.came more.0 f.prefix f.rest f.begins;
              confirmed = f.shortest;
              verdict_is = verdict_here evidence.expected (verdict_of report) f.log_is f.begins
                  (verdict evidence.log (list_spelling f.prefix) f.taken);
              next_is = next_of f.taken (room _ f.taken.checkpoint);
              tells = both.1;
            },
          ),
      λ taken take.
          wrong_with taken (most_after before.checkpoint (limit_of list)) confirmed.entries confirmed.unconfirmed
          (prefixes evidence.log taken (started.takes taken take)).0.wrong,
    )

    unconfirmed_in : (first : VerifyFault) → ((log taken : List ℕ) → HasTaken log taken before → IsUnconfirmedFault log taken old.remaining
        new.remaining (most_after before.checkpoint (limit_of list)) (goal_in evidence) before.checkpoint.entries first)
        → IsUnconfirmedIn inputs list evidence first
    unconfirmed_in (verdicts.Log first) is = tt
    unconfirmed_in (verdicts.List first) is =
        λ taken take.
        let u = rw started.count at (is evidence.log taken (started.takes taken take)) in
        let more = begun u.2.came_is in (
          u.2.came ++ more.0,
          more.1,
          (
            u.2.entries,
            u.2.rest ++ more.0,
            rw u.2.count_is u.1,
            goes_on taken u.2.came more.0 u.2.entries u.2.rest u.2.begins,
            u.2.none,
          ),
        )
    unconfirmed_in (verdicts.Replay first) is =
        λ taken take.
        let u = rw started.count at (is evidence.log taken (started.takes taken take)) in
        (u.more, held u.came, (u.entries, u.list_is, u.none))
    unconfirmed_in verdicts.Source is = tt
    unconfirmed_in verdicts.TooLong is = tt
    unconfirmed_in verdicts.Memory is = tt

    pub not_found : (first : VerifyFault) (fault : RunFault) → (first ≡ verdicts.Source → HasFailed old new)
        → ((log taken : List ℕ) → HasTaken log taken before
        → IsMoreFault taken old.remaining new.remaining (most_after before.checkpoint (limit_of list)) first)
        → (seeks_prefix scope evidence ≡ true → (log taken : List ℕ) → HasTaken log taken before
        → IsUnconfirmedFault log taken old.remaining new.remaining (most_after before.checkpoint (limit_of list)) (goal_in evidence)
        before.checkpoint.entries first) → IsFaultAt list first fault → IsNotFound inputs (VerdictOf place scope resume) list evidence fault
    not_found first fault failed is unconfirmed says =
        inr (inr (record {
          first = first;
          log_is = started.valid;
          boot = started.boot;
          first_is = λ taken take.
              subst (λ (n : ℕ). IsRefusedAfter inputs list n taken first) (started.most list)
              (refused_after taken _ first failed (is evidence.log taken (started.takes taken take)));
          unconfirmed = λ sought. unconfirmed_in first (unconfirmed sought);
          says = says;
        }))

    -- Memory may run out once the session was started.
    pub memory_out : (fault : RunFault) → fault ≡ runs.Memory → IsNotFound inputs (VerdictOf place scope resume) list evidence fault
    memory_out fault says = inr (inr (record {
      first = verdicts.Memory;
      log_is = started.valid;
      boot = started.boot;
      first_is = λ taken take. tt;
      unconfirmed = λ sought. tt;
      says = says;
    }))

-- What a session makes of a search for the confirmed prefix.
use Rattle.std.proofs.Common.{◌≡◌, ℕ, List, ◌∷◌, ◌++◌, length, take, Option, Some, None, Result, Ok, Err, sym, ap, subst, ◌∙◌}
use Rattle.std.proofs.lemmas.List.{take-append-le}
use Rattle.boot_log.specs.declared.header.DeclaredAlgorithm.{DeclaredAlgorithm}
use Rattle.boot_log.specs.Names.{IsLog, LogEvent, algs_in}
use Rattle.boot_log.proofs.LogLaws.{one_reading}
use Rattle.ima_list.specs.Names.{AreGenuine, IsGenuine, ListEntry}
use Rattle.boot_verdict.specs.declared.checkpoint.Checkpoint.{Checkpoint}
use Rattle.growing_lists.specs.declared.confirmation.Search.{Search}
use Rattle.boot_verdict.specs.declared.report.Unconfirmed.{Unconfirmed}
use Rattle.boot_verdict.specs.declared.report.Unconfirmed.TheVariants as unconfirmed
use Rattle.growing_lists.specs.declared.session.Session.{Session}
use Rattle.boot_verdict.specs.Names.{After, AreTracked, IsMoreFault, IsReplayedOrForged}
use Rattle.boot_verdict.proofs.ReplayLaws.{none_forged, one_list}
use Rattle.growing_lists.specs.Goals.{GoalData}
use Rattle.growing_lists.specs.Prefixes.{AreUnconfirmed, CameWrong, IsPrefixTaken, IsUnconfirmedFault, TakesUnconfirmed, WatchesPrefix}
use Rattle.growing_lists.specs.Sessions.{HasTaken, WatchesMore}
use Rattle.growing_lists.specs.parts.Searches.{FindsPrefix, IsConfirmedAt, IsWhole, Searches, WatchesSearch, fault_in, wrong_with}
use Rattle.growing_lists.proofs.PrefixLaws.{within_genuine}
use Rattle.growing_lists.proofs.SessionLaws.{taken_as}

-- Entries that are unconfirmed after a log are so after any reading of it.
any_log : (log : List ℕ) (goal : GoalData) (least : ℕ) (entries : List ListEntry) (table : List DeclaredAlgorithm) (events : List LogEvent)
    → IsLog log table events → AreUnconfirmed (algs_in table) events goal least entries
    → (other : List DeclaredAlgorithm) (others : List LogEvent) → IsLog log other others → AreUnconfirmed (algs_in other) others goal least entries
any_log log goal least entries table events is none other others also =
    let same = one_reading log table other events others is also in
    subst (λ (p : List DeclaredAlgorithm × List LogEvent). AreUnconfirmed (algs_in p.0) p.1 goal least entries) (λ i. (same.0 i, same.1 i)) none

module _ (session : Session) (log list : List ℕ) (has : HasTaken log list session) (old new : Option (List ℕ)) (limit : ℕ) (goal : GoalData)
    (search : Search) (searches : Searches session.checkpoint list old new limit goal search) where
  none_confirmed : search.prefix ≡ None → (table : List DeclaredAlgorithm) (events : List LogEvent) → IsLog log table events
      → AreUnconfirmed (algs_in table) events goal session.checkpoint.entries searches.entries
  none_confirmed none =
      any_log log goal session.checkpoint.entries searches.entries has.table has.events has.log_is
      (subst (FindsPrefix (algs_in has.table) has.events goal session.checkpoint (list ++ searches.came) searches.entries) none
      (searches.prefix (algs_in has.table) has.events has.start))

  -- The list is refused.
  pub refused_by : (wrong : Unconfirmed) → search.whole ≡ Err wrong → search.prefix ≡ None
      → IsMoreFault list old new limit (fault_in wrong) × IsUnconfirmedFault log list old new limit goal session.checkpoint.entries (fault_in wrong)
  refused_by wrong is none = by wrong (subst (IsWhole session.checkpoint list old new limit searches.entries) is searches.whole)
      (subst (λ (whole : Result Checkpoint Unconfirmed). CameWrong list old new limit search.entries (wrong_with whole)) is searches.wrong)
    where
      by : (wrong : Unconfirmed) → IsWhole session.checkpoint list old new limit searches.entries (Err wrong) → CameWrong list old new limit search.entries (Some wrong)
          → IsMoreFault list old new limit (fault_in wrong) × IsUnconfirmedFault log list old new limit goal session.checkpoint.entries (fault_in wrong)
      by (unconfirmed.List fault) whole why = (
        why.0,
        (
          search.entries,
          why.1,
          record {
            came = searches.came;
            over = searches.over;
            entries = searches.entries;
            rest = searches.rest;
            came_is = searches.came_is;
            begins = searches.begins;
            count_is = searches.count;
            none = none_confirmed none;
          },
        ),
      )
      by (unconfirmed.Replay fault) (more, came, reading) (most, all, (entries, list_is, first, counted)) = (
        (most, all, record { entries = entries; list_is = list_is; first = first }),
        record { more = more; entries = searches.entries; came = came; list_is = reading; none = none_confirmed none },
      )

  -- No prefix is confirmed.
  pub takes_unconfirmed : (known : Checkpoint) → search.whole ≡ Ok known → search.prefix ≡ None
      → TakesUnconfirmed log list old new limit goal session.checkpoint.entries (record { log = session.log; checkpoint = known })
  takes_unconfirmed known is none = by (subst (IsWhole session.checkpoint list old new limit searches.entries) is searches.whole)
    where
      by : IsWhole session.checkpoint list old new limit searches.entries (Ok known)
          → TakesUnconfirmed log list old new limit goal session.checkpoint.entries (record { log = session.log; checkpoint = known })
      by (more, came, reading, checkpoint, before) = record {
        takes = record { more = more; came = came; taken = taken_as has checkpoint before };
        entries = searches.entries;
        list_is = reading;
        none = none_confirmed none;
      }

  -- ---- the prefix

  module _ (at : Checkpoint) (found : search.prefix ≡ Some at) where
    abbrev pub here : IsConfirmedAt (algs_in has.table) has.events goal session.checkpoint (list ++ searches.came) searches.entries at
    here = subst (FindsPrefix (algs_in has.table) has.events goal session.checkpoint (list ++ searches.came) searches.entries) found
        (searches.prefix (algs_in has.table) has.events has.start)

    abbrev pub prefix_taken : IsPrefixTaken log list old new limit goal session.checkpoint.entries (record { log = session.log; checkpoint = at })
        (record { entries = search.entries; unconfirmed = wrong_with search.whole })
    prefix_taken = record {
      came = searches.came;
      over = searches.over;
      table = has.table;
      events = has.events;
      prefix = here.prefix;
      rest = here.rest;
      came_is = searches.came_is;
      log_is = has.log_is;
      begins = here.begins;
      shortest = here.confirmed;
      taken = taken_as has here.checkpoint here.before;
      wrong = searches.wrong;
    }

-- ---- what watched

-- The entries before the first that is not genuine begin with any genuine prefix.
genuine_begin : (before after : List ListEntry) (forged : ListEntry) (entries prefix : List ListEntry) → entries ≡ before ++ forged ∷ after
    → (IsGenuine forged → ⊥) → AreGenuine prefix → take (length prefix) entries ≡ prefix → take (length prefix) before ≡ prefix
genuine_begin before after forged entries prefix parts is_forged are first =
    let same : take (length prefix) (before ++ forged ∷ after) ≡ prefix = ap (take (length prefix)) (sym parts) ∙ first in
    let within = within_genuine before after forged (length prefix) is_forged (subst AreGenuine (sym same) are) in
    sym (take-append-le (length prefix) before (forged ∷ after) within) ∙ same

module _ {W : Type 0} (IsAfter : After W) (start : W) (session : Session) (log list : List ℕ) (has : HasTaken log list session)
    (old new : Option (List ℕ)) (limit : ℕ) (goal : GoalData) (search : Search) (watch : W)
    (watches : WatchesSearch IsAfter start session.checkpoint list old new limit goal search watch) where
  -- Entries that are all genuine are all tracked.
  all_tracked : (entries : List ListEntry) (forged : Option ℕ) → AreGenuine entries → IsReplayedOrForged IsAfter start entries watch forged
      → AreTracked IsAfter start entries watch
  all_tracked entries None are tracked = tracked.1
  all_tracked entries (Some position) are (first, tracked) = absurd (none_forged entries position are first)

  -- Where nothing is wrong with the list, it is tracked whole.
  pub watches_more : (known : Checkpoint) → search.whole ≡ Ok known
      → WatchesMore IsAfter start log list old new limit (record { log = session.log; checkpoint = known }) watch
  watches_more known is = by (subst (IsWhole session.checkpoint list old new limit watches.searches.entries) is watches.searches.whole)
    where
      by : IsWhole session.checkpoint list old new limit watches.searches.entries (Ok known)
          → WatchesMore IsAfter start log list old new limit (record { log = session.log; checkpoint = known }) watch
      by (more, came, reading, checkpoint, before) =
          let same = one_list reading checkpoint.list_is in
          record {
            takes = record { more = more; came = came; taken = taken_as has checkpoint before };
            tracked = all_tracked checkpoint.entries watches.forged checkpoint.genuine
                (subst (λ (l : List ListEntry). IsReplayedOrForged IsAfter start l watch watches.forged) same watches.watched);
          }

  -- A confirmed prefix is tracked, with genuine entries that follow it.
  module _ (at : Checkpoint) (found : search.prefix ≡ Some at) where
    abbrev taken : IsPrefixTaken log list old new limit goal session.checkpoint.entries (record { log = session.log; checkpoint = at })
        (record { entries = search.entries; unconfirmed = wrong_with search.whole })
    taken = prefix_taken session log list has old new limit goal search watches.searches at found

    pub watches_prefix : WatchesPrefix IsAfter start log list old new limit goal session.checkpoint.entries (record { log = session.log; checkpoint = at })
        (record { entries = search.entries; unconfirmed = wrong_with search.whole }) watch
    watches_prefix = by watches.forged watches.watched
      where
        at_here : IsConfirmedAt (algs_in has.table) has.events goal session.checkpoint (list ++ watches.searches.came) watches.searches.entries at
        at_here = here session log list has old new limit goal search watches.searches at found

        by : (forged : Option ℕ) → IsReplayedOrForged IsAfter start watches.searches.entries watch forged
            → WatchesPrefix IsAfter start log list old new limit goal session.checkpoint.entries (record { log = session.log; checkpoint = at })
            (record { entries = search.entries; unconfirmed = wrong_with search.whole }) watch
        by None tracked = record { prefix = taken; all = watches.searches.entries; tracked = tracked.1; first = at_here.first }
        by (Some position) (first, tracked) = record {
          prefix = taken;
          all = first.before;
          tracked = tracked;
          first = genuine_begin first.before first.after first.forged watches.searches.entries at_here.prefix first.parts first.is_forged
              at_here.confirmed.genuine at_here.first;
        }

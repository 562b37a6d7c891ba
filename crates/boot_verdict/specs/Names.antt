-- What other crates name of the definitions of `boot_verdict`.
pub use Rattle.boot_verdict.specs.Checkpoints.{IsCheckpoint, IsMoreFault, most_after}
pub use Rattle.boot_verdict.specs.Isolation.{IsListApart, IsLogApart, are_none, extending_from, first_extending, first_stray, list_register, stray_from}
pub use Rattle.boot_verdict.specs.ListReplays.{AreTracked, EndsWith, HasReplayed, IsReplayedOrForged, Replays, ReplaysAll, ReplaysMore, ReplaysWhole, StopsAt, StopsWithin, Watches, WatchesAll, WatchesUpTo}
pub use Rattle.boot_verdict.specs.ListSources.{CameFrom, CameWhole, FailsFor, HoldsGenuineList, IsListFaultAfter, IsSound, failures_after_list}
pub use Rattle.boot_verdict.specs.ListVerdicts.{IsListVerdict, ListVerdict, list_matches, list_row_on, list_verdict_of, list_verdict_on, pcr_after_list, required_list_matches}
pub use Rattle.boot_verdict.specs.Positions.{AreLocated, all_found, first_position, is_found, is_reached, located_on, pcr_after, position_after, position_of_prefix, position_on, reached_after}
pub use Rattle.boot_verdict.specs.Replays.{IsListStart, every_alg}
pub use Rattle.boot_verdict.specs.Requirements.{HasMatch, IsRequirementText, bind_list, expected_of_rows, is_complete, is_complete_in, is_missing, is_of, required_found, required_matches, states}
pub use Rattle.boot_verdict.specs.Steps.{OfEntry, OfEvent, Step, digest_of_step, entries_as_steps, events_as_steps, has_register, least_prefix, pcr_at_reset, prefixes, stepped, steps_of, value_after}
pub use Rattle.boot_verdict.specs.Tracking.{After, AreAfter, BanksAfter, register_of, step_of}
pub use Rattle.boot_verdict.specs.Verdicts.{IsForged, IsVerdict, IsVerdictFrom, IsVerdictUnder, IsVerdictUnderFrom, IsVerifyFault, IsVerifyFaultFrom, ReadsAsLog, Verdict, aggregate_of, aggregate_state, aggregate_told, aggregate_under, aggregate_with, booted_aggregate, fault_of_list, fault_of_log, fault_of_reading, is_good, is_match, is_old, is_value, matches, or_old, pcr_after_log, pcr_after_log_and_list, plain_rule, recorded_aggregate, recorded_by_any, recorded_in, row_on, row_state, state_matches, state_under, taken_by, told_aggregate, told_in, verdict_of, verdict_on, verdict_under, wide_rule}
pub use Rattle.boot_verdict.specs.WatchedVerdicts.{HaveRegisters, WatchesVerdict}
pub use Rattle.boot_verdict.specs.Words.{aggregate_word, unconfirmed_entry, unconfirmed_kind, unconfirmed_message, unconfirmed_number}
pub use Rattle.boot_verdict.specs.parts.Kept.{HaveSame, algs_of, is_asked}
pub use Rattle.boot_verdict.specs.parts.LogPositions.{AreAtReset, IsTracked, position_at_reset, row_at_reset}
pub use Rattle.boot_verdict.specs.parts.RowTrackers.{IsRowTrackerAfter, located_after, looked, looked_at, position_with}
pub use Rattle.boot_verdict.specs.parts.Rows.{row_of}

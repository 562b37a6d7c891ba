use Rattle.std.proofs.Common.{List, length}
use Rattle.std.specs.List.{AllByRecursion}
use Rattle.boot_log.specs.Names.{LogEvent, log_bytes}
use Rattle.boot_answers.specs.RegisterEvents.{HasGiven, unread_of}
use Rattle.boot_answers.specs.SecureBoot.{IsBefore, policy_register}
use Rattle.boot_answers.proofs.secure_boot_state.told_in.Given as goal

abbrev pub invariant-loop-event : goal.invariant-loop-event
invariant-loop-event l =
    (given : List LogEvent) × HasGiven (log_bytes l.log) policy_register given l.events × AllByRecursion (IsBefore l.alg) given

abbrev pub decreases-loop-event : goal.decreases-loop-event
decreases-loop-event l = length (unread_of l.events)

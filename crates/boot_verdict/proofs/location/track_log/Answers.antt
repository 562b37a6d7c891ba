use Rattle.boot_verdict.specs.declared.steps.RowTracker.{RowTracker}
use Rattle.std.proofs.Common.{length}
use Rattle.boot_log.specs.Names.{algs_in}
use Rattle.boot_verdict.proofs.KeptLaws.{at_reset}
use Rattle.boot_verdict.proofs.PositionLaws.{tracker_none}
use Rattle.boot_verdict.proofs.location.track_log.Goals as goal

pub returns : goal.returns
returns c =
    let banks = c.banks_for-banks.result in
    let start : RowTracker = record { banks = banks; rows = c.in_ok-rows.rows } in
    λ table events is. record {
      start = start;
      reset = at_reset (algs_in table) events c.args.expected.now banks c.reset_registers.result c.banks_for-banks.ensures.asked (c.reset_registers.ensures table events is);
      rows = c.in_ok-rows.ensures;
      after = c.track_events.ensures start _ table events c.events.ensures.none is
          (tracker_none banks (length events) c.args.expected.now c.in_ok-rows.rows c.in_ok-rows.ensures);
    }

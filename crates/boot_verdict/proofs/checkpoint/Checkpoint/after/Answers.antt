use Rattle.std.proofs.Common.{[], refl}
use Rattle.boot_verdict.proofs.StepLaws.{none_taken, replayed_after}
use Rattle.boot_verdict.proofs.checkpoint.Checkpoint.after.Goals as goal

pub returns-clause-known : goal.returns-clause-known
returns-clause-known c =
    λ list all size. (
      record {
        entries = all.entries;
        list_is = all.reading;
        genuine = all.genuine;
        replayed = replayed_after c.args.before c.args.replay.tracker all.entries (all.tracked c.args.before 0 [] refl (none_taken c.args.before));
        count = all.replays.count;
        size = size;
        recorded = all.replays.recorded;
        told = all.replays.told;
        stray = all.replays.stray;
      },
      refl,
    )

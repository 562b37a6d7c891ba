use Rattle.std.proofs.Common.{refl}
use Rattle.boot_verdict.proofs.StepLaws.{followed_by}
use Rattle.boot_verdict.proofs.checkpoint.Checkpoint.replay.Goals as goal

pub returns-clause-replays : goal.returns-clause-replays
returns-clause-replays c =
    λ list is.
    let tracked = followed_by c.args.self.now.before c.args.self.now.after is.entries is.replayed in (
      record {
        entries = is.entries;
        reading = is.list_is;
        replays = record { count = is.count; recorded = is.recorded; told = is.told; stray = is.stray; replayed = (is.genuine, tracked) };
        genuine = is.genuine;
        tracked = tracked;
      },
      refl,
    )

use Rattle.std.proofs.Common.{refl}
use Rattle.judging.proofs.SessionLaws.{most_at_first, no_entries}
use Rattle.judging.proofs.sessions.session_of.Goals as goal

pub returns-in-Ok-clause-started : goal.returns-in-Ok-clause-started
returns-in-Ok-clause-started c =
    let t = c.in-Ok.ensures.taken in
    let none = no_entries c.args.log.now c.in-Ok.session t in
    rw c.in-None.is (record {
      valid = record { table = t.table; events = t.events; log_is = t.log_is };
      boot = tt;
      takes = λ taken is. rw is t;
      count = none;
      most = λ place. most_at_first place c.in-Ok.session.checkpoint none t.checkpoint.size;
    })

pub returns-in-Ok-resume-clause-started : goal.returns-in-Ok-resume-clause-started
returns-in-Ok-resume-clause-started c =
    let boot = c.in-Ok-resume.ensures.boot in
    rw c.in-Some.is (record {
      valid = record { table = boot.table; events = boot.events; log_is = boot.log_is };
      boot = boot;
      takes = c.in-Ok-resume.ensures.taken;
      count = rw c.in-Ok-resume.ensures.checkpoint refl;
      most = λ place. rw c.in-Ok-resume.ensures.checkpoint refl;
    })

use Rattle.std.proofs.Common.{sym, ◌∙◌}
use Rattle.boot_verdict.proofs.VerdictLaws.{log_viewed}
use Rattle.growing_lists.proofs.SessionLaws.{of_boot, same_of_boot}
use Rattle.growing_lists.proofs.session.Session.resume.Goals as goal

pub returns-in-Err-clause-only : goal.returns-in-Err-clause-only
returns-in-Err-clause-only c = λ boot. (rw c.in-Err.is at c.new.ensures.only) boot.table boot.events boot.log_is

pub returns-then-not-are_same_banks-clause-only : goal.returns-then-not-are_same_banks-clause-only
returns-then-not-are_same_banks-clause-only c =
    λ boot.
    let found = rw c.in-Ok.is at c.new.ensures.found in
    let viewed = log_viewed found boot.log_is in
    sym c.if-not-are_same_banks.true
    ∙ c.are_same_banks.ensures.only (same_of_boot c.args.log.now c.args.checkpoint c.registers.result boot (c.registers.ensures boot.table boot.events viewed))

pub returns-clause-boot : goal.returns-clause-boot
returns-clause-boot c =
    let found = rw c.in-Ok.is at c.new.ensures.found in
    let sound = rw c.in-Ok.is at c.new.ensures.sound in
    let viewed = log_viewed found sound.2 in
    of_boot c.args.log.now c.args.checkpoint c.registers.result sound.0 sound.1 sound.2 (c.registers.ensures sound.0 sound.1 viewed)
    (c.are_same_banks.ensures.same c.if-not-are_same_banks.false)

pub returns-clause-taken : goal.returns-clause-taken
returns-clause-taken c =
    let found = rw c.in-Ok.is at c.new.ensures.found in
    let sound = rw c.in-Ok.is at c.new.ensures.sound in
    let viewed = log_viewed found sound.2 in
    let boot = of_boot c.args.log.now c.args.checkpoint c.registers.result sound.0 sound.1 sound.2 (c.registers.ensures sound.0 sound.1 viewed)
    (c.are_same_banks.ensures.same c.if-not-are_same_banks.false) in
    λ list is. record {
      table = boot.table;
      events = boot.events;
      log_is = boot.log_is;
      same_log = found;
      start = boot.start;
      checkpoint = is;
    }

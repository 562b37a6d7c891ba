use Rattle.boot_verdict.proofs.IsolationLaws.{not_ten, stray_is_here, stray_not_here, stray_stays, ten}
use Rattle.boot_verdict.proofs.isolation.stray_with.Goals as goal

pub returns-in-Some : goal.returns-in-Some
returns-in-Some c =
    λ entries count is.
    rw c.in-Some.is (stray_stays entries c.args.entry.now c.in-Some.field-0 c.args.number (rw c.in-Some.is at is) count)

pub returns-in-None : goal.returns-in-None
returns-in-None c =
    λ entries count is.
    rw c.register-in-None.ensures.value
    (stray_is_here entries c.args.entry.now c.args.number (not_ten c.args.entry.now c.register.result c.register.ensures.value
    c.if-register-ne-LIST_REGISTER.true) (rw c.in-None.is at is) count)

pub returns-in-None-2 : goal.returns-in-None-2
returns-in-None-2 c =
    λ entries count is.
    stray_not_here entries c.args.entry.now c.args.number (ten c.args.entry.now c.register.result c.register.ensures.value
    c.if-register-ne-LIST_REGISTER.false) (rw c.in-None-2.is at is) count

use Rattle.std.proofs.Common.{◌≡◌, ◌*◌, arith}
use Rattle.boot_answers.proofs.CommonLaws.{none_filled}
use Rattle.boot_answers.proofs.alike_events.lengths.Goals as goal

pub loop-first-init : goal.loop-first-init
loop-first-init c = (
  omega arith,
  none_filled c.args.now.now c.args.before.now c.in_ok-cells.cells.items c.requires.now c.requires.before
      (c.in_ok-cells.ensures.items_if_clones_equal (λ y is. cc)),
)

pub returns : goal.returns
returns c =
    let none : c.loop-first.first * 257 ≡ 0 = omega (arith, c.loop-first-test.false) in
    rw none at c.loop-first.invariant.1

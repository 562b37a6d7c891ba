use Rattle.std.proofs.Common.{◌≡◌, ◌+◌, ◌-◌, ◌*◌, ◌<◌, arith, length}
use Rattle.boot_answers.proofs.CommonLaws.{cell_read, next_cell, row_begins, small_cell}
use Rattle.boot_answers.proofs.alike_events.write_row.Goals as goal

pub loop-other-init : goal.loop-other-init
loop-other-init c = (
  omega arith,
  row_begins c.args.now.now c.args.before.now c.args.cells.now.items c.requires.now c.requires.before c.args.first c.requires.row c.requires.filled,
)

pub length_of-requires : goal.length_of-requires
length_of-requires c =
    let (within, filled) = c.loop-other.invariant in
    let other = c.loop-other.other - 1 in
    let cells = c.loop-other.cells.items in
    let here : c.cell_at.result ≡ (c.args.first + 1) * 257 + (other + 1) = omega (arith, c.cell_at.ensures.place, c.loop-other-test.true) in
    let small = small_cell c.args.now.now c.args.before.now cells _ c.args.first other filled c.requires.now c.requires.row
    (omega (arith, within, c.loop-other-test.true)) (omega (arith, c.loop-other-test.true, c.requires.before, within)) in
    omega (
      arith,
      small,
      cell_read cells _ c.cell_at.result c.index-without_both.result.now c.index-without_both.ensures here
          (omega (arith, filled.size, c.cell_at.ensures.within)),
    )

pub loop-other-preserved : goal.loop-other-preserved
loop-other-preserved c =
    let (within, filled) = c.loop-other.invariant in
    let first = c.args.first in
    let other = c.loop-other.other - 1 in
    let cells = c.loop-other.cells.items in
    let one_more : other + 1 ≡ c.loop-other.other = omega (arith, c.loop-other-test.true) in
    let inside : other < length c.args.before.now = omega (arith, within, one_more) in
    let both_at : c.cell_at.result ≡ (first + 1) * 257 + (other + 1) = omega (arith, c.cell_at.ensures.place, one_more) in
    let first_at : c.cell_at-in-loop-other.result ≡ (first + 1) * 257 + other = omega (arith, c.cell_at-in-loop-other.ensures.place, one_more) in
    let other_at : c.cell_at-in-loop-other-2.result ≡ first * 257 + (other + 1) = omega (arith, c.cell_at-in-loop-other-2.ensures.place, one_more) in
    let here : c.cell_at-in-loop-other-3.result ≡ first * 257 + other = omega (arith, c.cell_at-in-loop-other-3.ensures.place, one_more) in
    let both = cell_read cells _ _ c.index-without_both.result.now c.index-without_both.ensures both_at
    (omega (arith, filled.size, c.cell_at.ensures.within)) in
    let without_first = cell_read cells _ _ c.index-without_first.result.now c.index-without_first.ensures first_at
    (omega (arith, filled.size, c.cell_at-in-loop-other.ensures.within)) in
    let without_other = cell_read cells _ _ c.index-without_other.result.now c.index-without_other.ensures other_at
    (omega (arith, filled.size, c.cell_at-in-loop-other-2.ensures.within)) in
    let next = rw (both, without_first, without_other) at c.length_of.ensures in (
      omega (arith, within),
      rw here (next_cell c.args.now.now c.args.before.now cells c.requires.now c.requires.before first other c.length_of.result
          c.digest_at.result c.digest_at-in-loop-other.result c.are_one-is_one.result c.requires.row inside
          c.digest_at.ensures c.digest_at-in-loop-other.ensures c.are_one-is_one.ensures (rw one_more filled) next),
    )

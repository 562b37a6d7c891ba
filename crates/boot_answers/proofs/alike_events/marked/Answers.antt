use Rattle.std.proofs.Common.{◌≡◌, ◌⊎◌, ◌+◌, ◌<◌, ◌≤◌, true, false, [], ◌∷◌, arith, length, inl, inr}
use Rattle.std.proofs.lemmas.Bool.{iff_false}
use Rattle.std.proofs.lemmas.List.{length-append}
use Rattle.boot_answers.proofs.CommonLaws.{all_marked, both_common, both_long, first_long, first_passed, other_long, other_passed}
use Rattle.boot_answers.proofs.alike_events.marked.Goals.{then-loop-common-test+else-len-before, else-loop-common-test}
use Rattle.boot_answers.proofs.alike_events.marked.Goals as goal

pub loop-common-preserved-in-Continue-branch-2 : goal.loop-common-preserved-in-Continue-branch-2
loop-common-preserved-in-Continue-branch-2 c =
    let (within, within_too, common, so_long) = c.loop-common.invariant in
    let marks = c.loop-common.common.now.items in
    let others = c.loop-common.common.before.items in
    let now = c.args.now.now in
    let before = c.args.before.now in
    let cells = c.args.cells.now in
    let x = c.digest_at.result in
    let y = c.digest_at-in-loop-common.result in
    let first_is : c.len-first.result ≡ length marks = omega (arith, c.len-first.ensures) in
    let other_is : c.len-other.result ≡ length others = omega (arith, c.len-other.ensures) in
    let inside : length marks < length now = omega (arith, c.loop-common-test.true, c.len.ensures) in
    let inside_too : length others < length before = omega (arith, c.if-len-before.true, c.len-in-loop-common.ensures) in
    let x_is = rw first_is at c.digest_at.ensures in
    let y_is = rw other_is at c.digest_at-in-loop-common.ensures in
    let one = c.are_one-is_one.ensures.0 c.if-is_one.true in
    rw (c.in_ok-push.ensures.items, c.in_ok-push-2.ensures.items) (
      omega (arith, inside, length-append marks (true ∷ [])),
      omega (arith, inside_too, length-append others (true ∷ [])),
      both_common now before cells marks others x y c.requires.filled inside inside_too x_is y_is one common,
      both_long now before cells marks others x y c.requires.filled inside inside_too x_is y_is one so_long,
    )

pub loop-common-preserved-in-Continue-branch-3 : goal.loop-common-preserved-in-Continue-branch-3
loop-common-preserved-in-Continue-branch-3 c =
    let (within, within_too, common, so_long) = c.loop-common.invariant in
    let marks = c.loop-common.common.now.items in
    let others = c.loop-common.common.before.items in
    let now = c.args.now.now in
    let before = c.args.before.now in
    let cells = c.args.cells.now in
    let x = c.digest_at.result in
    let y = c.digest_at-in-loop-common.result in
    let first_is : c.len-first.result ≡ length marks = omega (arith, c.len-first.ensures) in
    let other_is : c.len-other.result ≡ length others = omega (arith, c.len-other.ensures) in
    let inside : length marks < length now = omega (arith, c.loop-common-test.true, c.len.ensures) in
    let inside_too : length others < length before = omega (arith, c.if-len-before.true, c.len-in-loop-common.ensures) in
    let x_is = rw first_is at c.digest_at.ensures in
    let y_is = rw other_is at c.digest_at-in-loop-common.ensures in
    let not_one = iff_false c.are_one-is_one.ensures c.if-is_one.false in
    let first_left = rw (first_is, other_is) at c.length_at-without_first.ensures in
    let other_left = rw (first_is, other_is) at c.length_at-without_other.ensures in
    rw c.in_ok-push-3.ensures.items (
      omega (arith, inside, length-append marks (false ∷ [])),
      within_too,
      first_passed now before marks others common,
      first_long now before cells marks others x y c.requires.filled inside inside_too x_is y_is not_one
          (omega (arith, first_left, other_left, c.if-without_other-without_first.true)) so_long,
    )

pub loop-common-preserved : goal.loop-common-preserved
loop-common-preserved c =
    let (within, within_too, common, so_long) = c.loop-common.invariant in
    let marks = c.loop-common.common.now.items in
    let others = c.loop-common.common.before.items in
    let now = c.args.now.now in
    let before = c.args.before.now in
    let cells = c.args.cells.now in
    let x = c.digest_at.result in
    let y = c.digest_at-in-loop-common.result in
    let first_is : c.len-first.result ≡ length marks = omega (arith, c.len-first.ensures) in
    let other_is : c.len-other.result ≡ length others = omega (arith, c.len-other.ensures) in
    let inside : length marks < length now = omega (arith, c.loop-common-test.true, c.len.ensures) in
    let inside_too : length others < length before = omega (arith, c.if-len-before.true, c.len-in-loop-common.ensures) in
    let x_is = rw first_is at c.digest_at.ensures in
    let y_is = rw other_is at c.digest_at-in-loop-common.ensures in
    let not_one = iff_false c.are_one-is_one.ensures c.if-is_one.false in
    let first_left = rw (first_is, other_is) at c.length_at-without_first.ensures in
    let other_left = rw (first_is, other_is) at c.length_at-without_other.ensures in
    rw c.in_ok-push-4.ensures.items (
      within,
      omega (arith, inside_too, length-append others (false ∷ [])),
      other_passed now before marks others common,
      other_long now before cells marks others x y c.requires.filled inside inside_too x_is y_is not_one
          (omega (arith, first_left, other_left, c.if-without_other-without_first.false)) so_long,
    )

pub returns : goal.returns
returns c =
    let (within, within_too, common, so_long) = c.loop-common.invariant in
    let marks = c.loop-common.common.now.items in
    let others = c.loop-common.common.before.items in
    let end : (length c.args.now.now ≤ length marks) ⊎ (length c.args.before.now ≤ length others) = elim c.loop-common-test.branch [
      | then-loop-common-test+else-len-before w ↦ inr (omega (arith, w.if-len-before.false, w.len-in-loop-common.ensures))
      | else-loop-common-test w ↦ inl (omega (arith, w.loop-common-test.false, c.len.ensures))
    ] in
    all_marked c.args.now.now c.args.before.now c.args.cells.now marks others c.requires.filled within within_too end common so_long

use Rattle.std.proofs.Common.{inl, inr, refl, sym, arith, length, ◌-◌, None}
use Rattle.std.proofs.lemmas.Result.{err_from_is_err_and}
use Rattle.pcr_values.specs.Names.{IsBankRangeText, bank_after}
use Rattle.pcr_values.proofs.SelectionLaws.{bank_after_more, begins_with_range, first_wrong, part_selects, reads_more, reads_none}
use Rattle.pcr_values.proofs.selection.Selection.from_text.Goals as goal

pub loop-rest-init : goal.loop-rest-init
loop-rest-init c = rw c.new-ranges.ensures.items (reads_none c.args.text, refl)

pub returns-in_default-from_text-clause-only : goal.returns-in_default-from_text-clause-only
returns-in_default-from_text-clause-only c =
    λ ranges is.
    let inv = rw c.in-Some.is at c.loop-rest.invariant in
    let new = part_selects c.args.text.now c.part_at.result.0.now c.loop-rest.ranges.items ranges c.in-Some.left c.part_at.result.1
    inv.0 c.part_at.ensures.part is in
    absurd (c.in_default-from_text.ensures.none new.0 (rw inv.1 new.1))

pub returns-in_default-from_text-clause-fault : goal.returns-in_default-from_text-clause-fault
returns-in_default-from_text-clause-fault c =
    let inv = rw c.in-Some.is at c.loop-rest.invariant in
    let begins = inv.0.begins in
    inr (
      length c.args.text.now - length c.in-Some.left.now,
      refl,
      first_wrong c.args.text.now c.part_at.result.0.now c.loop-rest.ranges.items (length c.args.text.now - length c.in-Some.left.now)
          c.in-Some.left c.part_at.result.1 inv.0 c.part_at.ensures.part
          (λ bank is. c.in_default-from_text.ensures.none bank (rw inv.1 is)) (omega (arith, begins)),
    )

pub returns-in_err-push-clause-fault : goal.returns-in_err-push-clause-fault
returns-in_err-push-clause-fault c =
    let inv = rw c.in-Some.is at c.loop-rest.invariant in
    let p = err_from_is_err_and c.from_residual.result c.from_residual.ensures.1 in
    rw (p.1, p.2) (inl (
      refl,
      begins_with_range c.args.text.now c.part_at.result.0.now c.loop-rest.ranges.items c.in-Some-from_text.selected c.in-Some.left
          c.part_at.result.1 inv.0 c.part_at.ensures.part (rw inv.1 at c.in-Some-from_text.ensures.found),
    ))

pub loop-rest-preserved : goal.loop-rest-preserved
loop-rest-preserved c =
    let inv = rw c.in-Some.is at c.loop-rest.invariant in
    let is : IsBankRangeText (bank_after None c.loop-rest.ranges.items) c.part_at.result.0.now c.in-Some-from_text.selected =
    rw inv.1 at c.in-Some-from_text.ensures.found in
    rw c.in_ok-push.ensures.items (
      reads_more c.args.text.now c.part_at.result.0.now c.loop-rest.ranges.items c.in-Some-from_text.selected c.in-Some.left c.part_at.result.1
          inv.0 c.part_at.ensures.part c.part_at.ensures.begins is,
      sym (bank_after_more None c.loop-rest.ranges.items c.in-Some-from_text.selected),
    )

use Rattle.std.proofs.Common.{inl, inr, refl}
use Rattle.std.proofs.lemmas.Result.{err_from_is_err_and}
use Rattle.confirming.proofs.PlaceLaws.{not_empty, reads_all, reads_more, reads_none, reads_nothing}
use Rattle.confirming.proofs.places.read_matching.Goals as goal

pub loop-rest-init : goal.loop-rest-init
loop-rest-init c = rw c.new-places.ensures.items (reads_nothing c.args.text (not_empty _ c.args.text.now c.is_empty.ensures c.if-is_empty.false))

pub returns-in_default-place_named-clause-fault : goal.returns-in_default-place_named-clause-fault
returns-in_default-place_named-clause-fault c =
    let reads = rw c.in-Some.is at c.loop-rest.invariant in
    inr (
      refl,
      reads_none c.args.text.now c.part_at.result.0.now c.loop-rest.places.items c.in-Some.left c.part_at.result.1 reads c.part_at.ensures
          c.in_default-place_named.ensures.none,
    )

pub returns-in_err-push-clause-fault : goal.returns-in_err-push-clause-fault
returns-in_err-push-clause-fault c =
    let p = err_from_is_err_and c.from_residual.result c.from_residual.ensures.1 in rw (p.1, p.2) (inl refl)

pub loop-rest-preserved : goal.loop-rest-preserved
loop-rest-preserved c =
    let reads = rw c.in-Some.is at c.loop-rest.invariant in
    rw c.in_ok-push.ensures.items
    (reads_more c.args.text.now c.part_at.result.0.now c.loop-rest.places.items c.in-Some.left c.part_at.result.1 reads c.part_at.ensures
    c.in-Some-place_named.place c.in-Some-place_named.ensures.found.0 c.in-Some-place_named.ensures.found.1)

pub returns-clause-found : goal.returns-clause-found
returns-clause-found c = reads_all c.args.text.now c.loop-rest.places.items (rw c.in_default.is at c.loop-rest.invariant)

use Rattle.std.proofs.Common.{arith}
use Rattle.confirming.proofs.PlaceLaws.{others_of, place_more, places_written}
use Rattle.confirming.proofs.places.write_matching.Goals as goal

pub loop-place-preserved : goal.loop-place-preserved
loop-place-preserved c =
    place_more c.append_place.new.text.items (others_of c.args.places.now) c.loop-place.place-index _ c.loop-place.text.items c.push.new.self.items _
    c.loop-place-test.true c.loop-place.invariant c.in_ok-push.ensures.items c.in_ok-append_place-2.ensures

pub returns : goal.returns
returns c =
    places_written c.args.places.now _ c.loop-place.place-index c.new-text.result.items c.append_place.new.text.items c.loop-place.text.items
    (omega (arith, c.in-len1-up.len_at_least)) c.new-text.ensures.items c.in_ok-append_place.ensures c.loop-place.invariant c.loop-place-test.false

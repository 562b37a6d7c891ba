use Rattle.std.proofs.Common.{◌∙◌}
use Rattle.confirming.proofs.PlaceLaws.{place_written}
use Rattle.confirming.proofs.places.append_place.Goals as goal

pub returns : goal.returns
returns c =
    place_written c.args.text.now.items _ _ _ _ _ c.args.place.now c.in_ok-extend_from_slice.ensures.items c.in_ok-push.ensures.items
    c.in_ok-extend_from_slice-2.ensures.items (c.as_bytes.ensures.value ∙ c.name.ensures) (c.as_bytes-2.ensures.value ∙ c.format.ensures.text)

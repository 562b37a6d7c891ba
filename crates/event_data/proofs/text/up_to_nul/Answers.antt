use Rattle.event_data.proofs.NulUnitLaws.{way_goes_on}
use Rattle.event_data.proofs.text.up_to_nul.Goals as goal

pub loop-later-preserved : goal.loop-later-preserved
loop-later-preserved c =
    way_goes_on c.args.bytes.now c.loop-later.rest.now c.in-Some.later.now c.loop-later.invariant c.in-Some.ensures.unit c.in-Some.ensures.rest

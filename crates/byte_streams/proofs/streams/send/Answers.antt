use Rattle.byte_streams.proofs.SinkLaws.{IsSent-more, take-drop-all}
use Rattle.byte_streams.proofs.streams.send.Goals as goal

pub loop-rest-preserved : goal.loop-rest-preserved
loop-rest-preserved g c =
    let n = c.in_ok-count.count in
    let rest = c.loop-rest.rest.now in
    IsSent-more _ _ _ _ rest _ n c.loop-rest.invariant c.in_ok-count.ensures (take-drop-all n rest)

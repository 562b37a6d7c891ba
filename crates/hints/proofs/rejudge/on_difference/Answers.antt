use Rattle.std.proofs.Common.{string_bytes}
use Rattle.hints.proofs.HintLaws.{causes_told, nothing_seen}
use Rattle.hints.proofs.rejudge.on_difference.Goals as goal

pub returns-in-None-clause-told : goal.returns-in-None-clause-told
returns-in-None-clause-told g c =
    nothing_seen _ _ _ _ _ c.in-Answer.is (c.request_of.ensures.asked (cc (c.deref.ensures.value, c.in_ok-known.ensures.inputs)))
    c.in-None.ensures.unseen c.new-in-None.ensures.bytes

pub returns-clause-told : goal.returns-clause-told
returns-clause-told g c =
    causes_told (g.F.Files.inputs c.args.files.now) _ _ _ _ _ string_bytes c.on_causes.result c.in-Answer.is
    (c.request_of.ensures.asked (cc (c.deref.ensures.value, c.in_ok-known.ensures.inputs))) c.in-Some.ensures.inputs c.in-Some.ensures.seen
    c.on_causes.ensures.told

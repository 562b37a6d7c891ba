use Rattle.std.proofs.Common.{◌≡◌}
use Rattle.std.proofs.lemmas.Iterator.Splits.{YieldsList-from_str_split}
use Rattle.std.proofs.lemmas.Iterator.Consumers.{YieldsList-end}
use Rattle.std.specs.Str.Iter.{split_text}
use Rattle.measuring.specs.Measuring.{byte_of}
use Rattle.measuring.proofs.name_list.names_in.Goals as goal

pub returns : goal.returns
returns c =
    let text : split_text c.into_iter-name-iterator.result ≡ c.args.text.now = cc c.split-name-items.ensures.text in
    let parts = YieldsList-from_str_split (byte_of c.args.ends) c.args.text.now (rw (← c.end_char.ensures.byte) c.end_char.ensures.ascii)
    text (cc c.split-name-items.ensures.has_more) (cc (c.split-name-items.ensures.pattern, c.end_char.ensures.byte)) in
    let all = YieldsList-end parts c.loop-name.yielded _ c.loop-name.yielded_by _ _ c.in-None.is c.next.ensures.steps in
    record { names = rw all.0 at c.loop-name.invariant }

use Rattle.std.proofs.lemmas.Result.{on_ok_weaker}
use Rattle.judging.specs.Requests.{held_bytes}
use Rattle.confirming.proofs.boot.append_earlier.Goals as goal

pub returns-clause-lines : goal.returns-clause-lines
returns-clause-lines g c =
    on_ok_weaker c.append_since.result
    (λ lines table events is.
    let (text, differences, added) = lines table events is in
    (text, (held_bytes c.in_ok-held.held, c.in_ok-held.ensures.all, rw c.bytes.ensures at differences), added))
    c.append_since.ensures.lines

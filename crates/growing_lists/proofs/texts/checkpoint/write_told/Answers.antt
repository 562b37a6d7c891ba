use Rattle.std.proofs.Common.{append_assoc}
use Rattle.growing_lists.proofs.texts.checkpoint.write_told.Goals as goal

pub returns-in-None : goal.returns-in-None
returns-in-None g c = rw c.in-None.is c.send.ensures

pub returns-in-Some : goal.returns-in-Some
returns-in-Some g c =
    let sent = rw (c.as_bytes-name.ensures.value, c.name.ensures, c.alg.ensures, c.digits_of-digits.ensures) at c.send_pieces.ensures in
    rw c.in-Some.is (simp append_assoc sent)

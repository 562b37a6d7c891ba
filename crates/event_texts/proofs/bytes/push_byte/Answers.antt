use Rattle.std.proofs.Common.{arith}
use Rattle.event_texts.proofs.HexLaws.{two_digits}
use Rattle.event_texts.proofs.bytes.push_byte.Goals as goal

pub returns : goal.returns
returns c =
    let h = rw (c.laid_out.ensures, c.in_radix.ensures) at c.write.ensures.bytes in
    rw (← two_digits c.args.byte (omega arith)) h

use Rattle.std.proofs.Common.{arith}
use Rattle.byte_fields.proofs.Steps.{IsBytes}
use Rattle.event_data.specs.Names.{numbers_left}
use Rattle.event_data.proofs.SaysLaws.{odd_order, even_order}
use Rattle.event_data.proofs.value_reader.order_content.Goals as goal

pub returns-then-bytes-ne0 : goal.returns-then-bytes-ne0
returns-then-bytes-ne0 c =
    let fits : IsBytes c.args.bytes.now = λ i. omega (arith, c.type_inv.bytes i) in
    odd_order c.args.bytes.now fits c.if-bytes-ne0.true

pub returns : goal.returns
returns c =
    let fits : IsBytes c.args.bytes.now = λ i. omega (arith, c.type_inv.bytes i) in
    even_order c.args.bytes.now (numbers_left c.new.result) fits c.if-bytes-ne0.false c.new.ensures

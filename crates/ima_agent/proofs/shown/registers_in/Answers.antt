use Rattle.std.proofs.lemmas.Result.{err_from_is_err_and}
use Rattle.ima_agent.proofs.ShowingLaws.{not_decoded, refused_text}
use Rattle.ima_agent.proofs.shown.registers_in.Goals as goal

pub returns-in_err-bytes-clause-refused : goal.returns-in_err-bytes-clause-refused
returns-in_err-bytes-clause-refused c =
    let p = err_from_is_err_and c.from_residual.result c.from_residual.ensures.1 in
    rw (p.1, p.2) (not_decoded c.args.text.items _ c.in_err-bytes.ensures.fault)

pub returns-in_err-given-clause-refused : goal.returns-in_err-given-clause-refused
returns-in_err-given-clause-refused c =
    let p = err_from_is_err_and c.from_residual-in_err-given.result c.from_residual-in_err-given.ensures.1 in
    rw (p.1, p.2) (refused_text c.args.text.items c.in_ok-bytes.bytes.items _ c.in_ok-bytes.ensures.ok (rw c.deref.ensures.value at c.in_err-given.ensures.fault))

pub returns-clause-shown : goal.returns-clause-shown
returns-clause-shown c =
    let shown = rw c.deref.ensures.value at c.in_ok-given.ensures.shown in
    (c.in_ok-bytes.bytes.items, c.in_ok-given.given.checkpoint.items, c.in_ok-given.given.summary, c.in_ok-bytes.ensures.ok, shown)

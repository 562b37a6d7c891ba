use Rattle.std.proofs.lemmas.Str.{is_utf8-from_IsUtf8}
use Rattle.boot_answers.proofs.FailingTestLaws.{not_utf8}
use Rattle.boot_answers.proofs.policies.asks_narrow.Goals as goal

pub returns-in-Ok : goal.returns-in-Ok
returns-in-Ok c =
    let cases = c.in-Ok.ensures.cases in
    rw (is_utf8-from_IsUtf8 c.args.bytes.now cases.1) (rw cases.0 at c.asks_as.ensures)

pub returns-in-Err : goal.returns-in-Err
returns-in-Err c = rw (not_utf8 c.args.bytes.now c.in-Err.ensures.cases.0) c.asks_as-in-Err.ensures

use Rattle.std.proofs.lemmas.Result.{IfOk-weaker}
use Rattle.command_line.proofs.ReadLemmas.{requested_by}
use Rattle.command_line.proofs.arguments.read_words.Goals as goal

pub returns-in-Some-2-clause-request : goal.returns-in-Some-2-clause-request
returns-in-Some-2-clause-request c =
    IfOk-weaker c.plan_in.result _ _
    (λ plan is. (requested_by c.args.arguments.now c.in-Some.word.now _ plan c.in-Some.ensures.value c.deref.ensures is.0, is.1))
    c.plan_in.ensures

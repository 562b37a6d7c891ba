use Rattle.std.proofs.Common.{◌∙◌, sym}
use Rattle.boot_texts.proofs.DifferenceLaws.{compared}
use Rattle.boot_texts.proofs.differences.place_in.Goals as goal

pub returns-then-is_answering : goal.returns-then-is_answering
returns-then-is_answering c = λ table rows events others is is_too.
    compared c.args.matched.now c.args.register events others c.args.alg c.first_difference.result (sym c.is_answering.ensures.value ∙ c.if-is_answering.true)
    (c.first_difference.ensures table rows events others is is_too)

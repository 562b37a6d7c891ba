use Rattle.std.proofs.Common.{◌∷◌, ◌∙◌, ap, arith, take}
use Rattle.pcr_values.specs.Names.{split_at_separators}
use Rattle.pcr_values.proofs.SelectionLaws.{cut_first, rest_whole, uncut}
use Rattle.pcr_values.proofs.selection.part_at.Goals as goal

pub returns-in-Some-clause-part : goal.returns-in-Some-clause-part
returns-in-Some-clause-part c =
    let first = c.in-Some.ensures.0 in
    let text = c.args.text.now in
    cut_first text c.in-Some.at first.high (λ j lt. first.before j (omega arith) lt) c.in-Some.ensures.1
    ∙ ap (λ rest. take c.in-Some.at text ∷ split_at_separators rest) (rest_whole text c.in-Some.at)

pub returns-in-None-clause-part : goal.returns-in-None-clause-part
returns-in-None-clause-part c = uncut c.args.text.now (λ j lt. c.in-None.ensures j (omega arith) lt)

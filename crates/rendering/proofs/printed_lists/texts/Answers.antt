use Rattle.std.proofs.lemmas.Result.{err_from_is_err_and}
use Rattle.rendering.proofs.printed_lists.texts.Goals as goal

pub returns-in_err-line : goal.returns-in_err-line
returns-in_err-line c =
    let p = err_from_is_err_and c.from_residual.result c.from_residual.ensures.1 in rw p.1 tt

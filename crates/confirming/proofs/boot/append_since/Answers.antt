use Rattle.std.proofs.Common.{List, ℕ, subst, sym}
use Rattle.boot_log.specs.Names.{IsLog}
use Rattle.confirming.proofs.boot.append_since.Goals as goal

pub returns-clause-lines : goal.returns-clause-lines
returns-clause-lines c = λ table events is.
    let (rows, others, read) = c.in_ok-before.ensures.sound in
    let viewed = subst (λ (bytes : List ℕ). IsLog bytes rows others) (sym c.in_ok-before.ensures.found) read in
    let (text, lines, added) = c.in_ok-append_differences.ensures.lines table rows events others is viewed in
    (text, (rows, others, read, lines), added)

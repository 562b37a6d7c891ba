use Rattle.std.proofs.Common.{[], ◌∷◌, arith, refl, string_bytes}
use Rattle.hints.specs.Escaping.{is_shown}
use Rattle.hints.proofs.EscapingLaws.{all_joined, printable_is_shown}
use Rattle.hints.proofs.escapes.shown_line.Goals as goal

pub returns-clause-shown : goal.returns-clause-shown
returns-clause-shown c =
    let line = string_bytes c.in_ok-line.line in
    let feed = c.push.ensures.ascii (omega arith) in
    rw (c.in_ok-push.ensures.bytes, feed) (all_joined is_shown line (10 ∷ []) (printable_is_shown line c.in_ok-line.ensures.printable) refl)

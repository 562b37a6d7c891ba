use Rattle.std.proofs.Common.{rules, sym, ◌∙◌}
use Rattle.known_files.proofs.DigestLineLaws.{digest_here}
use Rattle.known_files.proofs.digest_line.digest_by.Goals as goal

pub returns-then-begins_with_mark : goal.returns-then-begins_with_mark
returns-then-begins_with_mark c =
    digest_here c.args.alg c.args.bytes.now c.in_ok-digits.digits.now c.in_ok-digits.after.now c.from_hex.result
    (search rules) (search rules) (sym c.begins_with_mark.ensures ∙ c.if-begins_with_mark.true) c.from_hex.ensures.found c.from_hex.ensures.value

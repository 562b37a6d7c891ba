use Rattle.std.proofs.Common.{refl}
use Rattle.boot_texts.proofs.BootLaws.{one_more}
use Rattle.boot_texts.proofs.boot_lines.append_claims.Goals as goal

pub returns : goal.returns
returns c table events is =
    let (claims, are, added) = c.in_ok-append_each.ensures table events is in
    (_, (claims, are, refl), one_more c.args.lines.now.items _ claims c.in_ok-append_word.ensures added)

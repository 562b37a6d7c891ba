use Rattle.pcr_banks.specs.Names.{digest_in}
use Rattle.pcr_banks.proofs.SetLaws.{same_bytes}
use Rattle.cells.proofs.CellLaws.{joined}
use Rattle.boot_texts.proofs.difference_lines.BootEventShown.show.Goals as goal

pub returns : goal.returns
returns c =
    let alg = c.args.self.now.alg in
    let place = rw c.boot_word.ensures at c.in_ok-show_place.ensures in
    let digest = rw (c.get.ensures, same_bytes alg (digest_in c.args.self.now.event.now.digests alg)) at c.in_ok-show_digest.ensures in
    joined place (joined digest c.show_claimed.ensures)

use Rattle.std.proofs.Common.{[], refl, sym, append-nil, inr}
use Rattle.boot_answers.proofs.FailingTestLaws.{not_told}
use Rattle.boot_texts.proofs.images.append_if_image.Goals as goal

pub returns-else-may_be_image_in : goal.returns-else-may_be_image_in
returns-else-may_be_image_in c =
    ([], (refl, inr (not_told c.may_be_image_in.result _ c.if-may_be_image_in.false c.may_be_image_in.ensures, refl)), sym (append-nil _))

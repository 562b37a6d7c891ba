use Rattle.answer_laws.proofs.ImageLaws.{told}
use Rattle.answer_laws.proofs.images.image_is_told.Goals as goal

pub returns : goal.returns
returns c = told

use Rattle.std.proofs.Common.{sym, ◌∙◌}
use Rattle.std.proofs.lemmas.Bool.Decides.{Decides-eqb}
use Rattle.std.proofs.lemmas.Slice.Eq.{slice_eq-Decides}
use Rattle.rsa_signatures.proofs.pss.has_salt.Goals as goal

pub returns : goal.returns
returns c =
    let same = slice_eq-Decides Decides-eqb _ _ _ c.eq.ensures in
    (λ t. (c.if-block-place-ne-SEPARATOR.false, same.0 t ∙ c.write_digest.ensures), λ o. same.1 (o.1 ∙ sym c.write_digest.ensures))

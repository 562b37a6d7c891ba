use Rattle.std.proofs.Common.{refl}
use Rattle.std.proofs.lemmas.Result.{on_ok_weaker}
use Rattle.boot_texts.proofs.claims.append_claim.Goals as goal

pub returns : goal.returns
returns c = on_ok_weaker c.append_if_claim.result (λ added. (_, (refl, refl), added)) c.append_if_claim.ensures

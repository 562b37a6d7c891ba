use Rattle.std.proofs.Common.{sym, subst}
use Rattle.std.specs.Prelude.{Option}
use Rattle.signed_messages.specs.declared.key.SigningScheme.{SigningScheme}
use Rattle.signed_messages.specs.Signing.{Takes}
use Rattle.signed_messages.proofs.rsa.is_signed_plainly.Goals as goal

pub returns-in-None : goal.returns-in-None
returns-in-None c = (
  λ t. let found = c.is_valid_by_any.ensures.0 t in
      let scheme : SigningScheme = record { kind = found.1; hash = found.0 } in
      (scheme, subst (λ (its : Option SigningScheme). Takes its scheme) (sym c.in-None.is) tt, found.2),
  λ found. c.is_valid_by_any.ensures.1 (found.0.hash, found.0.kind, found.2),
)

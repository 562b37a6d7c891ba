use Rattle.std.proofs.Common.{◌-◌, Some, ap, ◌∙◌, arith, length, drop}
use Rattle.byte_fields.proofs.Steps.{IsBytes-drop, IsBytes-take}
use Rattle.std.proofs.lemmas.List.{take_rest}
use Rattle.signed_messages.proofs.LayoutLaws.{laid_out, has_91, has_120, is_rsa, none_short}
use Rattle.signed_messages.proofs.pem.material_in.Goals as goal

pub returns-then-info-eq-P256_SIZE-clause-found : goal.returns-then-info-eq-P256_SIZE-clause-found
returns-then-info-eq-P256_SIZE-clause-found c =
    λ numbers key known e.
    let is = has_91 numbers c.args.info.now (laid_out numbers key c.args.info.now known e) c.if-info-eq-P256_SIZE.true in
    ap Some (c.point.ensures.found is.x is.y (take_rest c.args.info.now 27 ∙ is.place) is.same_size ∙ is.is)

pub returns-then-info-eq-P384_SIZE-clause-found : goal.returns-then-info-eq-P384_SIZE-clause-found
returns-then-info-eq-P384_SIZE-clause-found c =
    λ numbers key known e.
    let is = has_120 numbers c.args.info.now (laid_out numbers key c.args.info.now known e) c.if-info-eq-P384_SIZE.true in
    ap Some (c.point-then-info-eq-P384_SIZE.ensures.found is.x is.y (take_rest c.args.info.now 24 ∙ is.place) is.same_size ∙ is.is)

pub returns-then-info-clause-found : goal.returns-then-info-clause-found
returns-then-info-clause-found c =
    λ numbers key known e.
    absurd (none_short numbers c.args.info.now (laid_out numbers key c.args.info.now known e) c.if-info.true)

pub returns-clause-found : goal.returns-clause-found
returns-clause-found c =
    λ numbers key known e.
    ap Some (is_rsa numbers c.args.info.now (laid_out numbers key c.args.info.now known e) c.if-info-eq-P256_SIZE.false
    c.if-info-eq-P384_SIZE.false)

pub returns-clause-bytes : goal.returns-clause-bytes
returns-clause-bytes c =
    let info = c.args.info.now in
    IsBytes-take (length info - 5 - 33) (drop 33 info) (IsBytes-drop 33 info (λ i. omega (arith, c.type_inv.info i)))

use Rattle.std.proofs.Common.{◌∷◌, ◌++◌, ◌∙◌, ap, decimal, sym}
use Rattle.pcr_values.proofs.LineLaws.{if_none}
use Rattle.confirming.proofs.PlaceLaws.{no_alg, no_colon, no_register}
use Rattle.confirming.proofs.places.place_named.Goals as goal

pub returns-in_default-clause-none : goal.returns-in_default-clause-none
returns-in_default-clause-none c = no_colon c.args.text.now c.in_default.ensures.none

pub returns-in_err-alg-clause-none : goal.returns-in_err-alg-clause-none
returns-in_err-alg-clause-none c =
    if_none c.from_residual.result _
    (no_alg c.args.text.now c.in-Some.name.now c.in-Some.number.now c.in-Some.ensures.cut c.in_err-alg.ensures.unknown)

pub returns-in_err-register-clause-none : goal.returns-in_err-register-clause-none
returns-in_err-register-clause-none c =
    if_none c.from_residual-in_err-register.result _
    (no_register c.args.text.now c.in-Some.name.now c.in-Some.number.now c.in-Some.ensures.cut c.in_err-register.ensures.none)

use Rattle.std.proofs.Common.{arith, sym, ◌∙◌}
use Rattle.tpm_keys.proofs.AreaLaws.{framed_so}
use Rattle.tpm_keys.proofs.area.sized_area.Goals as goal

pub returns-clause-spelled : goal.returns-clause-spelled
returns-clause-spelled c =
    framed_so c.args.bytes.now c.in_ok-framed.framed.now c.in_ok-framed.after.now c.bare_area.result (λ i. omega (arith, c.type_inv.bytes i))
    c.in_ok-framed.ensures (sym c.is_empty.ensures ∙ c.if-not-is_empty.false) c.bare_area.ensures.read c.bare_area.ensures.spelled

use Rattle.std.proofs.Common.{arith}
use Rattle.tpm_keys.proofs.AreaLaws.{spelled_so}
use Rattle.tpm_keys.proofs.area.area_in.Goals as goal

pub returns-then-is_bare-clause-spelled : goal.returns-then-is_bare-clause-spelled
returns-then-is_bare-clause-spelled c =
    spelled_so c.args.bytes.now c.bare_area.result (λ i. omega (arith, c.type_inv.bytes i)) c.bare_area.ensures.read c.bare_area.ensures.spelled

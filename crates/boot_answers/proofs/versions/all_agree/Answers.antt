use Rattle.std.proofs.Common.{List, refl, subst}
use Rattle.std.specs.List.{AllByRecursion}
use Rattle.std.proofs.lemmas.List.{take_all}
use Rattle.pcr_banks.specs.declared.alg.Alg.{Alg}
use Rattle.pcr_banks.specs.declared.alg.Alg.TheVariants.{Sha1}
use Rattle.pcr_banks.specs.Names.{all_algs}
use Rattle.pcr_banks.proofs.AlgLaws.{every_alg, one_more}
use Rattle.boot_answers.specs.parts.FirmwareVersion.{Agrees}
use Rattle.boot_answers.proofs.FailingTestLaws.{not_told}
use Rattle.boot_answers.proofs.versions.all_agree.Goals as goal

pub returns-then-not-agrees : goal.returns-then-not-agrees
returns-then-not-agrees c table events is = (
  λ yes. absurd cc,
  λ agree. absurd (not_told c.agrees.result _ c.if-not-agrees.true (c.agrees.ensures table events is) (agree _)),
)

pub loop-alg-preserved : goal.loop-alg-preserved
loop-alg-preserved c table events is =
    one_more (Agrees c.args.matched.now events) all_algs c.loop-alg.alg-index Sha1 c.loop-alg-test.true
    (c.loop-alg.invariant table events is) ((c.agrees.ensures table events is).0 c.if-not-agrees.false)

pub returns : goal.returns
returns c table events is = (
  λ yes. every_alg _ (subst (λ (algs : List Alg). AllByRecursion (Agrees c.args.matched.now events) algs)
      (take_all c.loop-alg.alg-index all_algs c.loop-alg-test.false) (c.loop-alg.invariant table events is)),
  λ agree. refl,
)

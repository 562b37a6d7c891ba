use Rattle.std.proofs.Common.{◌≢◌, List, subst, ◌∙◌}
use Rattle.std.specs.List.{AllByRecursion}
use Rattle.std.proofs.lemmas.List.{take_all}
use Rattle.pcr_banks.specs.declared.alg.Alg.{Alg}
use Rattle.pcr_banks.specs.declared.alg.Alg.TheVariants.{Sha1}
use Rattle.pcr_banks.specs.Names.{all_algs, tpm_id_of}
use Rattle.pcr_banks.proofs.AlgLaws.{every_alg, one_more}
use Rattle.pcr_banks.proofs.alg.Alg.from_id.Goals as goal

pub loop-alg-preserved : goal.loop-alg-preserved
loop-alg-preserved c =
    one_more (λ alg. tpm_id_of alg ≢ c.args.id) all_algs c.loop-alg.alg-index Sha1 c.loop-alg-test.true c.loop-alg.invariant
    (λ is. c.if-tpm_id-id.false (c.tpm_id.ensures ∙ is))

pub returns-clause-unknown : goal.returns-clause-unknown
returns-clause-unknown c =
    every_alg _ (subst (λ (algs : List Alg). AllByRecursion (λ alg. tpm_id_of alg ≢ c.args.id) algs)
    (take_all c.loop-alg.alg-index all_algs c.loop-alg-test.false) c.loop-alg.invariant)

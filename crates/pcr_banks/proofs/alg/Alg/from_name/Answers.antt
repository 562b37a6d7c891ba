use Rattle.std.proofs.Common.{◌≢◌, List, subst}
use Rattle.std.proofs.lemmas.Bool.{both_ways}
use Rattle.std.specs.List.{AllByRecursion}
use Rattle.std.proofs.lemmas.List.{take_all}
use Rattle.pcr_banks.specs.declared.alg.Alg.{Alg}
use Rattle.pcr_banks.specs.declared.alg.Alg.TheVariants.{Sha1}
use Rattle.pcr_banks.specs.Names.{all_algs, name_of}
use Rattle.pcr_banks.proofs.AlgLaws.{every_alg, one_more}
use Rattle.pcr_banks.proofs.alg.Alg.from_name.Goals as goal

pub loop-alg-preserved : goal.loop-alg-preserved
loop-alg-preserved c =
    one_more (λ alg. name_of alg ≢ c.args.name.now) all_algs c.loop-alg.alg-index Sha1 c.loop-alg-test.true c.loop-alg.invariant
    (λ is. both_ways c.has_name.result c.if-has_name.false (c.has_name.ensures.1 is))

pub returns-clause-unknown : goal.returns-clause-unknown
returns-clause-unknown c =
    every_alg _ (subst (λ (algs : List Alg). AllByRecursion (λ alg. name_of alg ≢ c.args.name.now) algs)
    (take_all c.loop-alg.alg-index all_algs c.loop-alg-test.false) c.loop-alg.invariant)

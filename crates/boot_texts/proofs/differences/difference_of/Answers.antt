use Rattle.std.proofs.Common.{List, drop, take, subst, suc, ◌∙◌, sym}
use Rattle.std.specs.List.{AllByRecursion}
use Rattle.std.proofs.lemmas.List.{take_all}
use Rattle.pcr_banks.specs.declared.alg.Alg.{Alg}
use Rattle.pcr_banks.specs.declared.alg.Alg.TheVariants.{Sha1}
use Rattle.pcr_banks.specs.Names.{all_algs}
use Rattle.pcr_banks.proofs.AlgLaws.{every_alg, one_more}
use Rattle.boot_texts.specs.Differences.{IsAlikeIn}
use Rattle.boot_texts.proofs.DifferenceLaws.{parted}
use Rattle.boot_texts.proofs.differences.difference_of.Goals as goal

pub loop-alg-preserved : goal.loop-alg-preserved
loop-alg-preserved c = λ table rows events others is is_too.
    one_more (IsAlikeIn c.args.matched.now c.args.register events others) all_algs c.loop-alg.alg-index Sha1 c.loop-alg-test.true
    (c.loop-alg.invariant table rows events others is is_too)
    ((rw c.in_default.is at c.place_in.ensures) table rows events others is is_too)

pub returns-in-Some : goal.returns-in-Some
returns-in-Some c = λ table rows events others is is_too. (
  record {
    before = take c.loop-alg.alg-index all_algs;
    after = drop (suc c.loop-alg.alg-index) all_algs;
    parts = parted all_algs c.loop-alg.alg-index Sha1 c.loop-alg-test.true;
    alike = c.loop-alg.invariant table rows events others is is_too;
    apart = (rw c.in-Some.is at c.place_in.ensures) table rows events others is is_too;
  },
  c.in_ok-common.ensures table rows events others is is_too,
)

pub returns-then-has_answer : goal.returns-then-has_answer
returns-then-has_answer c = λ table rows events others is is_too. (
  sym c.has_answer.ensures ∙ c.if-has_answer.true,
  every_alg (IsAlikeIn c.args.matched.now c.args.register events others)
      (subst (λ (algs : List Alg). AllByRecursion (IsAlikeIn c.args.matched.now c.args.register events others) algs)
      (take_all c.loop-alg.alg-index all_algs c.loop-alg-test.false) (c.loop-alg.invariant table rows events others is is_too)),
)

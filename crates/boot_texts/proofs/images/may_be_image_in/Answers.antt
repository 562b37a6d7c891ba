use Rattle.std.proofs.Common.{List, subst}
use Rattle.std.specs.List.{AllByRecursion}
use Rattle.std.proofs.lemmas.List.{take_all}
use Rattle.pcr_banks.specs.declared.alg.Alg.{Alg}
use Rattle.pcr_banks.specs.declared.alg.Alg.TheVariants.{Sha1}
use Rattle.pcr_banks.specs.Names.{all_algs}
use Rattle.pcr_banks.proofs.AlgLaws.{every_alg, one_more}
use Rattle.boot_log.specs.Names.{log_event_of}
use Rattle.boot_answers.proofs.FailingTestLaws.{not_told}
use Rattle.boot_texts.specs.Telling.{IsImageBy}
use Rattle.boot_texts.proofs.images.may_be_image_in.Goals as goal

pub loop-alg-preserved : goal.loop-alg-preserved
loop-alg-preserved c =
    one_more (λ alg. IsImageBy c.args.matched.now (log_event_of c.args.event.now) alg → ⊥) all_algs c.loop-alg.alg-index Sha1 c.loop-alg-test.true
    c.loop-alg.invariant (not_told c.is_image_by.result _ c.if-is_image_by.false c.is_image_by.ensures)

pub returns : goal.returns
returns c =
    let none = every_alg (λ alg. IsImageBy c.args.matched.now (log_event_of c.args.event.now) alg → ⊥) (subst (λ (algs : List Alg). AllByRecursion (λ alg. IsImageBy c.args.matched.now (log_event_of c.args.event.now) alg → ⊥) algs)
    (take_all c.loop-alg.alg-index all_algs c.loop-alg-test.false) c.loop-alg.invariant) in
    (λ yes. absurd cc, λ may. absurd (none may.0 may.1))

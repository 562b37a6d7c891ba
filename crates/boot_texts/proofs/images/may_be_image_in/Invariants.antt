use Rattle.std.proofs.Common.{take}
use Rattle.std.specs.List.{AllByRecursion}
use Rattle.pcr_banks.specs.Names.{all_algs}
use Rattle.boot_log.specs.Names.{log_event_of}
use Rattle.boot_texts.specs.Telling.{IsImageBy}
use Rattle.boot_texts.proofs.images.may_be_image_in.Given as goal

abbrev pub invariant-loop-alg : goal.invariant-loop-alg
invariant-loop-alg l = AllByRecursion (λ alg. IsImageBy l.matched (log_event_of l.event) alg → ⊥) (take l.alg-index all_algs)

use Rattle.std.proofs.Common.{sym, ◌∙◌}
use Rattle.growing_lists.proofs.CheckpointLaws.{no_boot, some_boot, some_then}
use Rattle.growing_lists.proofs.checkpoint_reader.boot_at.Goals as goal

pub returns-in-Some : goal.returns-in-Some
returns-in-Some c =
    λ boot rest fits is. no_boot boot rest c.in-Some.rest.now c.args.text.now is c.in-Some.ensures.found

pub returns-in-None : goal.returns-in-None
returns-in-None c =
    λ boot rest fits is.
    let some = some_boot boot rest c.args.text.now fits is c.in-None.ensures.none in
    some_then c.counts_at.result (c.counts_at.ensures some.0 rest some.2 some.3) (λ x e. (e.0 ∙ sym some.1, e.1))

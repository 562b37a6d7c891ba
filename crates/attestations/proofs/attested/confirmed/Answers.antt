use Rattle.std.proofs.Common.{refl, ◌∙◌}
use Rattle.boot_log.specs.Names.{algs_in}
use Rattle.boot_verdict.specs.Names.{aggregate_with}
use Rattle.attestations.proofs.attested.confirmed.Goals as goal

pub returns : goal.returns
returns c =
    λ list table events log firmware is.
    let events_counted = c.count.ensures table events log in
    let stated = c.locality.ensures table events log in
    let entries_counted = is.count in
    let aggregate = c.aggregate_with.ensures (algs_in table) events firmware
    ∙ (λ i. aggregate_with c.args.rule (algs_in table) events (is.recorded i) (is.told i)) in
    rw (events_counted, stated, entries_counted, aggregate) refl

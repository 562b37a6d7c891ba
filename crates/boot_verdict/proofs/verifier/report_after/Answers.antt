use Rattle.std.proofs.Common.{◌∙◌}
use Rattle.boot_log.specs.Names.{algs_in}
use Rattle.boot_verdict.specs.Names.{aggregate_with}
use Rattle.boot_verdict.proofs.VerdictLaws.{rows_same}
use Rattle.boot_verdict.proofs.verifier.report_after.Goals as goal

pub returns : goal.returns
returns c =
    λ table events list is firmware same checkpoint.
    let algs = algs_in table in
    let count = c.count.ensures table events is in
    let locality = c.locality.ensures table events is in
    let entries = checkpoint.count in
    let aggregate = c.aggregate_with.ensures algs events firmware
    ∙ (λ i. aggregate_with c.args.rule algs events (checkpoint.recorded i) (checkpoint.told i)) in
    let event = c.first_extending.ensures table events is in
    let entry = checkpoint.stray in
    let rows = c.in_ok-rows_on.ensures ∙ rows_same algs events checkpoint.entries c.args.start.now c.args.known.now.before c.args.known.now.after c.args.expected.now firmware same checkpoint.replayed in
    λ i. record { events = count i; locality = locality i; entries = entries i; aggregate = aggregate i; strays = record { event = event i; entry = entry i }; rows = rows i }

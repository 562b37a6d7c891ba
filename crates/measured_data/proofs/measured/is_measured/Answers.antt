use Rattle.std.proofs.Common.{List, ℕ, Option, false, ap, ◌∙◌}
use Rattle.std.specs.Option.{option_map_or}
use Rattle.std.proofs.lemmas.Bool.Decides.{Decides-at}
use Rattle.boot_log.specs.Names.{log_event_of}
use Rattle.measured_data.specs.Measuring.{has_digest_of, is_measured}
use Rattle.measured_data.proofs.MeasuredLaws.{measured_told}
use Rattle.measured_data.proofs.measured.is_measured.Goals as goal

pub returns-in-Some-clause-measured : goal.returns-in-Some-clause-measured
returns-in-Some-clause-measured c =
    let event = log_event_of c.args.event.now in
    Decides-at c.has_digest_of.result (is_measured c.args.alg event c.args.part)
    (c.has_digest_of.ensures
    ∙ ap (λ (found : Option (List ℕ)). option_map_or (has_digest_of c.args.alg event) found false) c.in-Some.ensures.value)
    (measured_told c.args.alg event c.args.part c.part_of.ensures.bytes)

pub returns-in-None-clause-measured : goal.returns-in-None-clause-measured
returns-in-None-clause-measured c =
    let event = log_event_of c.args.event.now in
    Decides-at false (is_measured c.args.alg event c.args.part)
    (ap (λ (found : Option (List ℕ)). option_map_or (has_digest_of c.args.alg event) found false) c.in-None.ensures.value)
    (measured_told c.args.alg event c.args.part c.part_of.ensures.bytes)

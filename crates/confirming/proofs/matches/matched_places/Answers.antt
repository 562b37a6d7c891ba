use Rattle.std.proofs.Common.{◌∙◌, ap}
use Rattle.boot_log.specs.Names.{algs_in}
use Rattle.confirming.specs.Matching.{Values, matched_among}
use Rattle.confirming.proofs.MatchingLaws.{firmware_values, matched_are}
use Rattle.confirming.proofs.matches.matched_places.Goals as goal

pub returns-clause-places : goal.returns-clause-places
returns-clause-places c = λ table events is.
    c.in_ok-places.ensures
    ∙ ap (λ (value : Values). matched_among value c.args.expected.now c.args.expected.now)
    (firmware_values (algs_in table) events c.registers-registers.result (c.registers-registers.ensures table events is))

pub returns-clause-each : goal.returns-clause-each
returns-clause-each c = λ table events place is.
    let same = c.in_ok-places.ensures
    ∙ ap (λ (value : Values). matched_among value c.args.expected.now c.args.expected.now)
    (firmware_values (algs_in table) events c.registers-registers.result (c.registers-registers.ensures table events is)) in
    rw same (matched_are (algs_in table) events c.args.expected.now place)

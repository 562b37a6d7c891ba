use Rattle.std.proofs.Common.{map, refl, rules, tests}
use Rattle.std.specs.Prelude.{not}
use Rattle.std.proofs.lemmas.Iterator.{YieldsList-from_range}
use Rattle.std.proofs.lemmas.Iterator.Search.{all_from_yields_List}
use Rattle.pcr_values.specs.Names.{all_registers}
use Rattle.boot_verdict.specs.Names.{is_missing}
use Rattle.boot_verdict.proofs.requirement.Requirement.is_met_in.Goals as goal

pub returns : goal.returns
unfolding all_registers
returns g c =
    all_from_yields_List (λ register. not (is_missing c.args.self.now (map g.T.HasExpected.expected_of c.args.rows.now) c.args.alg register))
    _ _ _ c.all.ensures.ran (YieldsList-from_range 0 24 24 refl refl) (λ x b q k. search (rules, tests))

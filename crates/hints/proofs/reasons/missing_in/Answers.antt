use Rattle.std.proofs.Common.{refl, rules, tests, sym, map, ◌∙◌}
use Rattle.std.proofs.lemmas.Iterator.{YieldsList-from_range}
use Rattle.std.proofs.lemmas.Iterator.Adapters.{option_map_id}
use Rattle.std.proofs.lemmas.Iterator.Search.{find_from_yields_List}
use Rattle.boot_verdict.specs.Names.{is_missing}
use Rattle.tpm_quotes.specs.Spelling.{all_registers}
use Rattle.hints.proofs.reasons.missing_in.Goals as goal

pub returns : goal.returns
unfolding all_registers
returns g c =
    sym (option_map_id c.find.result)
    ∙ find_from_yields_List (λ register. is_missing c.args.required.now (map g.T.HasExpected.expected_of c.args.rows.now) c.args.alg register)
    _ _ c.find.result c.find.ensures.ran (YieldsList-from_range 0 24 24 refl refl) (λ x b q k. search (rules, tests))

use Rattle.std.proofs.Common.{refl, rules, tests, sym, ◌∙◌}
use Rattle.std.specs.Prelude.{not}
use Rattle.std.proofs.lemmas.Iterator.{YieldsList-from_range}
use Rattle.std.proofs.lemmas.Iterator.Adapters.{option_map_id}
use Rattle.std.proofs.lemmas.Iterator.Search.{find_from_yields_List}
use Rattle.attestations.specs.Policies.{is_named}
use Rattle.attestations.proofs.policy.first_unnamed.Goals as goal

pub returns : goal.returns
returns c =
    sym (option_map_id c.find.result)
    ∙ find_from_yields_List (λ register. not (is_named c.args.required.now register))
    _ _ c.find.result c.find.ensures.ran (YieldsList-from_range 0 11 11 refl refl) (λ x b q k. search (rules, tests))

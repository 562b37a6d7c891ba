use Rattle.std.proofs.Common.{refl, rules, tests, sym, ◌∙◌, ◌&&◌}
use Rattle.std.specs.Prelude.{not}
use Rattle.std.proofs.lemmas.Iterator.{YieldsList-from_range}
use Rattle.std.proofs.lemmas.Iterator.Adapters.{option_map_id}
use Rattle.std.proofs.lemmas.Iterator.Search.{find_from_yields_List}
use Rattle.pcr_values.specs.Names.{names}
use Rattle.tpm_quotes.specs.Spelling.{all_registers, quote_of, selects}
use Rattle.attestations.proofs.policy.unselected_in.Goals as goal

pub returns : goal.returns
unfolding all_registers
returns c =
    sym (option_map_id c.find.result)
    ∙ find_from_yields_List (λ register. names c.args.required.now c.args.alg register
    && not (selects (quote_of c.args.quote.now).selections c.args.alg register))
    _ _ c.find.result c.find.ensures.ran (YieldsList-from_range 0 24 24 refl refl) (λ x b q k. search (rules, tests))

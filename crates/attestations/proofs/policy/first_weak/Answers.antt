use Rattle.std.proofs.Common.{refl, rules, tests, sym, ◌∙◌, ◌&&◌}
use Rattle.std.specs.Prelude.{not}
use Rattle.std.proofs.lemmas.Iterator.{YieldsList-from_range}
use Rattle.std.proofs.lemmas.Iterator.Adapters.{option_map_id}
use Rattle.std.proofs.lemmas.Iterator.Search.{find_from_yields_List}
use Rattle.pcr_banks.specs.declared.alg.Alg.TheVariants.{Sha1}
use Rattle.pcr_values.specs.Names.{names}
use Rattle.tpm_quotes.specs.Spelling.{all_registers}
use Rattle.attestations.specs.Policies.{is_named_beside_sha1}
use Rattle.attestations.proofs.policy.first_weak.Goals as goal

pub returns : goal.returns
unfolding all_registers
returns c =
    sym (option_map_id c.find.result)
    ∙ find_from_yields_List (λ register. names c.args.required.now Sha1 register && not (is_named_beside_sha1 c.args.required.now register))
    _ _ c.find.result c.find.ensures.ran (YieldsList-from_range 0 24 24 refl refl) (λ x b q k. search (rules, tests))

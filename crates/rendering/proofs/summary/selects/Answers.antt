use Rattle.std.proofs.Common.{eqb, ◌&&◌, rules, tests}
use Rattle.std.proofs.lemmas.Iterator.{YieldsList-from_slice}
use Rattle.std.proofs.lemmas.Iterator.Search.{any_from_yields_List}
use Rattle.pcr_banks.specs.Names.{tpm_id_of}
use Rattle.tpm_quotes.specs.Spelling.{is_selected}
use Rattle.tpm_quotes.proofs.SelectionLaws.{list_any_map}
use Rattle.attestations.specs.declared.report.Selected.{Selected}
use Rattle.rendering.proofs.summary.selects.Goals as goal

pub returns : goal.returns
returns c =
    rw list_any_map (any_from_yields_List
    (λ (s : Selected). eqb (tpm_id_of s.alg) (tpm_id_of c.args.alg) && is_selected s.bits.items c.args.register) _ _ _ c.any.ensures.ran
    (YieldsList-from_slice c.args.selections.now cc) (λ x b q k. search (rules, tests)))

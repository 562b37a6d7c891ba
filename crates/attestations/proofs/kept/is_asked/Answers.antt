use Rattle.std.proofs.Common.{eqb, rules, tests}
use Rattle.std.proofs.lemmas.Iterator.{YieldsList-from_slice}
use Rattle.std.proofs.lemmas.Iterator.Search.{any_from_yields_List}
use Rattle.pcr_banks.specs.Names.{tpm_id_of}
use Rattle.tpm_quotes.specs.declared.selection.QuotedSelection.{QuotedSelection}
use Rattle.tpm_quotes.proofs.SelectionLaws.{list_any_map}
use Rattle.attestations.proofs.kept.is_asked.Goals as goal

pub returns : goal.returns
returns c =
    rw list_any_map (any_from_yields_List (λ (s : QuotedSelection). eqb (tpm_id_of s.alg) (tpm_id_of c.args.alg)) _ _ _ c.any.ensures.ran
    (YieldsList-from_slice c.args.selections.now cc) (λ x b q k. search (rules, tests)))

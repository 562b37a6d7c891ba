use Rattle.std.proofs.Common.{eqb, ◌&&◌, rules, tests}
use Rattle.std.proofs.lemmas.Iterator.{YieldsList-from_slice}
use Rattle.std.proofs.lemmas.Iterator.Search.{any_from_yields_List}
use Rattle.pcr_banks.specs.Names.{tpm_id_of}
use Rattle.tpm_quotes.specs.Spelling.{is_selected}
use Rattle.tpm_quotes.specs.declared.selection.QuotedSelection.{QuotedSelection}
use Rattle.tpm_quotes.proofs.SelectionLaws.{list_any_map}
use Rattle.tpm_quotes.proofs.quote.Quote.selects.Goals as goal

pub returns : goal.returns
returns c =
    rw list_any_map (any_from_yields_List
    (λ (s : QuotedSelection). eqb (tpm_id_of s.alg) (tpm_id_of c.args.alg) && is_selected s.bits.now c.args.register) _ _ _ c.any.ensures.ran
    (YieldsList-from_slice c.args.self.now.selections.items cc) (λ x b q k. search (rules, tests)))

use Rattle.std.proofs.Common.{rules, tests}
use Rattle.std.proofs.lemmas.Iterator.{YieldsList-from_slice}
use Rattle.std.proofs.lemmas.Iterator.Search.{any_from_yields_List}
use Rattle.tpm_quotes.specs.declared.selection.QuotedSelection.{QuotedSelection}
use Rattle.tpm_quotes.specs.Spelling.{selection_of, selects_one}
use Rattle.tpm_quotes.proofs.SelectionLaws.{list_any_map}
use Rattle.tpm_quotes.proofs.selection.select_some.Goals as goal

pub returns : goal.returns
returns c =
    rw list_any_map (any_from_yields_List (λ (s : QuotedSelection). selects_one (selection_of s)) _ _ _ c.any.ensures.ran
    (YieldsList-from_slice c.args.selections.now cc) (λ x b q k. search (rules, tests)))

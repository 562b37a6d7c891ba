use Rattle.std.proofs.Common.{refl, rules, tests}
use Rattle.std.proofs.lemmas.Iterator.{YieldsList-from_range}
use Rattle.std.proofs.lemmas.Iterator.Search.{any_from_yields_List}
use Rattle.tpm_quotes.specs.Spelling.{all_registers, is_selected}
use Rattle.tpm_quotes.proofs.selection.QuotedSelection.selects_one.Goals as goal

pub returns : goal.returns
unfolding all_registers
returns c =
    any_from_yields_List (is_selected c.args.self.now.bits.now)
    _ _ _ c.any.ensures.ran (YieldsList-from_range 0 24 24 refl refl) (λ x b q k. search (rules, tests))

use Rattle.std.proofs.Common.{sym, ◌∙◌}
use Rattle.std.proofs.lemmas.Bool.{not-true, not_from_false}
use Rattle.pcr_banks.specs.Names.{has_alg}
use Rattle.pcr_banks.proofs.AlgLaws.{none_passes, list_lacks}
use Rattle.pcr_banks.proofs.sets.AlgSet.is_empty.Goals as goal

pub returns : goal.returns
returns c =
    let test = has_alg c.args.self in (
      λ empty. none_passes test (sym c.has_any.ensures ∙ not-true c.has_any.result empty),
      λ none. not_from_false c.has_any.result (c.has_any.ensures ∙ list_lacks test none),
    )

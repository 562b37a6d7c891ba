use Rattle.std.proofs.Common.{sym, ◌∙◌, rules, tests}
use Rattle.std.proofs.lemmas.Iterator.{YieldsList-from_slice}
use Rattle.std.proofs.lemmas.Iterator.Search.{any_from_yields_List}
use Rattle.boot_verdict.specs.Names.{is_of}
use Rattle.boot_verdict.proofs.RequirementLaws.{any_of_map}
use Rattle.boot_verdict.proofs.requirement.states.Goals as goal

pub returns : goal.returns
returns g c =
    any_from_yields_List (λ row. is_of (g.T.HasExpected.expected_of row) c.args.alg c.args.register) _ _ _ c.any.ensures.ran
    (YieldsList-from_slice c.args.rows.now cc) (λ x b q k. search (rules, tests))
    ∙ sym (any_of_map (λ e. is_of e c.args.alg c.args.register) g.T.HasExpected.expected_of c.args.rows.now)

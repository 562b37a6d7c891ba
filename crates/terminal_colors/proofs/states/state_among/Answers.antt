use Rattle.std.proofs.Common.{◌==◌, ◌∙◌, rules, tests}
use Rattle.std.specs.List.{starts_with}
use Rattle.std.proofs.lemmas.Iterator.{YieldsList-from_slice}
use Rattle.std.proofs.lemmas.Iterator.Search.{find_from_yields_List}
use Rattle.terminal_colors.specs.States.{text_of}
use Rattle.terminal_colors.specs.declared.states.State.{State}
use Rattle.terminal_colors.proofs.states.state_among.Goals as goal

pub returns : goal.returns
returns c =
    c.copied.ensures
    ∙ find_from_yields_List (λ (state : State). starts_with (λ a b. a == b) c.args.text.now (text_of state)) _ _ c.find.result c.find.ensures.ran
    (YieldsList-from_slice c.args.states.now cc) (λ x b q k. search (rules, tests))

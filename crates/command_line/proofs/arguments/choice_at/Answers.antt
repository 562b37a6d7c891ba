use Rattle.std.proofs.Common.{◌≡◌, ◌∷◌, ap, sym, ◌∙◌}
use Rattle.command_line.specs.Arguments.{choice_at}
use Rattle.command_line.proofs.WordLemmas.{no_words}
use Rattle.command_line.proofs.arguments.choice_at.Goals as goal

pub returns-in-None : goal.returns-in-None
returns-in-None c = sym (ap choice_at (no_words _ (rw c.in-None.is at c.split_first.ensures.cases)))

pub returns-in-Some : goal.returns-in-Some
returns-in-Some c =
    let words : c.args.words.now ≡ c.in-Some.word.now ∷ c.in-Some.rest.now = (rw c.in-Some.is at c.split_first.ensures.cases).0 in
    c.choice_by.ensures ∙ ap choice_at (sym words)

use Rattle.std.proofs.Common.{String, string_bytes, ap, sym, ◌∙◌}
use Rattle.std.specs.Prelude.{Bool, ◌||◌}
use Rattle.std.specs.Global.{Global}
use Rattle.command_line.specs.Arguments.{choice_at, ends_options, is_color_word}
use Rattle.command_line.proofs.WordLemmas.{words_from, words_from_none}
use Rattle.command_line.proofs.arguments.choice_asked.Goals as goal

abbrev begins : String Global → Bool
begins word = ends_options (string_bytes word) || is_color_word (string_bytes word)

pub returns-in-None : goal.returns-in-None
returns-in-None c = sym (ap choice_at (words_from_none begins c.args.words.now c.in-None.ensures.value))

pub returns-in-Some : goal.returns-in-Some
returns-in-Some c =
    c.choice_at.ensures ∙ ap choice_at (c.split_at.ensures.back ∙ sym (words_from begins c.args.words.now c.in-Some.place c.in-Some.ensures.value))

use Rattle.std.proofs.Common.{ap, option_map, ◌∙◌}
use Rattle.event_data.specs.Names.{hashed_text}
use Rattle.event_data.proofs.command.read_hashed_text.Goals as goal

pub returns-in-Some : goal.returns-in-Some
returns-in-Some c = c.hashed_of.ensures ∙ ap (option_map hashed_text) c.in-Some.ensures.value

pub returns-in-None : goal.returns-in-None
returns-in-None c = ap (option_map hashed_text) c.in-None.ensures.value

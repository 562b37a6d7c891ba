use Rattle.std.proofs.Common.{◌++◌, flat_map, sym, ap, ◌∙◌, map-id}
use Rattle.std.proofs.lemmas.Iterator.{YieldsList-from_chars}
use Rattle.std.proofs.lemmas.Iterator.Consumers.{YieldsList-end}
use Rattle.event_lines.specs.SteeringTexts.{told_character}
use Rattle.event_lines.proofs.steering.append_characters.Goals as goal

pub returns-clause-ok : goal.returns-clause-ok
returns-clause-ok c =
    let end = YieldsList-end (YieldsList-from_chars c.args.text.now c.utf8.text cc) c.loop-character.yielded _ c.loop-character.yielded_by _ _ c.in-None.is c.next.ensures.steps in
    c.loop-character.invariant ∙ ap (λ cs. c.args.lines.now.items ++ flat_map told_character cs) (sym (map-id c.loop-character.yielded) ∙ end.0)

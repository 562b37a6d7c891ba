use Rattle.std.proofs.Common.{◌≡◌, ◌++◌, flat_map}
use Rattle.event_lines.specs.SteeringTexts.{told_character}
use Rattle.event_lines.proofs.steering.append_characters.Given as goal

abbrev pub invariant-loop-character : goal.invariant-loop-character
invariant-loop-character l = l.lines.items ≡ l.initial.lines.items ++ flat_map told_character l.yielded

use Rattle.std.proofs.Common.{◌≡◌, take}
use Rattle.std.specs.Prelude.{flat_map}
use Rattle.ima_list.specs.Names.{line_of}
use Rattle.rendering.proofs.printed_lists.texts.Given as goal

abbrev pub invariant-loop-entry : goal.invariant-loop-entry
invariant-loop-entry l = l.text.items ≡ flat_map line_of (take l.entry-index l.entries)

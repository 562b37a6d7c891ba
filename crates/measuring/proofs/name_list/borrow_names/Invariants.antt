use Rattle.std.proofs.Common.{◌≡◌, length, map, take, string_bytes}
use Rattle.measuring.specs.parts.{names_borrowed}
use Rattle.measuring.proofs.name_list.borrow_names.Given as goal

-- The names so far are borrowed.
abbrev pub invariant-loop-name : goal.invariant-loop-name
invariant-loop-name l = (names_borrowed l.borrowed.items ≡ map string_bytes (take l.name-index l.names)) × (length l.borrowed.items ≡ l.name-index)

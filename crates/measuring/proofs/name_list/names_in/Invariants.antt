use Rattle.std.proofs.Common.{◌≡◌, ◌++◌, ◌==◌, not, filter, length}
use Rattle.measuring.specs.parts.{names_borrowed}
use Rattle.measuring.proofs.name_list.names_in.Given as goal

-- The names so far are the parts of the text so far, except empty ones.
abbrev pub invariant-loop-name : goal.invariant-loop-name
invariant-loop-name l =
    names_borrowed l.names.items ≡ names_borrowed l.fn.names.items ++ filter (λ name. not (length name == 0)) (names_borrowed l.yielded)

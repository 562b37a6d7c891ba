-- What is left of values whose parts are lent.
use Rattle.std.specs.Prelude.{ℕ, List}
use Rattle.event_data.specs.declared.load_option.BootOrder.{BootOrder}
use Rattle.event_data.specs.declared.variable.Signatures.{Signatures}
use Rattle.event_data.specs.declared.variable.SignatureLists.{SignatureLists}

-- The bytes of the numbers that were not lent yet.
abbrev pub numbers_left : BootOrder → List ℕ
numbers_left order = order.rest.now

-- The bytes of the signatures that were not lent yet, and the size of each.
abbrev pub signatures_left : Signatures → List ℕ
signatures_left signatures = signatures.rest.now

abbrev pub size_of : Signatures → ℕ
size_of signatures = signatures.size

-- The bytes of the lists that were not lent yet.
abbrev pub lists_left : SignatureLists → List ℕ
lists_left lists = lists.rest.now

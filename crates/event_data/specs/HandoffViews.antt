-- What contracts see of handed over tables, and of what is lent of them.
use Rattle.std.specs.Prelude.{ℕ, List, option_map}
use Rattle.event_data.specs.declared.handoff.Handoff.{Handoff}
use Rattle.event_data.specs.declared.handoff.Table.{Table}
use Rattle.event_data.specs.declared.handoff.Tables.{Tables}
use Rattle.event_data.specs.Handoffs.{HandoffData, TableData}

abbrev pub handoff_of : Handoff → HandoffData
handoff_of handoff =
    record { description = option_map (λ text. text.now) handoff.description; pointers = handoff.pointers.now }

abbrev pub table_of : Table → TableData
table_of table = record { vendor = table.vendor.now; address = table.address }

-- The bytes of the pointers that were not lent yet.
abbrev pub pointers_left : Tables → List ℕ
pointers_left tables = tables.rest.now

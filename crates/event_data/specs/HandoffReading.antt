-- Reading handed over tables from left to right.
use Rattle.std.specs.Prelude.{ℕ, ◌*◌, ◌/◌, List, [], length, Option, Some, None, unwrap_or}
use Rattle.std.specs.Result.{result_ok}
use Rattle.std.specs.Int.{w64}
use Rattle.byte_fields.specs.Formats.{Format, number, part, byte, ◌followed_by◌, mapped, sized_by, whole}
use Rattle.event_data.specs.declared.content.Mismatch.{Mismatch}
use Rattle.event_data.specs.declared.content.Mismatch.TheVariants.{Form}
use Rattle.event_data.specs.Handoffs.{HandoffData, TableData}
use Rattle.event_data.specs.ValueReading.{taken_in}

-- The number of tables, and the bytes that point to them.
abbrev pub counted_pointers : Format (ℕ × List ℕ) Mismatch
counted_pointers = number Form w64 followed_by λ count. part Form (24 * count)

unfoldable pub handoff : Format HandoffData Mismatch
handoff =
    mapped (λ x. record { description = None; pointers = x.1 }) (λ h. (length h.pointers / 24, h.pointers)) counted_pointers

abbrev pub handoff_in : List ℕ → Option HandoffData
handoff_in bytes = result_ok (whole Form handoff bytes)

unfoldable pub described_handoff : Format HandoffData Mismatch
described_handoff =
    mapped (λ x. record { description = Some x.0; pointers = x.1.1 })
    (λ h. (unwrap_or h.description [], (length h.pointers / 24, h.pointers)))
    (sized_by (byte Form) Form followed_by λ description. counted_pointers)

abbrev pub described_handoff_in : List ℕ → Option HandoffData
described_handoff_in bytes = result_ok (whole Form described_handoff bytes)

-- ---- tables

unfoldable pub table : Format TableData Mismatch
table =
    mapped (λ x. record { vendor = x.0; address = x.1 }) (λ t. (t.vendor, t.address))
    (part Form 16 followed_by λ vendor. number Form w64)

-- The tables to which bytes at the start point, and what remains.
abbrev pub pointers_in : List ℕ → List TableData × List ℕ
pointers_in bytes = taken_in table.at bytes

-- The tables that are handed over.
abbrev pub tables_of : HandoffData → List TableData
tables_of given = (pointers_in given.pointers).0

-- Reading blobs of firmware and tagged events from left to right.
use Rattle.std.specs.Prelude.{ℕ, List, [], Option, Some, None, unwrap_or}
use Rattle.std.specs.Result.{result_ok}
use Rattle.std.specs.Int.{w32, w64}
use Rattle.byte_fields.specs.Formats.{Format, number, byte, ◌followed_by◌, mapped, sized, sized_by, whole}
use Rattle.event_data.specs.declared.content.Mismatch.{Mismatch}
use Rattle.event_data.specs.declared.content.Mismatch.TheVariants.{Form}
use Rattle.event_data.specs.Blobs.{BlobData, TaggedData}

-- Where a blob was in memory, and the number of its bytes.
abbrev pub place : Format (ℕ × ℕ) Mismatch
place = number Form w64 followed_by λ base. number Form w64

unfoldable pub plain_blob : Format BlobData Mismatch
plain_blob =
    mapped (λ x. record { description = None; base = x.0; size = x.1 }) (λ b. (b.base, b.size)) place

abbrev pub plain_blob_in : List ℕ → Option BlobData
plain_blob_in bytes = result_ok (whole Form plain_blob bytes)

unfoldable pub described_blob : Format BlobData Mismatch
described_blob =
    mapped (λ x. record { description = Some x.0; base = x.1.0; size = x.1.1 }) (λ b. (unwrap_or b.description [], (b.base, b.size)))
    (sized_by (byte Form) Form followed_by λ description. place)

abbrev pub described_blob_in : List ℕ → Option BlobData
described_blob_in bytes = result_ok (whole Form described_blob bytes)

unfoldable pub tagged : Format TaggedData Mismatch
tagged =
    mapped (λ x. record { id = x.0; payload = x.1 }) (λ t. (t.id, t.payload)) (number Form w32 followed_by λ id. sized Form)

abbrev pub tagged_in : List ℕ → Option TaggedData
tagged_in bytes = result_ok (whole Form tagged bytes)

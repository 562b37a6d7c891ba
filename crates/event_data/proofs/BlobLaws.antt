-- Blobs of firmware and tagged events: what is read is what was spelled, and what is spelled is read.
use Rattle.std.proofs.Common.{◌≡◌, ℕ, List, [], Option, Some, None, unwrap_or, Result, Ok, Err, refl, sym, ap, ◌∙◌}
use Rattle.std.specs.Result.{result_ok}
use Rattle.byte_fields.specs.Formats.{whole}
use Rattle.event_data.specs.declared.content.Mismatch.{Mismatch}
use Rattle.byte_fields.proofs.Steps.{IsBytes}
use Rattle.byte_fields.proofs.FormatLaws.{Exact, byte_exact, number32_exact, number64_exact, sized_exact, sized_by_exact, followed_exact, mapped_exact, whole_takes, whole_again}
use Rattle.event_data.specs.declared.content.Mismatch.TheVariants.{Form}
use Rattle.event_data.specs.Names.{BlobData, IsDescribedBlob, IsPlainBlob, IsTagged, TaggedData, described_blob, described_blob_in, plain_blob, plain_blob_in, tagged_in}
use Rattle.event_data.specs.BlobReading.{tagged}
use Rattle.event_data.proofs.FormLaws.{AnyFault}
use Rattle.event_data.proofs.Finding.{Finds, whole_finds}

-- The description of a blob that was read.
described : Result BlobData Mismatch → Option (List ℕ)
described (Ok blob) = blob.description
described (Err fault) = None

-- ---- a blob without a description

plain_exact : Exact AnyFault plain_blob
unfolding plain_blob described
plain_exact =
    let number = number64_exact {P = AnyFault} Form tt in
    mapped_exact (λ x is. refl) (followed_exact number (λ base. number))

plain_takes : (bytes : List ℕ) (v : BlobData) → IsBytes bytes → whole Form plain_blob bytes ≡ Ok v → IsPlainBlob bytes v
unfolding plain_blob described
plain_takes bytes v fits e =
    let taken = whole_takes Form plain_exact bytes v fits e in
    record {
      no_description = ap (λ (b : Result BlobData Mismatch). described b) (sym taken.0.1);
      base_fits = taken.0.0.0;
      size_fits = taken.0.0.1;
      spelled = taken.1;
    }

plain_again : (bytes : List ℕ) (v : BlobData) → IsPlainBlob bytes v → whole Form plain_blob bytes ≡ Ok v
unfolding plain_blob described
plain_again bytes v is =
    whole_again Form plain_exact bytes v
    ((is.base_fits, is.size_fits), ap (λ (d : Option (List ℕ)). Ok (record { description = d; base = v.base; size = v.size })) (sym is.no_description))
    is.spelled

pub plain_blob_only : (bytes : List ℕ) (v : BlobData) → IsPlainBlob bytes v → plain_blob_in bytes ≡ Some v
plain_blob_only bytes v is = ap result_ok (plain_again bytes v is)

pub plain_blob_finds : (bytes : List ℕ) → IsBytes bytes → Finds (IsPlainBlob bytes) (plain_blob_in bytes)
plain_blob_finds bytes fits = whole_finds (whole Form plain_blob bytes) (λ v e. plain_takes bytes v fits e) (plain_again bytes)

-- ---- a blob with a description

described_exact : Exact AnyFault described_blob
unfolding described_blob described
described_exact =
    let number = number64_exact {P = AnyFault} Form tt in
    mapped_exact (λ x is. refl)
    (followed_exact (sized_by_exact Form tt (byte_exact {P = AnyFault} Form tt)) (λ text. followed_exact number (λ base. number)))

described_takes : (bytes : List ℕ) (v : BlobData) → IsBytes bytes → whole Form described_blob bytes ≡ Ok v → IsDescribedBlob bytes v
unfolding described_blob described
described_takes bytes v fits e =
    let taken = whole_takes Form described_exact bytes v fits e in
    record {
      text = unwrap_or v.description [];
      description = ap (λ (b : Result BlobData Mismatch). described b) (sym taken.0.1);
      description_fits = taken.0.0.0.0.0;
      base_fits = taken.0.0.1.0;
      size_fits = taken.0.0.1.1;
      spelled = taken.1;
    }

described_again : (bytes : List ℕ) (v : BlobData) → IsDescribedBlob bytes v → whole Form described_blob bytes ≡ Ok v
unfolding described_blob described
described_again bytes v is =
    let v_is : v ≡ record { description = Some is.text; base = v.base; size = v.size }
    = ap (λ (d : Option (List ℕ)). record { description = d; base = v.base; size = v.size }) is.description in
    let read = whole_again Form described_exact bytes (record { description = Some is.text; base = v.base; size = v.size })
    ((((is.description_fits, refl), refl), (is.base_fits, is.size_fits)), refl) is.spelled in
    read ∙ ap Ok (sym v_is)

pub described_blob_only : (bytes : List ℕ) (v : BlobData) → IsDescribedBlob bytes v → described_blob_in bytes ≡ Some v
described_blob_only bytes v is = ap result_ok (described_again bytes v is)

pub described_blob_finds : (bytes : List ℕ) → IsBytes bytes → Finds (IsDescribedBlob bytes) (described_blob_in bytes)
described_blob_finds bytes fits =
    whole_finds (whole Form described_blob bytes) (λ v e. described_takes bytes v fits e) (described_again bytes)

-- ---- a tagged event

tagged_exact : Exact AnyFault tagged
unfolding tagged
tagged_exact = mapped_exact (λ x is. refl) (followed_exact (number32_exact {P = AnyFault} Form tt) (λ id. sized_exact Form tt))

tagged_takes : (bytes : List ℕ) (v : TaggedData) → IsBytes bytes → whole Form tagged bytes ≡ Ok v → IsTagged bytes v
unfolding tagged
tagged_takes bytes v fits e =
    let taken = whole_takes Form tagged_exact bytes v fits e in
    record { id_fits = taken.0.0.0; size_fits = taken.0.0.1.0.0; spelled = taken.1 }

tagged_again : (bytes : List ℕ) (v : TaggedData) → IsTagged bytes v → whole Form tagged bytes ≡ Ok v
unfolding tagged
tagged_again bytes v is =
    whole_again Form tagged_exact bytes v ((is.id_fits, ((is.size_fits, refl), refl)), refl) is.spelled

pub tagged_only : (bytes : List ℕ) (v : TaggedData) → IsTagged bytes v → tagged_in bytes ≡ Some v
tagged_only bytes v is = ap result_ok (tagged_again bytes v is)

pub tagged_finds : (bytes : List ℕ) → IsBytes bytes → Finds (IsTagged bytes) (tagged_in bytes)
tagged_finds bytes fits = whole_finds (whole Form tagged bytes) (λ v e. tagged_takes bytes v fits e) (tagged_again bytes)

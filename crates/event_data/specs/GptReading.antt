-- Reading a table of partitions from left to right.
use Rattle.std.specs.Prelude.{ℕ, zero, suc, ◌-◌, ◌*◌, ◌==◌, nat_lt, if◌then◌else◌, List, [], ◌∷◌, length, codes, Option, option_and_then, Result, Ok, Err}
use Rattle.std.specs.Result.{result_ok}
use Rattle.std.specs.Int.{w32, w64}
use Rattle.byte_fields.specs.Reading.{◌>>=◌}
use Rattle.byte_fields.specs.Formats.{Format, number, part, ◌followed_by◌, unless, mapped}
use Rattle.event_data.specs.declared.content.Mismatch.{Mismatch}
use Rattle.event_data.specs.declared.content.Mismatch.TheVariants.{Form}
use Rattle.event_data.specs.GptForms.{GptData, PartitionData, up_to_nul}
use Rattle.event_data.specs.Results.{after_in}

-- ---- an entry

-- All of an entry's fields.
pub record EntryFields : Type 0 where
  pub kind : List ℕ
  pub guid : List ℕ
  pub first : ℕ
  pub last : ℕ
  pub attributes : ℕ
  pub name_field : List ℕ
  pub beyond : List ℕ

unfoldable pub entry : ℕ → Format EntryFields Mismatch
entry size =
    mapped (λ x. record {
      kind = x.0;
      guid = x.1.0;
      first = x.1.1.0;
      last = x.1.1.1.0;
      attributes = x.1.1.1.1.0;
      name_field = x.1.1.1.1.1.0;
      beyond = x.1.1.1.1.1.1;
    })
    (λ e. (e.kind, (e.guid, (e.first, (e.last, (e.attributes, (e.name_field, e.beyond)))))))
    (part Form 16
    followed_by λ kind. part Form 16
    followed_by λ guid. number Form w64
    followed_by λ first. number Form w64
    followed_by λ last. number Form w64
    followed_by λ attributes. part Form 72
    followed_by λ name_field. part Form (size - 128))

-- The partition of an entry.
abbrev pub told_entry : EntryFields → PartitionData
told_entry e = record {
  kind = e.kind;
  guid = e.guid;
  first = e.first;
  last = e.last;
  attributes = e.attributes;
  name = up_to_nul e.name_field;
}

abbrev pub partition_at : ℕ → List ℕ → Result (PartitionData × List ℕ) Mismatch
partition_at size bytes = (entry size).at bytes >>= λ x. Ok (told_entry x.0, x.1)

-- ---- entries one after another

abbrev pub then_more : Result (PartitionData × List ℕ) Mismatch → (List ℕ → List PartitionData) → List PartitionData
then_more (Ok first) more = first.0 ∷ more first.1
then_more (Err fault) more = []

-- Each entry takes at least 128 bytes, so as many steps as bytes are enough.
unfoldable pub partitions_within : ℕ → ℕ → List ℕ → List PartitionData
partitions_within size zero bytes = []
partitions_within size (suc steps) bytes = then_more (partition_at size bytes) (λ rest. partitions_within size steps rest)

-- The partitions in entries of this size.
abbrev pub partitions_in : ℕ → List ℕ → List PartitionData
partitions_in size bytes = partitions_within size (length bytes) bytes

-- ---- the table

-- What stands between the signature and the entries.
pub record TablePrefix : Type 0 where
  pub places : List ℕ
  pub disk : List ℕ
  pub array : List ℕ
  pub size : ℕ
  pub check : List ℕ
  pub count : ℕ

unfoldable pub table_prefix : Format TablePrefix Mismatch
table_prefix =
    mapped (λ x. record {
      places = x.0;
      disk = x.1.0;
      array = x.1.1.0;
      size = x.1.1.1.0;
      check = x.1.1.1.1.0;
      count = x.1.1.1.1.1;
    })
    (λ t. (t.places, (t.disk, (t.array, (t.size, (t.check, t.count))))))
    (part Form 48
    followed_by λ places. part Form 16
    followed_by λ disk. part Form 12
    followed_by λ array. unless (λ size. nat_lt size 128) Form (number Form w32)
    followed_by λ size. part Form 4
    followed_by λ check. number Form w64)

-- The disk's GUID, the size of an entry, and the number of entries.
abbrev pub prefix_at : List ℕ → Result ((List ℕ × (ℕ × ℕ)) × List ℕ) Mismatch
prefix_at bytes = table_prefix.at bytes >>= λ x. Ok ((x.0.disk, (x.0.size, x.0.count)), x.1)

-- The entries are as long as their number and size say.
abbrev pub fitting : (List ℕ × (ℕ × ℕ)) × List ℕ → Result GptData Mismatch
fitting x =
    if length x.1 == x.0.1.1 * x.0.1.0
    then Ok (record { disk = x.0.0; partitions = partitions_in x.0.1.0 x.1 })
    else Err Form

abbrev pub table_in : List ℕ → Result GptData Mismatch
table_in bytes = prefix_at bytes >>= fitting

abbrev pub gpt_in : List ℕ → Option GptData
gpt_in bytes = option_and_then (λ rest. result_ok (table_in rest)) (after_in (codes "EFI PART") bytes)

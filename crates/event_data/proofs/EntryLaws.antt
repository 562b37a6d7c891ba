-- Partitions' entries: what is read is what was spelled, and what is spelled is read.
use Rattle.std.proofs.Common.{◌≡◌, ℕ, ◌+◌, ◌-◌, ◌≤◌, List, [], ◌++◌, length, Ok, Err, refl, sym, ap, subst, ◌∙◌, arith, length-append}
use Rattle.byte_fields.proofs.Steps.{IsBytes, bind_ok, ok_is}
use Rattle.byte_fields.proofs.FormatLaws.{Exact, takes, again, number64_exact, part_exact, followed_exact, mapped_exact, IsBytes-behind}
use Rattle.event_data.specs.declared.content.Mismatch.TheVariants.{Form}
use Rattle.event_data.specs.Names.{EntryFields, IsPartition, PartitionData, entry, partition_at, told_entry}
use Rattle.event_data.proofs.FormLaws.{AnyFault}
use Rattle.event_data.proofs.FixedSize.{Fixed, fixed_part, fixed_number64, fixed_followed, fixed_mapped, reaches}

entry_exact : (size : ℕ) → Exact AnyFault (entry size)
unfolding entry
entry_exact size =
    let number = number64_exact {P = AnyFault} Form tt in
    mapped_exact (λ x is. refl)
    (followed_exact (part_exact Form 16 tt) (λ kind. followed_exact (part_exact Form 16 tt) (λ guid.
    followed_exact number (λ first. followed_exact number (λ last. followed_exact number (λ attributes.
    followed_exact (part_exact Form 72 tt) (λ name. part_exact Form (size - 128) tt)))))))

entry_fixed : (size : ℕ) → Fixed (16 + (16 + (8 + (8 + (8 + (72 + (size - 128))))))) (entry size)
unfolding entry
entry_fixed size =
    let number = fixed_number64 Form in
    fixed_mapped
    (fixed_followed (fixed_part Form 16) (λ kind. fixed_followed (fixed_part Form 16) (λ guid.
    fixed_followed number (λ first. fixed_followed number (λ last. fixed_followed number (λ attributes.
    fixed_followed (fixed_part Form 72) (λ name. fixed_part Form (size - 128))))))))

-- What an entry took: its bytes, and the rest.
pub record EntryTaken (size : ℕ) (bytes : List ℕ) (x : PartitionData) (rest : List ℕ) : Type 0 where
  pub prefix : List ℕ
  pub parts : bytes ≡ prefix ++ rest
  pub is : IsPartition size prefix x
  pub length_is : length bytes ≡ size + length rest
  pub rest_fits : IsBytes rest

fields_taken : (size : ℕ) (bytes : List ℕ) (x : EntryFields) (rest : List ℕ) → 128 ≤ size → IsBytes bytes → (entry size).at bytes ≡ Ok (x, rest)
    → EntryTaken size bytes (told_entry x) rest
unfolding entry
fields_taken size bytes x rest wide fits e =
    let taken = takes (entry_exact size) bytes (x, rest) fits e in
    let is = taken.is.0 in
    let prefix = (entry size).spell x in
    let all = ap (λ (b : List ℕ). length b) taken.parts ∙ length-append prefix rest in
    record {
      prefix = prefix;
      parts = taken.parts;
      is = record {
        name_field = x.name_field;
        beyond = x.beyond;
        kind_size = is.0;
        guid_size = is.1.0;
        first_fits = is.1.1.0;
        last_fits = is.1.1.1.0;
        attributes_fits = is.1.1.1.1.0;
        name_size = is.1.1.1.1.1.0;
        name_is = refl;
        size_is = omega (arith, is.1.1.1.1.1.1);
        spelled = refl;
      };
      length_is = omega (arith, all, (entry_fixed size).spells x taken.is);
      rest_fits = IsBytes-behind bytes prefix rest taken.parts fits;
    }

pub entry_takes : (size : ℕ) (bytes : List ℕ) (x : PartitionData) (rest : List ℕ) → 128 ≤ size → IsBytes bytes
    → partition_at size bytes ≡ Ok (x, rest) → EntryTaken size bytes x rest
entry_takes size bytes x rest wide fits e =
    let read = bind_ok _ _ (x, rest) e in
    let same = ok_is (told_entry read.0.0, read.0.1) (x, rest) read.2 in
    subst (λ (y : PartitionData × List ℕ). EntryTaken size bytes y.0 y.1) same
    (fields_taken size bytes read.0.0 read.0.1 wide fits read.1)

-- The fields of a partition's entry.
fields_of : (size : ℕ) (bytes : List ℕ) (x : PartitionData) → IsPartition size bytes x → EntryFields
fields_of size bytes x is = record {
  kind = x.kind;
  guid = x.guid;
  first = x.first;
  last = x.last;
  attributes = x.attributes;
  name_field = is.name_field;
  beyond = is.beyond;
}

entry_is : (size : ℕ) (bytes : List ℕ) (x : PartitionData) (is : IsPartition size bytes x) → (entry size).Is (fields_of size bytes x is)
unfolding entry fields_of
entry_is size bytes x is =
    let beyond : length is.beyond ≡ size - 128 = omega (arith, is.size_is) in
    ((is.kind_size, (is.guid_size, (is.first_fits, (is.last_fits, (is.attributes_fits, (is.name_size, beyond)))))), refl)

told_is : (size : ℕ) (bytes : List ℕ) (x : PartitionData) (is : IsPartition size bytes x) → told_entry (fields_of size bytes x is) ≡ x
unfolding fields_of
told_is size bytes x is =
    ap (λ (n : List ℕ). record { kind = x.kind; guid = x.guid; first = x.first; last = x.last; attributes = x.attributes; name = n })
    (sym is.name_is)

spelled_is : (size : ℕ) (bytes : List ℕ) (x : PartitionData) (is : IsPartition size bytes x) → bytes ≡ (entry size).spell (fields_of size bytes x is)
unfolding entry fields_of
spelled_is size bytes x is = is.spelled

pub entry_again : (size : ℕ) (bytes prefix rest : List ℕ) (x : PartitionData) → bytes ≡ prefix ++ rest → IsPartition size prefix x
    → partition_at size bytes ≡ Ok (x, rest)
entry_again size bytes prefix rest x parts is =
    let fields = fields_of size prefix x is in
    let read = again (entry_exact size) fields rest (entry_is size prefix x is) in
    ap (partition_at size) (parts ∙ ap (λ (f : List ℕ). f ++ rest) (spelled_is size prefix x is))
    ∙ rw read (ap (λ (y : PartitionData). Ok (y, rest)) (told_is size prefix x is))

-- An entry's bytes are as many as its size says.
pub entry_size : (size : ℕ) (bytes : List ℕ) (x : PartitionData) → IsPartition size bytes x → length bytes ≡ size
entry_size size bytes x is =
    let spelled = ap (λ (b : List ℕ). length b) (spelled_is size bytes x is) in
    let wide : 128 ≤ size = omega (arith, is.size_is) in
    omega (arith, spelled, (entry_fixed size).spells (fields_of size bytes x is) (entry_is size bytes x is))

pub entry_reached : (size : ℕ) (bytes : List ℕ) → 128 ≤ size → IsBytes bytes → size ≤ length bytes
    → (x : PartitionData × List ℕ) × (partition_at size bytes ≡ Ok x)
entry_reached size bytes wide fits long =
    let read = reaches (entry_exact size) (entry_fixed size) bytes fits (omega (arith, wide, long)) in
    ((told_entry read.0.0, read.0.1), rw read.1 refl)

pub no_entry : (size : ℕ) → partition_at size [] ≡ Err Form
unfolding entry
no_entry size = refl

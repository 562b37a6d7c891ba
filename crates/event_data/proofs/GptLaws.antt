-- Tables of partitions: what is read is what was spelled, and what is spelled is read.
use Rattle.std.proofs.Common.{◌≡◌, ℕ, zero, suc, ◌*◌, ◌≤◌, ◌<◌, ◌^◌, false, ltb, List, [], ◌∷◌, ◌++◌, length, codes, Option, Some, None, option_and_then, Result, Ok, Err, refl, sym, ap, ap₂, subst, ◌∙◌, arith, length-append, suc-mul, zero-mul, append_assoc}
use Rattle.std.specs.Result.{result_ok}
use Rattle.std.proofs.lemmas.Bool.{eqb-true, ltb-false, le-ltb}
use Rattle.std.proofs.lemmas.Bool.Decides.{Decides-eqb}
use Rattle.byte_fields.specs.Items.{AreItems}
use Rattle.byte_fields.proofs.Steps.{IsBytes, bind_ok, test_ok, ok_is}
use Rattle.byte_fields.proofs.FormatLaws.{Exact, takes, again, passes, number32_exact, number64_exact, part_exact, followed_exact, unless_exact, mapped_exact, IsBytes-behind}
use Rattle.event_data.specs.declared.content.Mismatch.{Mismatch}
use Rattle.event_data.specs.declared.content.Mismatch.TheVariants.{Form}
use Rattle.event_data.specs.Names.{GptData, IsGpt, IsPartition, PartitionData, TablePrefix, after_in, fitting, gpt_in, partition_at, partitions_in, partitions_within, table_in, table_prefix, then_more}
use Rattle.byte_fields.specs.Spelling.{number32, number64}
use Rattle.event_data.proofs.AffixLaws.{after_finds}
use Rattle.event_data.proofs.EntryLaws.{entry_takes, entry_again, entry_size, entry_reached, no_entry}
use Rattle.event_data.proofs.Finding.{Finds, ok_some}
use Rattle.event_data.proofs.FormLaws.{AnyFault}

-- ---- entries one after another

none_left : (size steps : ℕ) → partitions_within size steps [] ≡ []
unfolding partitions_within
none_left size zero = refl
none_left size (suc steps) = rw (no_entry size) refl

same_more : (reading : Result (PartitionData × List ℕ) Mismatch) (f g : List ℕ → List PartitionData)
    → ((x : PartitionData) (rest : List ℕ) → reading ≡ Ok (x, rest) → f rest ≡ g rest) → then_more reading f ≡ then_more reading g
same_more (Ok x) f g same = ap (λ (m : List PartitionData). x.0 ∷ m) (same x.0 x.1 refl)
same_more (Err fault) f g same = refl

-- As many steps as bytes are enough: more change nothing.
steps_enough : (size steps more : ℕ) (bytes : List ℕ) → 128 ≤ size → IsBytes bytes → length bytes ≤ steps → length bytes ≤ more
    → partitions_within size steps bytes ≡ partitions_within size more bytes
unfolding partitions_within
steps_enough size steps more [] wide fits s m = none_left size steps ∙ sym (none_left size more)
steps_enough size zero more (b ∷ bytes) wide fits s m = absurd (omega arith)
steps_enough size (suc steps) zero (b ∷ bytes) wide fits s m = absurd (omega arith)
steps_enough size (suc steps) (suc more) (b ∷ bytes) wide fits s m =
    same_more (partition_at size (b ∷ bytes)) (λ rest. partitions_within size steps rest) (λ rest. partitions_within size more rest)
    (λ x rest e.
    let taken = entry_takes size (b ∷ bytes) x rest wide fits e in
    steps_enough size steps more rest wide taken.rest_fits (omega (arith, taken.length_is)) (omega (arith, taken.length_is)))

pub more_left : (size : ℕ) (bytes : List ℕ) (x : PartitionData) (rest : List ℕ) → 128 ≤ size → IsBytes bytes
    → partition_at size bytes ≡ Ok (x, rest) → partitions_in size bytes ≡ x ∷ partitions_in size rest
unfolding partitions_within
more_left size [] x rest wide fits e = let none = no_entry size in absurd cc
more_left size (b ∷ bytes) x rest wide fits e =
    let taken = entry_takes size (b ∷ bytes) x rest wide fits e in
    rw e (ap (λ (m : List PartitionData). x ∷ m)
    (steps_enough size (length bytes) (length rest) rest wide taken.rest_fits (omega (arith, taken.length_is)) (omega arith)))

pub last_left : (size : ℕ) (bytes : List ℕ) (fault : Mismatch) → partition_at size bytes ≡ Err fault → partitions_in size bytes ≡ []
unfolding partitions_within
last_left size [] fault e = refl
last_left size (b ∷ bytes) fault e = rw e refl

-- ---- all entries

-- The bytes are these partitions, as many as there are.
record AreAll (size count : ℕ) (bytes : List ℕ) (partitions : List PartitionData) : Type 0 where
  are : AreItems (IsPartition size) bytes partitions
  count_is : length partitions ≡ count

empty_is : (bytes : List ℕ) → length bytes ≡ 0 → bytes ≡ []
empty_is [] e = refl
empty_is (b ∷ bytes) e = absurd (omega (arith, e))

entries_are : (size count : ℕ) (bytes : List ℕ) → 128 ≤ size → IsBytes bytes → length bytes ≡ count * size
    → AreAll size count bytes (partitions_in size bytes)
entries_are size zero bytes wide fits e =
    let none = empty_is bytes (e ∙ zero-mul size) in
    subst (λ (b : List ℕ). AreAll size 0 b (partitions_in size b)) (sym none)
    (rw (none_left size 0) (record { are = refl; count_is = refl }))
entries_are size (suc count) bytes wide fits e =
    let long = suc-mul count size in
    let first = entry_reached size bytes wide fits (omega (arith, e, long)) in
    let taken = entry_takes size bytes first.0.0 first.0.1 wide fits first.1 in
    let others = entries_are size count first.0.1 wide taken.rest_fits (omega (arith, e, long, taken.length_is)) in
    rw (more_left size bytes first.0.0 first.0.1 wide fits first.1)
    (record { are = (taken.prefix, first.0.1, taken.parts, taken.is, others.are); count_is = ap suc others.count_is })

entries_length : (size : ℕ) (bytes : List ℕ) (partitions : List PartitionData) → AreItems (IsPartition size) bytes partitions
    → length bytes ≡ length partitions * size
entries_length size bytes [] are = ap (λ (b : List ℕ). length b) are ∙ sym (zero-mul size)
entries_length size bytes (x ∷ partitions) are =
    let all = ap (λ (b : List ℕ). length b) are.2 ∙ length-append are.0 are.1 in
    let long = suc-mul (length partitions) size in
    omega (arith, all, long, entry_size size are.0 x are.3, entries_length size are.1 partitions are.4)

entries_again : (size steps : ℕ) (bytes : List ℕ) (partitions : List PartitionData) → 128 ≤ size → length bytes ≤ steps
    → AreItems (IsPartition size) bytes partitions → partitions_within size steps bytes ≡ partitions
unfolding partitions_within
entries_again size steps bytes [] wide enough are = ap (partitions_within size steps) are ∙ none_left size steps
entries_again size zero bytes (x ∷ partitions) wide enough are =
    let all = ap (λ (b : List ℕ). length b) are.2 ∙ length-append are.0 are.1 in
    absurd (omega (arith, all, entry_size size are.0 x are.3))
entries_again size (suc steps) bytes (x ∷ partitions) wide enough are =
    let all = ap (λ (b : List ℕ). length b) are.2 ∙ length-append are.0 are.1 in
    rw (entry_again size bytes are.0 are.1 x are.2 are.3)
    (ap (λ (m : List PartitionData). x ∷ m)
    (entries_again size steps are.1 partitions wide (omega (arith, all, entry_size size are.0 x are.3)) are.4))

-- ---- the table

prefix_exact : Exact AnyFault table_prefix
unfolding table_prefix
prefix_exact =
    mapped_exact (λ x is. refl)
    (followed_exact (part_exact Form 48 tt) (λ places. followed_exact (part_exact Form 16 tt) (λ disk.
    followed_exact (part_exact Form 12 tt) (λ array.
    followed_exact (unless_exact _ Form tt (number32_exact {P = AnyFault} Form tt)) (λ size.
    followed_exact (part_exact Form 4 tt) (λ check. number64_exact {P = AnyFault} Form tt))))))

-- What follows the signature is this table.
record IsTable (bytes : List ℕ) (gpt : GptData) : Type 0 where
  prefix : TablePrefix
  entries : List ℕ
  is : table_prefix.Is prefix
  parts : bytes ≡ table_prefix.spell prefix ++ entries
  wide : 128 ≤ prefix.size
  disk : prefix.disk ≡ gpt.disk
  count : prefix.count ≡ length gpt.partitions
  are : AreItems (IsPartition prefix.size) entries gpt.partitions

prefix_wide : (prefix : TablePrefix) → table_prefix.Is prefix → 128 ≤ prefix.size
unfolding table_prefix
prefix_wide prefix is = ltb-false prefix.size 128 (passes _ Form prefix.size prefix.size is.0.1.1.1.0.1)

table_taken : (bytes : List ℕ) (prefix : TablePrefix) (entries : List ℕ) → IsBytes bytes → table_prefix.at bytes ≡ Ok (prefix, entries)
    → length entries ≡ prefix.count * prefix.size → IsTable bytes (record { disk = prefix.disk; partitions = partitions_in prefix.size entries })
table_taken bytes prefix entries fits e size =
    let taken = takes prefix_exact bytes (prefix, entries) fits e in
    let wide = prefix_wide prefix taken.is in
    let rest_fits = IsBytes-behind bytes (table_prefix.spell prefix) entries taken.parts fits in
    let all = entries_are prefix.size prefix.count entries wide rest_fits size in
    record {
      prefix = prefix;
      entries = entries;
      is = taken.is;
      parts = taken.parts;
      wide = wide;
      disk = refl;
      count = sym all.count_is;
      are = all.are;
    }

table_takes : (bytes : List ℕ) (gpt : GptData) → IsBytes bytes → table_in bytes ≡ Ok gpt → IsTable bytes gpt
table_takes bytes gpt fits e =
    let read = bind_ok _ _ gpt e in
    let prefix = bind_ok _ _ read.0 read.1 in
    let same = ok_is ((prefix.0.0.disk, (prefix.0.0.size, prefix.0.0.count)), prefix.0.1) read.0 prefix.2 in
    let test = test_ok _ _ _ gpt (ap fitting same ∙ read.2) in
    subst (IsTable bytes) (ok_is _ gpt test.1)
    (table_taken bytes prefix.0.0 prefix.0.1 fits prefix.1 (eqb-true (length prefix.0.1) (prefix.0.0.count * prefix.0.0.size) test.0))

table_again : (bytes : List ℕ) (gpt : GptData) → IsTable bytes gpt → table_in bytes ≡ Ok gpt
table_again bytes gpt is =
    let read = ap table_prefix.at is.parts ∙ again prefix_exact is.prefix is.entries is.is in
    let size : length is.entries ≡ is.prefix.count * is.prefix.size
    = entries_length is.prefix.size is.entries gpt.partitions is.are ∙ ap (λ (n : ℕ). n * is.prefix.size) (sym is.count) in
    let all = entries_again is.prefix.size (length is.entries) is.entries gpt.partitions is.wide (omega arith) is.are in
    let fits = (Decides-eqb (length is.entries) (is.prefix.count * is.prefix.size)).1 size in
    rw (read, is.disk, all, fits) refl

-- ---- the signature and the table

nested : (a b c d e f g : List ℕ) → (a ++ (b ++ (c ++ (d ++ (e ++ f))))) ++ g ≡ a ++ (b ++ (c ++ (d ++ (e ++ (f ++ g)))))
nested a b c d e f g =
    append_assoc a (b ++ (c ++ (d ++ (e ++ f)))) g
    ∙ ap (λ (t : List ℕ). a ++ t) (append_assoc b (c ++ (d ++ (e ++ f))) g
    ∙ ap (λ (t : List ℕ). b ++ t) (append_assoc c (d ++ (e ++ f)) g
    ∙ ap (λ (t : List ℕ). c ++ t) (append_assoc d (e ++ f) g ∙ ap (λ (t : List ℕ). d ++ t) (append_assoc e f g))))

-- The bytes are a signature and a table.
abbrev AreParts : List ℕ → GptData → Type 0
AreParts bytes gpt = (rest : List ℕ) × (bytes ≡ codes "EFI PART" ++ rest) × IsTable rest gpt

parts_are : (bytes : List ℕ) (gpt : GptData) → AreParts bytes gpt → IsGpt bytes gpt
unfolding table_prefix
parts_are bytes gpt is =
    let table = is.2 in
    let prefix = table.prefix in
    let fields = table.is.0 in
    record {
      places = prefix.places;
      array = prefix.array;
      size = prefix.size;
      check = prefix.check;
      entries = table.entries;
      places_size = fields.0;
      disk_size = rw (← table.disk) fields.1.0;
      array_size = fields.1.1.0;
      size_fits = fields.1.1.1.0.0;
      wide = table.wide;
      check_size = fields.1.1.1.1.0;
      count_fits = subst (λ (n : ℕ). n < 2 ^ 64) table.count fields.1.1.1.1.1;
      are = table.are;
      spelled = is.1 ∙ ap (λ (t : List ℕ). codes "EFI PART" ++ t) (table.parts
          ∙ nested prefix.places prefix.disk prefix.array (number32 prefix.size) prefix.check (number64 prefix.count) table.entries
          ∙ ap₂ (λ (d : List ℕ) (n : ℕ). prefix.places ++ (d ++ (prefix.array ++ (number32 prefix.size ++ (prefix.check ++ (number64 n ++ table.entries))))))
          table.disk table.count);
    }

are_parts : (bytes : List ℕ) (gpt : GptData) → IsGpt bytes gpt → AreParts bytes gpt
unfolding table_prefix
are_parts bytes gpt is =
    let count = number64 (length gpt.partitions) in
    let prefix : TablePrefix
    = record { places = is.places; disk = gpt.disk; array = is.array; size = is.size; check = is.check; count = length gpt.partitions } in
    let wide : ltb is.size 128 ≡ false = le-ltb is.size 128 is.wide in
    let rest = is.places ++ (gpt.disk ++ (is.array ++ (number32 is.size ++ (is.check ++ (count ++ is.entries))))) in (
      rest,
      is.spelled,
      record {
        prefix = prefix;
        entries = is.entries;
        is = ((is.places_size, (is.disk_size, (is.array_size, ((is.size_fits, rw wide refl), (is.check_size, is.count_fits))))), refl);
        parts = sym (nested is.places gpt.disk is.array (number32 is.size) is.check count is.entries);
        wide = is.wide;
        disk = refl;
        count = refl;
        are = is.are;
      },
    )

pub gpt_only : (bytes : List ℕ) (gpt : GptData) → IsGpt bytes gpt → gpt_in bytes ≡ Some gpt
gpt_only bytes gpt is =
    let parts = are_parts bytes gpt is in
    ap (option_and_then (λ (rest : List ℕ). result_ok (table_in rest))) ((after_finds (codes "EFI PART") bytes).only parts.0 parts.1)
    ∙ ap result_ok (table_again parts.0 gpt parts.2)

gpt_is : (bytes : List ℕ) (gpt : GptData) → IsBytes bytes → (found : Option (List ℕ))
    → Finds (λ rest. bytes ≡ codes "EFI PART" ++ rest) found
    → option_and_then (λ (rest : List ℕ). result_ok (table_in rest)) found ≡ Some gpt → IsGpt bytes gpt
gpt_is bytes gpt fits (Some rest) f e =
    let parts = f.is rest refl in
    let rest_fits = IsBytes-behind bytes (codes "EFI PART") rest parts fits in
    parts_are bytes gpt (rest, parts, table_takes rest gpt rest_fits (ok_some (table_in rest) gpt e))
gpt_is bytes gpt fits None f e = absurd cc

pub gpt_finds : (bytes : List ℕ) → IsBytes bytes → Finds (IsGpt bytes) (gpt_in bytes)
gpt_finds bytes fits = record {
  is = λ gpt e. gpt_is bytes gpt fits (after_in (codes "EFI PART") bytes) (after_finds (codes "EFI PART") bytes) e;
  only = gpt_only bytes;
}

-- Handed over tables: what is read is what was spelled, and what is spelled is read.
use Rattle.std.proofs.Common.{◌≡◌, ℕ, zero, suc, ◌+◌, ◌*◌, ◌/◌, ◌<◌, List, [], ◌∷◌, ◌++◌, length, Option, Some, None, unwrap_or, Result, Ok, Err, refl, sym, ap, ◌∙◌, length-append, arith}
use Rattle.std.specs.Result.{result_ok}
use Rattle.byte_fields.specs.Formats.{whole}
use Rattle.byte_fields.specs.Spelling.{number64}
use Rattle.byte_fields.proofs.Steps.{IsBytes}
use Rattle.byte_fields.proofs.FormatLaws.{Exact, takes, byte_exact, number64_exact, part_exact, sized_by_exact, followed_exact, mapped_exact, whole_takes, whole_again}
use Rattle.event_data.specs.declared.content.Mismatch.{Mismatch}
use Rattle.event_data.specs.declared.content.Mismatch.TheVariants.{Form}
use Rattle.event_data.specs.Names.{AreTables, HandoffData, IsDescribedHandoff, IsHandoff, IsTable, TableData, counted_pointers, described_handoff, described_handoff_in, handoff_in, pointers_in, table, tables_of}
use Rattle.event_data.specs.HandoffReading.{handoff}
use Rattle.event_data.proofs.Finding.{Finds, whole_finds}
use Rattle.event_data.proofs.FixedSize.{Fixed, fixed_part, fixed_number64, fixed_followed, fixed_mapped, reaches}
use Rattle.event_data.proofs.FormLaws.{AnyFault}
use Rattle.event_data.proofs.TakenLaws.{all_takes, taken_fits, taken_more, taken_none}

-- ---- the pointers

by_24 : (size count : ℕ) → size ≡ 24 * count → size / 24 ≡ count
by_24 size count e = omega (arith, e)

times_24 : (size count : ℕ) → size ≡ 24 * count → size ≡ 24 * (size / 24)
times_24 size count e = omega (arith, e)

counted_exact : Exact AnyFault counted_pointers
counted_exact = followed_exact (number64_exact {P = AnyFault} Form tt) (λ count. part_exact Form (24 * count) tt)

-- ---- tables without a description

-- The description of tables that were read.
described : Result HandoffData Mismatch → Option (List ℕ)
described (Ok given) = given.description
described (Err fault) = None

plain_exact : Exact AnyFault handoff
unfolding handoff described
plain_exact = mapped_exact (λ x is. ap (λ (n : ℕ). (n, x.1)) (by_24 (length x.1) x.0 is.1)) counted_exact

plain_takes : (bytes : List ℕ) (v : HandoffData) → IsBytes bytes → whole Form handoff bytes ≡ Ok v → IsHandoff bytes v
unfolding handoff described
plain_takes bytes v fits e =
    let taken = whole_takes Form plain_exact bytes v fits e in
    record {
      count = length v.pointers / 24;
      no_description = ap (λ (h : Result HandoffData Mismatch). described h) (sym taken.0.1);
      count_fits = taken.0.0.0;
      filled = taken.0.0.1;
      spelled = taken.1;
    }

plain_again : (bytes : List ℕ) (v : HandoffData) → IsHandoff bytes v → whole Form handoff bytes ≡ Ok v
unfolding handoff described
plain_again bytes v is =
    let many = by_24 (length v.pointers) is.count is.filled in
    whole_again Form plain_exact bytes v (
      (rw many is.count_fits, times_24 (length v.pointers) is.count is.filled),
      ap (λ (d : Option (List ℕ)). Ok (record { description = d; pointers = v.pointers })) (sym is.no_description),
    )
    (is.spelled ∙ ap (λ (n : ℕ). number64 n ++ v.pointers) (sym many))

pub handoff_only : (bytes : List ℕ) (v : HandoffData) → IsHandoff bytes v → handoff_in bytes ≡ Some v
handoff_only bytes v is = ap result_ok (plain_again bytes v is)

pub handoff_finds : (bytes : List ℕ) → IsBytes bytes → Finds (IsHandoff bytes) (handoff_in bytes)
handoff_finds bytes fits = whole_finds (whole Form handoff bytes) (λ v e. plain_takes bytes v fits e) (plain_again bytes)

-- ---- tables with a description

described_exact : Exact AnyFault described_handoff
unfolding described_handoff described
described_exact =
    mapped_exact (λ x is. ap (λ (n : ℕ). (x.0, (n, x.1.1))) (by_24 (length x.1.1) x.1.0 is.1.1))
    (followed_exact (sized_by_exact Form tt (byte_exact {P = AnyFault} Form tt)) (λ text. counted_exact))

described_takes : (bytes : List ℕ) (v : HandoffData) → IsBytes bytes → whole Form described_handoff bytes ≡ Ok v → IsDescribedHandoff bytes v
unfolding described_handoff described
described_takes bytes v fits e =
    let taken = whole_takes Form described_exact bytes v fits e in
    record {
      text = unwrap_or v.description [];
      count = length v.pointers / 24;
      description = ap (λ (h : Result HandoffData Mismatch). described h) (sym taken.0.1);
      description_fits = taken.0.0.0.0.0;
      count_fits = taken.0.0.1.0;
      filled = taken.0.0.1.1;
      spelled = taken.1;
    }

described_again : (bytes : List ℕ) (v : HandoffData) → IsDescribedHandoff bytes v → whole Form described_handoff bytes ≡ Ok v
unfolding described_handoff described
described_again bytes v is =
    let many = by_24 (length v.pointers) is.count is.filled in
    let v_is : v ≡ record { description = Some is.text; pointers = v.pointers }
    = ap (λ (d : Option (List ℕ)). record { description = d; pointers = v.pointers }) is.description in
    let read = whole_again Form described_exact bytes (record { description = Some is.text; pointers = v.pointers }) (
      (((is.description_fits, refl), refl), (rw many is.count_fits, times_24 (length v.pointers) is.count is.filled)),
      refl,
    )
    (is.spelled ∙ ap (λ (n : ℕ). length is.text ∷ (is.text ++ (number64 n ++ v.pointers))) (sym many)) in
    read ∙ ap Ok (sym v_is)

pub described_handoff_only : (bytes : List ℕ) (v : HandoffData) → IsDescribedHandoff bytes v → described_handoff_in bytes ≡ Some v
described_handoff_only bytes v is = ap result_ok (described_again bytes v is)

pub described_handoff_finds : (bytes : List ℕ) → IsBytes bytes → Finds (IsDescribedHandoff bytes) (described_handoff_in bytes)
described_handoff_finds bytes fits =
    whole_finds (whole Form described_handoff bytes) (λ v e. described_takes bytes v fits e) (described_again bytes)

-- ---- tables

pub table_exact : Exact AnyFault table
unfolding table
table_exact = mapped_exact (λ x is. refl) (followed_exact (part_exact Form 16 tt) (λ vendor. number64_exact {P = AnyFault} Form tt))

table_fixed : Fixed (16 + 8) table
unfolding table
table_fixed = fixed_mapped (fixed_followed (fixed_part Form 16) (λ vendor. fixed_number64 Form))

pub some_table : (t : TableData) → table.Is t → 0 < length (table.spell t)
some_table t is = omega (arith, table_fixed.spells t is)

pub table_into : (t : TableData) → table.Is t → IsTable (table.spell t) t
unfolding table
table_into t is = record { vendor_size = is.0.0; address_fits = is.0.1; spelled = refl }

pub table_out : (prefix : List ℕ) (t : TableData) → IsTable prefix t → table.Is t × (prefix ≡ table.spell t)
unfolding table
table_out prefix t is = (((is.vendor_size, is.address_fits), refl), is.spelled)

-- The tables are this many, and nothing remains.
record AreCounted (count : ℕ) (taken : List TableData × List ℕ) : Type 0 where
  many : length taken.0 ≡ count
  none : taken.1 ≡ []

one_more : (count : ℕ) (t : TableData) (taken : List TableData × List ℕ) → AreCounted count taken → AreCounted (suc count) (t ∷ taken.0, taken.1)
one_more count t taken are = record { many = omega (arith, are.many); none = are.none }

empty_is : (bytes : List ℕ) → length bytes ≡ 0 → bytes ≡ []
empty_is [] e = refl
empty_is (b ∷ bytes) e = absurd (omega (arith, e))

pointers_count : (count : ℕ) (bytes : List ℕ) → IsBytes bytes → length bytes ≡ 24 * count → AreCounted count (pointers_in bytes)
pointers_count zero bytes fits e =
    rw (empty_is bytes (omega (arith, e))) (rw (taken_none table_exact some_table 0) (record { many = refl; none = refl }))
pointers_count (suc count) bytes fits e =
    let first = reaches table_exact table_fixed bytes fits (omega (arith, e)) in
    let taken = takes table_exact bytes first.0 fits first.1 in
    let size = ap (λ (b : List ℕ). length b) taken.parts ∙ length-append (table.spell first.0.0) first.0.1 in
    let left : length first.0.1 ≡ 24 * count = omega (arith, size, table_fixed.spells first.0.0 taken.is, e) in
    let others = taken_fits table_exact some_table bytes first.0.0 first.0.1 fits first.1 in
    rw (taken_more table_exact some_table bytes first.0.0 first.0.1 fits first.1)
    (one_more count first.0.0 (pointers_in first.0.1) (pointers_count count first.0.1 others left))

pub tables_are : (given : HandoffData) (count : ℕ) → IsBytes given.pointers → length given.pointers ≡ 24 * count
    → AreTables given.pointers (tables_of given) × (length (tables_of given) ≡ count)
tables_are given count fits e =
    let counted = pointers_count count given.pointers fits e in (
      all_takes table_exact some_table IsTable table_into table_out given.pointers (tables_of given) fits (rw counted.none refl),
      counted.many,
    )

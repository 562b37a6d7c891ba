-- Lists of signatures: what is read is what was spelled, and what is spelled is read.
use Rattle.std.proofs.Common.{◌≡◌, ℕ, zero, suc, ◌+◌, ◌-◌, ◌*◌, ◌/◌, ◌%◌, ◌^◌, ◌≤◌, ◌<◌, Bool, false, true, not, ltb, List, [], ◌∷◌, ◌++◌, length, take, drop, Ok, refl, sym, ap, ◌∙◌, append_assoc, arith}
use Rattle.std.proofs.lemmas.Bool.{ltb-false, le-ltb, or_parts, eqb-true}
use Rattle.std.proofs.lemmas.Nat.{div-add-mod'}
use Rattle.std.proofs.Math.Nat.{mul-mod_left}
use Rattle.std.proofs.lemmas.List.{length-append, length-take, length-drop, take-append-drop}
use Rattle.byte_fields.specs.Spelling.{number32}
use Rattle.byte_fields.proofs.Steps.{IsBytes}
use Rattle.byte_fields.proofs.FormatLaws.{Exact, again, passes, number32_exact, part_exact, followed_exact, unless_exact, mapped_exact, IsBytes-behind}
use Rattle.event_data.specs.declared.content.Mismatch.TheVariants.{Form}
use Rattle.event_data.specs.Names.{AreSignatures, IsSignatureList, IsSignatureOf, ListData, SignatureData, signature_list, signatures_in, signatures_of}
use Rattle.event_data.specs.ValueReading.{signature}
use Rattle.event_data.proofs.FormLaws.{AnyFault}
use Rattle.event_data.proofs.TakenLaws.{all_takes, taken_more, taken_none, taken_fits}
use Rattle.event_data.proofs.ValueLaws.{signature_exact, some_signature}

-- ---- lists

list_size : (size header signatures header_size : ℕ) → ltb size (28 + header_size) ≡ false → header ≡ header_size
    → signatures ≡ size - 28 - header_size → 28 + header + signatures ≡ size
list_size size header signatures header_size less h s = omega (arith, ltb-false size (28 + header_size) less, h, s)

pub list_exact : Exact AnyFault signature_list
unfolding signature_list
list_exact =
    let number = number32_exact {P = AnyFault} Form tt in
    mapped_exact (λ x is.
    ap (λ (n : ℕ). (x.0, (n, (length x.1.1.1.1.0, x.1.1.1))))
    (list_size x.1.0 (length x.1.1.1.1.0) (length x.1.1.1.1.1) x.1.1.0 (passes _ Form x.1.1.0 x.1.1.0 is.1.1.0.1) is.1.1.1.1.0 is.1.1.1.1.1)
    ∙ ap (λ (n : ℕ). (x.0, (x.1.0, (n, x.1.1.1)))) is.1.1.1.1.0)
    (followed_exact (part_exact Form 16 tt) (λ kind. followed_exact number (λ size.
    followed_exact (unless_exact _ Form tt number) (λ header_size.
    followed_exact (unless_exact _ Form tt number) (λ each.
    followed_exact (part_exact Form header_size tt) (λ header. part_exact Form (size - 28 - header_size) tt))))))

abbrev list_tail : ListData → List ℕ
list_tail l =
    number32 (28 + length l.header + length l.signatures) ++ (number32 (length l.header)
    ++ (number32 l.signature_size ++ (l.header ++ l.signatures)))

pub some_list : (l : ListData) → signature_list.Is l → 0 < length (signature_list.spell l)
unfolding signature_list
some_list l is =
    let whole : length (signature_list.spell l) ≡ length l.kind + length (list_tail l) = length-append l.kind (list_tail l) in
    omega (arith, is.0.0, whole)

not_false : (b : Bool) → not b ≡ false → b ≡ true
not_false true e = refl
not_false false e = absurd cc

whole_count : (size each : ℕ) → size % each ≡ 0 → size ≡ size / each * each
whole_count size each e = omega (arith, div-add-mod' size each, e)

no_rest : (size each count : ℕ) → size ≡ count * each → size % each ≡ 0
no_rest size each count e = rw e (mul-mod_left count each)

same_left : (header signatures : ℕ) → 28 + header + signatures - 28 - header ≡ signatures
same_left header signatures = omega arith

pub list_into : (l : ListData) → signature_list.Is l → IsSignatureList (signature_list.spell l) l
unfolding signature_list
list_into l is =
    let each = l.signature_size in
    let parts = or_parts (ltb each 16) _ (passes _ Form each each is.0.1.1.1.0.1) in
    let filled = eqb-true ((28 + length l.header + length l.signatures - 28 - length l.header) % each) 0 (not_false _ parts.1) in
    record {
      count = length l.signatures / each;
      kind_size = is.0.0;
      least_size = ltb-false each 16 parts.0;
      size_fits = is.0.1.1.1.0.0;
      filled = whole_count (length l.signatures) each (ap (λ (n : ℕ). n % each) (sym (same_left (length l.header) (length l.signatures))) ∙ filled);
      list_fits = is.0.1.0;
      spelled = refl;
    }

pub list_out : (prefix : List ℕ) (l : ListData) → IsSignatureList prefix l → signature_list.Is l × (prefix ≡ signature_list.spell l)
unfolding signature_list
list_out prefix l is =
    let each = l.signature_size in
    let header = length l.header in
    let signatures = length l.signatures in
    let large : ltb (28 + header + signatures) (28 + header) ≡ false = le-ltb _ _ (omega arith) in
    let least : ltb each 16 ≡ false = le-ltb _ _ is.least_size in
    let left : signatures ≡ 28 + header + signatures - 28 - header = omega arith in
    let none : (28 + header + signatures - 28 - header) % each ≡ 0 =
    ap (λ (n : ℕ). n % each) (sym left) ∙ no_rest signatures each is.count is.filled in
    let fits : header < 2 ^ 32 = omega (arith, is.list_fits) in
    (((is.kind_size, (is.list_fits, ((fits, rw large refl), ((is.size_fits, rw (least, none) refl), (refl, left))))), refl), is.spelled)

-- ---- the number of a list's signatures

none_left : (bytes : List ℕ) → length bytes ≡ 0 → bytes ≡ []
none_left [] e = refl
none_left (b ∷ bytes) e = absurd (omega (arith, e))

-- One signature more.
signature_first : (size : ℕ) (bytes : List ℕ) → 16 ≤ size → size ≤ length bytes
    → (s : SignatureData) × (rest : List ℕ) × ((signature size).at bytes ≡ Ok (s, rest)) × (length rest + size ≡ length bytes)
unfolding signature
signature_first size bytes least enough =
    let owner = take 16 bytes in
    let others = drop 16 bytes in
    let payload = take (size - 16) others in
    let rest = drop (size - 16) others in
    let s : SignatureData = record { owner = owner; payload = payload } in
    let parts : bytes ≡ (owner ++ payload) ++ rest =
    sym (take-append-drop 16 bytes)
    ∙ ap (λ (t : List ℕ). owner ++ t) (sym (take-append-drop (size - 16) others))
    ∙ sym (append_assoc owner payload rest) in
    let owner_size : length owner ≡ 16 = omega (arith, length-take 16 bytes, least, enough) in
    let payload_size : length payload ≡ size - 16 = omega (arith, length-take (size - 16) others, length-drop 16 bytes, least, enough) in
    let left : length rest + size ≡ length bytes = omega (arith, length-drop (size - 16) others, length-drop 16 bytes, least, enough) in
    (s, rest, ap (signature size).at parts ∙ again (signature_exact size) s rest ((owner_size, payload_size), refl), left)

-- The signatures are this many, and nothing remains.
record AreCounted (count : ℕ) (taken : List SignatureData × List ℕ) : Type 0 where
  pub many : length taken.0 ≡ count
  pub none : taken.1 ≡ []

one_more : (count : ℕ) (s : SignatureData) (taken : List SignatureData × List ℕ) → AreCounted count taken
    → AreCounted (suc count) (s ∷ taken.0, taken.1)
one_more count s taken are = record { many = omega (arith, are.many); none = are.none }

signatures_count : (count size : ℕ) (bytes : List ℕ) → IsBytes bytes → 16 ≤ size → length bytes ≡ count * size
    → AreCounted count (signatures_in size bytes)
signatures_count zero size bytes fits least e =
    rw (none_left bytes (omega (arith, e))) (rw (taken_none (signature_exact size) (some_signature size) 0) (record { many = refl; none = refl }))
signatures_count (suc count) size bytes fits least e =
    let first = signature_first size bytes least (omega (arith, e)) in
    let more = taken_more (signature_exact size) (some_signature size) bytes first.0 first.1 fits first.2 in
    let left : length first.1 ≡ count * size = omega (arith, first.3, e) in
    let others = taken_fits (signature_exact size) (some_signature size) bytes first.0 first.1 fits first.2 in
    rw more (one_more count first.0 (signatures_in size first.1) (signatures_count count size first.1 others least left))

pub signatures_counted : (size : ℕ) (bytes : List ℕ) → IsBytes bytes → 16 ≤ size → length bytes % size ≡ 0
    → length bytes / size ≡ length (signatures_in size bytes).0
signatures_counted size bytes fits least e =
    sym (signatures_count (length bytes / size) size bytes fits least (whole_count (length bytes) size e)).many

-- ---- a list's signatures, by the relation

pub of_size : (size : ℕ) → 16 ≤ size → (s : SignatureData) → (signature size).Is s → IsSignatureOf size ((signature size).spell s) s
unfolding signature
of_size size least s is =
    (record { owner_size = is.0.0; spelled = refl }, length-append s.owner s.payload ∙ omega (arith, is.0.0, is.0.1, least))

pub size_out : (size : ℕ) (prefix : List ℕ) (s : SignatureData) → IsSignatureOf size prefix s
    → (signature size).Is s × (prefix ≡ (signature size).spell s)
unfolding signature
size_out size prefix s is =
    let whole : length prefix ≡ length s.owner + length s.payload = ap length is.0.spelled ∙ length-append s.owner s.payload in
    (((is.0.owner_size, omega (arith, whole, is.0.owner_size, is.1)), refl), is.0.spelled)

signatures_fit : (bytes : List ℕ) (l : ListData) → IsSignatureList bytes l → IsBytes bytes → IsBytes l.signatures
signatures_fit bytes l is fits =
    let size = number32 (28 + length l.header + length l.signatures) in
    let header = number32 (length l.header) in
    let each = number32 l.signature_size in
    IsBytes-behind (l.header ++ l.signatures) l.header l.signatures refl
    (IsBytes-behind (each ++ (l.header ++ l.signatures)) each (l.header ++ l.signatures) refl
    (IsBytes-behind (header ++ (each ++ (l.header ++ l.signatures))) header (each ++ (l.header ++ l.signatures)) refl
    (IsBytes-behind (list_tail l) size (header ++ (each ++ (l.header ++ l.signatures))) refl
    (IsBytes-behind bytes l.kind (list_tail l) is.spelled fits))))

pub list_signatures : (bytes : List ℕ) (l : ListData) → IsBytes bytes → IsSignatureList bytes l
    → AreSignatures l.signature_size l.signatures (signatures_of l)
list_signatures bytes l fits is =
    let size = l.signature_size in
    let own = signatures_fit bytes l is fits in
    let counted = signatures_count is.count size l.signatures own is.least_size is.filled in
    all_takes (signature_exact size) (some_signature size) (IsSignatureOf size) (of_size size is.least_size) (size_out size) l.signatures
    (signatures_of l) own (rw counted.none refl)

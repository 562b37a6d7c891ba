-- Items one after another: a loop that reads them gives what `items_from` gives.
use Rattle.std.proofs.Common.{◌≡◌, ℕ, zero, suc, ◌+◌, ◌-◌, ◌<◌, ◌≤◌, ◌⊎◌, List, [], ◌∷◌, ◌++◌, length, Result, Ok, Err, refl, sym, ap, ◌∙◌, append_assoc, arith, inl, inr}
use Rattle.std.specs.Prelude.{IsOk, Bool, true, false, eqb}
use Rattle.std.proofs.lemmas.Bool.{eqb-true}
use Rattle.std.proofs.lemmas.List.{append-nil, length-append}
use Rattle.byte_fields.specs.Reading.{◌>>=◌, items_at, items_within, items_from}
use Rattle.byte_fields.proofs.Steps.{IsBytes}

-- A reader of items, each of at least one byte.
abbrev pub Shortens : {X E : Type 0} → (ℕ → List ℕ → Result (X × List ℕ) E) → Type 0
Shortens {X} item_at =
    (k : ℕ) (bytes : List ℕ) (item : X) (after : List ℕ) → IsBytes bytes → item_at k bytes ≡ Ok (item, after)
    → IsBytes after × (length after < length bytes)

-- A step over the first item, where bytes are left.
pub items_step : {X E : Type 0} (item_at : ℕ → List ℕ → Result (X × List ℕ) E) (lost : ℕ → E) (steps k : ℕ) (bytes : List ℕ) (item : X)
    (after : List ℕ)
    → 0 < length bytes → item_at k bytes ≡ Ok (item, after)
    → items_within item_at lost (suc steps) k bytes ≡ (items_within item_at lost steps (k + 1) after >>= λ others. Ok (item ∷ others))
unfolding items_within
items_step item_at lost steps k [] item after some e = absurd (omega arith)
items_step item_at lost steps k (byte ∷ bytes) item after some e = rw e refl

pub items_none : {X E : Type 0} (item_at : ℕ → List ℕ → Result (X × List ℕ) E) (lost : ℕ → E) (steps k : ℕ)
    → items_within item_at lost steps k [] ≡ Ok []
unfolding items_within
items_none item_at lost zero k = refl
items_none item_at lost (suc steps) k = refl

same_after : {X E : Type 0} (r : Result (X × List ℕ) E) (f g : X × List ℕ → Result (List X) E)
    → ((item : X) (after : List ℕ) → r ≡ Ok (item, after) → f (item, after) ≡ g (item, after)) → (r >>= f) ≡ (r >>= g)
same_after (Ok x) f g same = same x.0 x.1 refl
same_after (Err fault) f g same = refl

-- As many steps as bytes are enough: more change nothing.
pub items_enough : {X E : Type 0} (item_at : ℕ → List ℕ → Result (X × List ℕ) E) (lost : ℕ → E) → Shortens item_at
    → (steps more k : ℕ) (bytes : List ℕ) → IsBytes bytes → length bytes ≤ steps → length bytes ≤ more
    → items_within item_at lost steps k bytes ≡ items_within item_at lost more k bytes
unfolding items_within
items_enough item_at lost shortens steps more k [] fits s m = items_none item_at lost steps k ∙ sym (items_none item_at lost more k)
items_enough item_at lost shortens zero more k (byte ∷ bytes) fits s m = absurd (omega arith)
items_enough item_at lost shortens (suc steps) zero k (byte ∷ bytes) fits s m = absurd (omega arith)
items_enough {X} {E} item_at lost shortens (suc steps) (suc more) k (byte ∷ bytes) fits s m =
    same_after (item_at k (byte ∷ bytes))
    (λ first. items_within item_at lost steps (k + 1) first.1 >>= λ others. Ok (first.0 ∷ others))
    (λ first. items_within item_at lost more (k + 1) first.1 >>= λ others. Ok (first.0 ∷ others))
    (λ item after e.
    let shorter = shortens k (byte ∷ bytes) item after fits e in
    ap (λ (r : Result (List X) E). r >>= λ others. Ok (item ∷ others))
    (items_enough item_at lost shortens steps more (k + 1) after shorter.0 (omega (arith, shorter.1)) (omega (arith, shorter.1))))

-- What is read after these items, with these before them.
abbrev pub with_prefix : {X E : Type 0} → List X → Result (List X) E → Result (List X) E
with_prefix prefix reading = reading >>= λ others. Ok (prefix ++ others)

-- After some of the items: reading what is left gives what reading all gives.
pub record ReadsOn {X E : Type 0} (item_at : ℕ → List ℕ → Result (X × List ℕ) E) (lost : ℕ → E) (start : ℕ) (bytes : List ℕ)
    (items : List X) (rest : List ℕ) : Type 0 where
  pub reading : with_prefix items (items_from item_at lost (length items + start) rest) ≡ items_from item_at lost start bytes
  pub fits : IsBytes rest
  pub shorter : length items + length rest ≤ length bytes
  pub begun : ((items ≡ []) × (rest ≡ bytes)) ⊎ IsOk (item_at start bytes)

pub with_none : {X E : Type 0} (r : Result (List X) E) → with_prefix [] r ≡ r
with_none (Ok items) = refl
with_none (Err fault) = refl

pub reads_at_first : {X E : Type 0} (item_at : ℕ → List ℕ → Result (X × List ℕ) E) (lost : ℕ → E) (start : ℕ) (bytes : List ℕ)
    → IsBytes bytes → ReadsOn item_at lost start bytes [] bytes
reads_at_first {X} item_at lost start bytes fits =
    let none : 0 + start ≡ start = omega arith in
    record {
      reading = ap (λ (k : ℕ). with_prefix [] (items_from item_at lost k bytes)) none ∙ with_none (items_from item_at lost start bytes);
      fits = fits;
      shorter = omega arith;
      begun = inl (refl, refl);
    }

with_one_more : {X E : Type 0} (prefix : List X) (item : X) (r : Result (List X) E)
    → with_prefix prefix (r >>= λ others. Ok (item ∷ others)) ≡ with_prefix (prefix ++ item ∷ []) r
with_one_more {X} prefix item (Ok others) = ap (λ (xs : List X). Ok xs) (sym (append_assoc prefix (item ∷ []) others))
with_one_more prefix item (Err fault) = refl

-- Reading what is left is reading its first item, and then the rest.
pub from_first : {X E : Type 0} (item_at : ℕ → List ℕ → Result (X × List ℕ) E) (lost : ℕ → E) → Shortens item_at
    → (k : ℕ) (rest : List ℕ) (item : X) (after : List ℕ) → IsBytes rest → 0 < length rest → item_at k rest ≡ Ok (item, after)
    → items_from item_at lost k rest ≡ (items_from item_at lost (k + 1) after >>= λ others. Ok (item ∷ others))
from_first {X} {E} item_at lost shortens k rest item after fits some e =
    let shorter = shortens k rest item after fits e in
    let steps : length rest ≡ suc (length rest - 1) = omega arith in
    let enough = items_enough item_at lost shortens (length rest - 1) (length after) (k + 1) after shorter.0 (omega (arith, shorter.1))
    (omega arith) in
    ap (λ (n : ℕ). items_within item_at lost n k rest) steps
    ∙ items_step item_at lost (length rest - 1) k rest item after some e
    ∙ ap (λ (r : Result (List X) E). r >>= λ others. Ok (item ∷ others)) enough

pub from_fault : {X E : Type 0} (item_at : ℕ → List ℕ → Result (X × List ℕ) E) (lost : ℕ → E) (k : ℕ) (rest : List ℕ) (fault : E)
    → 0 < length rest → item_at k rest ≡ Err fault → items_from item_at lost k rest ≡ Err fault
unfolding items_within
from_fault item_at lost k [] fault some e = absurd (omega arith)
from_fault item_at lost k (byte ∷ rest) fault some e = rw e refl

begun_first : {X E : Type 0} (item_at : ℕ → List ℕ → Result (X × List ℕ) E) (start : ℕ) (bytes : List ℕ) (items : List X) (rest : List ℕ)
    (x : X × List ℕ)
    → items ≡ [] → rest ≡ bytes → item_at (length items + start) rest ≡ Ok x → IsOk (item_at start bytes)
begun_first {X} item_at start bytes items rest x none all e =
    let k : length items + start ≡ start = ap (λ (xs : List X). length xs + start) none ∙ (omega arith) in
    let one : item_at start bytes ≡ Ok x = sym (ap (λ (n : ℕ). item_at n rest) k ∙ ap (item_at start) all) ∙ e in
    rw one refl

pub has_begun : {X E : Type 0} (item_at : ℕ → List ℕ → Result (X × List ℕ) E) (lost : ℕ → E) (start : ℕ) (bytes : List ℕ) (items : List X)
    (rest : List ℕ) (x : X × List ℕ)
    → ReadsOn item_at lost start bytes items rest → item_at (length items + start) rest ≡ Ok x → IsOk (item_at start bytes)
has_begun item_at lost start bytes items rest x on e =
    elim on.begun [
      | inl first ↦ begun_first item_at start bytes items rest x first.0 first.1 e
      | inr begun ↦ begun
    ]

pub reads_on : {X E : Type 0} (item_at : ℕ → List ℕ → Result (X × List ℕ) E) (lost : ℕ → E) → Shortens item_at
    → (start : ℕ) (bytes : List ℕ) (items : List X) (rest : List ℕ) (item : X) (after : List ℕ)
    → 0 < length rest → ReadsOn item_at lost start bytes items rest → item_at (length items + start) rest ≡ Ok (item, after)
    → ReadsOn item_at lost start bytes (items ++ item ∷ []) after
reads_on item_at lost shortens start bytes items rest item after some on e =
    let shorter = shortens (length items + start) rest item after on.fits e in
    let count : length (items ++ item ∷ []) + start ≡ length items + start + 1 = omega (arith, length-append items (item ∷ [])) in
    let first = from_first item_at lost shortens (length items + start) rest item after on.fits some e in
    record {
      reading = rw count (sym (with_one_more items item (items_from item_at lost (length items + start + 1) after))
          ∙ ap (with_prefix items) (sym first) ∙ on.reading);
      fits = shorter.0;
      shorter = omega (arith, on.shorter, shorter.1, length-append items (item ∷ []));
      begun = inr (has_begun item_at lost start bytes items rest (item, after) on e);
    }

pub reads_fault : {X E : Type 0} (item_at : ℕ → List ℕ → Result (X × List ℕ) E) (lost : ℕ → E) (start : ℕ) (bytes : List ℕ)
    (items : List X) (rest : List ℕ) (fault : E)
    → 0 < length rest → ReadsOn item_at lost start bytes items rest → item_at (length items + start) rest ≡ Err fault
    → items_from item_at lost start bytes ≡ Err fault
reads_fault item_at lost start bytes items rest fault some on e =
    sym on.reading ∙ ap (with_prefix items) (from_fault item_at lost (length items + start) rest fault some e)

pub reads_to_end : {X E : Type 0} (item_at : ℕ → List ℕ → Result (X × List ℕ) E) (lost : ℕ → E) (start : ℕ) (bytes : List ℕ)
    (items : List X) (rest : List ℕ)
    → rest ≡ [] → ReadsOn item_at lost start bytes items rest → items_from item_at lost start bytes ≡ Ok items
reads_to_end {X} {E} item_at lost start bytes items rest none on =
    let last : items_from item_at lost (length items + start) rest ≡ Ok [] = rw none (items_none item_at lost 0 (length items + start)) in
    sym on.reading ∙ ap (with_prefix items) last ∙ ap (λ (xs : List X). Ok xs) (append-nil items)

-- ---- a loop over `count` items: reading what is left gives what reading all gives

pub items_at_first : {X E : Type 0} (item_at : List X → List ℕ → Result (X × List ℕ) E) (count : ℕ) (bytes : List ℕ)
    → items_at item_at (count - 0) [] bytes ≡ items_at item_at count [] bytes
items_at_first item_at count bytes = ap (λ (n : ℕ). items_at item_at n [] bytes) (omega arith)

pub items_on : {X E : Type 0} (item_at : List X → List ℕ → Result (X × List ℕ) E) (count i : ℕ) (bytes : List ℕ) (before : List X)
    (rest : List ℕ) (item : X) (after : List ℕ)
    → i < count → item_at before rest ≡ Ok (item, after) → items_at item_at (count - i) before rest ≡ items_at item_at count [] bytes
    → items_at item_at (count - (i + 1)) (before ++ item ∷ []) after ≡ items_at item_at count [] bytes
unfolding items_at
items_on item_at count i bytes before rest item after lt e on =
    let n : count - i ≡ suc (count - (i + 1)) = omega arith in
    let one : items_at item_at (count - i) before rest ≡ items_at item_at (count - (i + 1)) (before ++ item ∷ []) after =
    rw (n, e) refl in
    sym one ∙ on

pub items_fault : {X E : Type 0} (item_at : List X → List ℕ → Result (X × List ℕ) E) (count i : ℕ) (bytes : List ℕ) (before : List X)
    (rest : List ℕ) (fault : E)
    → i < count → item_at before rest ≡ Err fault → items_at item_at (count - i) before rest ≡ items_at item_at count [] bytes
    → items_at item_at count [] bytes ≡ Err fault
unfolding items_at
items_fault item_at count i bytes before rest fault lt e on =
    let n : count - i ≡ suc (count - (i + 1)) = omega arith in
    let one : items_at item_at (count - i) before rest ≡ Err fault = rw (n, e) refl in
    sym on ∙ one

pub items_to_end : {X E : Type 0} (item_at : List X → List ℕ → Result (X × List ℕ) E) (count i : ℕ) (bytes : List ℕ)
    (before : List X) (rest : List ℕ)
    → count ≤ i → items_at item_at (count - i) before rest ≡ items_at item_at count [] bytes
    → items_at item_at count [] bytes ≡ Ok (before, rest)
unfolding items_at
items_to_end item_at count i bytes before rest le on =
    let n : count - i ≡ 0 = omega arith in
    let one : items_at item_at (count - i) before rest ≡ Ok (before, rest) = rw n refl in
    sym on ∙ one

-- ---- tests of what is left

pub not_empty : (is_empty : Bool) (bytes : List ℕ) → is_empty ≡ eqb (length bytes) 0 → is_empty ≡ false → 0 < length bytes
not_empty is_empty [] e f = absurd cc
not_empty is_empty (byte ∷ bytes) e f = omega arith

pub empty : (is_empty : Bool) (bytes : List ℕ) → is_empty ≡ eqb (length bytes) 0 → is_empty ≡ true → bytes ≡ []
empty is_empty [] e f = refl
empty is_empty (byte ∷ bytes) e f = let none : length (byte ∷ bytes) ≡ 0 = eqb-true (length (byte ∷ bytes)) 0 (sym e ∙ f) in absurd
    (omega arith)

-- Items one after another, whatever an item is: reading from left to right, the one list of items that bytes begin with, and the
-- longest.
use Rattle.std.proofs.Common.{◌≡◌, ℕ, zero, suc, ◌+◌, ◌<◌, ◌≤◌, List, [], ◌∷◌, ◌++◌, length, Result, Ok, Err, refl, sym, ap, subst, ◌∙◌, append_assoc, arith}
use Rattle.std.proofs.lemmas.List.{length-append, append-nil}
use Rattle.byte_fields.specs.Reading.{◌>>=◌, items_within, items_from}
use Rattle.byte_fields.specs.Items.{AreItems, BeginsWithItems, BeginsWithNoItem, FailsAtItem}
use Rattle.byte_fields.proofs.Steps.{IsBytes, ok_is, ok_not_err}
use Rattle.byte_fields.proofs.SequenceLaws.{Shortens, items_none, from_first}
use Rattle.byte_fields.proofs.FormatLaws.{IsBytes-behind}

-- What the reader took is an item.
abbrev pub TakesItems : {X E : Type 0} → (ℕ → List ℕ → Result (X × List ℕ) E) → (List ℕ → X → Type 0) → Type 0
TakesItems {X} item_at Is =
    (k : ℕ) (bytes : List ℕ) (x : X × List ℕ) → IsBytes bytes → item_at k bytes ≡ Ok x
    → (prefix : List ℕ) × (bytes ≡ prefix ++ x.1) × Is prefix x.0

-- An item has at least one byte.
abbrev pub HasLength : {X : Type 0} → (List ℕ → X → Type 0) → Type 0
HasLength {X} Is = (prefix : List ℕ) (x : X) → Is prefix x → 0 < length prefix

-- A reader of items: what it takes is an item, each item is read, an item has at least one byte, and a fault is one of the item's
-- number.
pub record ReadsItems {X E : Type 0} (item_at : ℕ → List ℕ → Result (X × List ℕ) E) (Is : List ℕ → X → Type 0)
    (Fails : ℕ → List ℕ → E → Type 0) : Type 0 where
  pub takes : TakesItems item_at Is
  pub again : (k : ℕ) (prefix : List ℕ) (x : X) (rest : List ℕ) → Is prefix x → item_at k (prefix ++ rest) ≡ Ok (x, rest)
  pub some : HasLength Is
  pub fault : (k : ℕ) (bytes : List ℕ) (d : E) → IsBytes bytes → item_at k bytes ≡ Err d → Fails k bytes d

-- Reading an item leaves fewer bytes.
pub shortens : {X E : Type 0} {item_at : ℕ → List ℕ → Result (X × List ℕ) E} {Is : List ℕ → X → Type 0} → TakesItems item_at Is
    → HasLength Is → Shortens item_at
shortens takes some k bytes item after fits e =
    let taken = takes k bytes (item, after) fits e in
    let size = some taken.0 item taken.2 in
    (IsBytes-behind bytes taken.0 after taken.1 fits, omega (arith, size, ap length taken.1, length-append taken.0 after))

-- What reading gives: the items, or the fault.
abbrev pub IsItemsReading : {X E : Type 0} → (List ℕ → X → Type 0) → (ℕ → List ℕ → E → Type 0) → ℕ → List ℕ → Result (List X) E → Type 0
IsItemsReading Is Fails k bytes (Ok items) = AreItems Is bytes items
IsItemsReading Is Fails k bytes (Err fault) = FailsAtItem Is Fails k bytes fault

module _ {X E : Type 0} {item_at : ℕ → List ℕ → Result (X × List ℕ) E} {Is : List ℕ → X → Type 0}
    {Fails : ℕ → List ℕ → E → Type 0} (r : ReadsItems item_at Is Fails) where
  -- ---- reading from left to right

  pub no_item : (k : ℕ) (bytes : List ℕ) (d : E) → item_at k bytes ≡ Err d → BeginsWithNoItem Is bytes
  no_item k bytes d e x prefix rest parts is =
      ok_not_err (x, rest) d (sym (ap (item_at k) parts ∙ r.again k prefix x rest is) ∙ e)

  reading_after : (k : ℕ) (bytes prefix after : List ℕ) (x : X) (reading : Result (List X) E) → bytes ≡ prefix ++ after → Is prefix x
      → IsItemsReading Is Fails (k + 1) after reading → IsItemsReading Is Fails k bytes (reading >>= λ others. Ok (x ∷ others))
  reading_after k bytes prefix after x (Ok others) parts is are = (prefix, after, parts, is, are)
  reading_after k bytes prefix after x (Err d) parts is fails = record {
    items = x ∷ fails.items;
    rest = fails.rest;
    begins = record {
      prefix = prefix ++ fails.begins.prefix;
      parts = parts ∙ ap (λ (t : List ℕ). prefix ++ t) fails.begins.parts
          ∙ sym (append_assoc prefix fails.begins.prefix fails.rest);
      are = (prefix, fails.begins.prefix, refl, is, fails.begins.are);
    };
    some_left = fails.some_left;
    no_item = fails.no_item;
    fault_is = subst (λ (n : ℕ). Fails n fails.rest d) (omega arith) fails.fault_is;
  }

  reading_first : (k : ℕ) (bytes : List ℕ) (first : Result (X × List ℕ) E) (others : X × List ℕ → Result (List X) E) → IsBytes bytes
      → 0 < length bytes → item_at k bytes ≡ first
      → ((x : X) (after : List ℕ) → item_at k bytes ≡ Ok (x, after) → IsItemsReading Is Fails (k + 1) after (others (x, after)))
      → IsItemsReading Is Fails k bytes (first >>= λ x. others x >>= λ xs. Ok (x.0 ∷ xs))
  reading_first k bytes (Ok x) others fits some e next =
      let taken = r.takes k bytes x fits e in
      reading_after k bytes taken.0 x.1 x.0 (others x) taken.1 taken.2 (next x.0 x.1 e)
  reading_first k bytes (Err d) others fits some e next = record {
    items = [];
    rest = bytes;
    begins = record { prefix = []; parts = refl; are = refl };
    some_left = some;
    no_item = no_item k bytes d e;
    fault_is = subst (λ (n : ℕ). Fails n bytes d) (omega arith) (r.fault k bytes d fits e);
  }

  reading_within : (lost : ℕ → E) (steps k : ℕ) (bytes : List ℕ) → IsBytes bytes → length bytes ≤ steps
      → IsItemsReading Is Fails k bytes (items_within item_at lost steps k bytes)
  unfolding items_within
  reading_within lost zero k [] fits enough = refl
  reading_within lost (suc steps) k [] fits enough = refl
  reading_within lost zero k (byte ∷ bytes) fits enough = absurd (omega arith)
  reading_within lost (suc steps) k (byte ∷ bytes) fits enough =
      reading_first k (byte ∷ bytes) (item_at k (byte ∷ bytes)) (λ x. items_within item_at lost steps (k + 1) x.1) fits (omega arith) refl
      (λ x after e.
      let shorter = shortens r.takes r.some k (byte ∷ bytes) x after fits e in
      reading_within lost steps (k + 1) after shorter.0 (omega (arith, shorter.1)))

  -- Reading from left to right gives the items, or the fault of the item that is missing.
  pub items_reading : (lost : ℕ → E) (k : ℕ) (bytes : List ℕ) → IsBytes bytes
      → IsItemsReading Is Fails k bytes (items_from item_at lost k bytes)
  items_reading lost k bytes fits = reading_within lost (length bytes) k bytes fits (omega arith)

  -- ---- the items that bytes begin with

  pub one_item : (prefix other rest left : List ℕ) (x y : X) → Is prefix x → Is other y → prefix ++ rest ≡ other ++ left
      → (x ≡ y) × (rest ≡ left)
  one_item prefix other rest left x y is-x is-y same =
      let e = ok_is (x, rest) (y, left) (sym (r.again 0 prefix x rest is-x) ∙ ap (item_at 0) same ∙ r.again 0 other y left is-y) in
      (ap (λ (p : X × List ℕ). p.0) e, ap (λ (p : X × List ℕ). p.1) e)

  -- The first item and what follows it.
  first_of : (bytes : List ℕ) (x : X) (xs : List X) (rest : List ℕ) → BeginsWithItems Is bytes (x ∷ xs) rest
      → (prefix after : List ℕ) × (bytes ≡ prefix ++ after) × Is prefix x × BeginsWithItems Is after xs rest
  first_of bytes x xs rest begins =
      let prefix = begins.are.0 in
      let others = begins.are.1 in (
        prefix,
        others ++ rest,
        begins.parts ∙ ap (λ (t : List ℕ). t ++ rest) begins.are.2 ∙ append_assoc prefix others rest,
        begins.are.3,
        record { prefix = others; parts = refl; are = begins.are.4 },
      )

  none_left : (bytes rest : List ℕ) → BeginsWithItems Is bytes [] rest → bytes ≡ rest
  none_left bytes rest begins = begins.parts ∙ ap (λ (t : List ℕ). t ++ rest) begins.are

  -- Of each length, bytes begin with at most one list of items.
  pub same_items : (xs ys : List X) (bytes rest left : List ℕ) → length xs ≡ length ys → BeginsWithItems Is bytes xs rest
      → BeginsWithItems Is bytes ys left → (xs ≡ ys) × (rest ≡ left)
  same_items [] [] bytes rest left size a b = (refl, sym (none_left bytes rest a) ∙ none_left bytes left b)
  same_items [] (y ∷ ys) bytes rest left size a b = absurd (omega arith)
  same_items (x ∷ xs) [] bytes rest left size a b = absurd (omega arith)
  same_items (x ∷ xs) (y ∷ ys) bytes rest left size a b =
      let p = first_of bytes x xs rest a in
      let q = first_of bytes y ys left b in
      let same = one_item p.0 q.0 p.1 q.1 x y p.3 q.3 (sym p.2 ∙ q.2) in
      let others = same_items xs ys p.1 rest left (omega arith) p.4 (rw same.1 q.4) in
      (rw (same.0, others.0) refl, others.1)

  -- Where the remaining bytes begin with no item, the bytes begin with no longer list of items.
  pub no_longer : (xs ys : List X) (bytes rest left : List ℕ) → BeginsWithItems Is bytes xs rest → BeginsWithNoItem Is rest
      → BeginsWithItems Is bytes ys left → length ys ≤ length xs
  no_longer xs [] bytes rest left a none b = omega arith
  no_longer [] (y ∷ ys) bytes rest left a none b =
      let q = first_of bytes y ys left b in
      absurd (none y q.0 q.1 (sym (none_left bytes rest a) ∙ q.2) q.3)
  no_longer (x ∷ xs) (y ∷ ys) bytes rest left a none b =
      let p = first_of bytes x xs rest a in
      let q = first_of bytes y ys left b in
      let same = one_item p.0 q.0 p.1 q.1 x y p.3 q.3 (sym p.2 ∙ q.2) in
      omega (arith, no_longer xs ys p.1 rest left p.4 none (rw same.1 q.4))

  pub none_in_nothing : BeginsWithNoItem Is []
  none_in_nothing x prefix rest parts is = omega (arith, r.some prefix x is, ap length parts, length-append prefix rest)

  -- Bytes are at most one list of items.
  pub one_list : (bytes : List ℕ) (xs ys : List X) → AreItems Is bytes xs → AreItems Is bytes ys → xs ≡ ys
  one_list bytes xs ys a b =
      let begins-a : BeginsWithItems Is bytes xs [] = record { prefix = bytes; parts = sym (append-nil bytes); are = a } in
      let begins-b : BeginsWithItems Is bytes ys [] = record { prefix = bytes; parts = sym (append-nil bytes); are = b } in
      let up = no_longer xs ys bytes [] [] begins-a none_in_nothing begins-b in
      let down = no_longer ys xs bytes [] [] begins-b none_in_nothing begins-a in
      (same_items xs ys bytes [] [] (omega (arith, up, down)) begins-a begins-b).0

  -- Bytes that are items are read as them.
  pub items_again : (lost : ℕ → E) (k : ℕ) (bytes : List ℕ) (items : List X) → IsBytes bytes → AreItems Is bytes items
      → items_from item_at lost k bytes ≡ Ok items
  items_again lost k bytes [] fits none = rw none (items_none item_at lost 0 k)
  items_again lost k bytes (x ∷ items) fits are =
      let some : 0 < length bytes = omega (arith, r.some are.0 x are.3, ap length are.2, length-append are.0 are.1) in
      let read : item_at k bytes ≡ Ok (x, are.1) = ap (item_at k) are.2 ∙ r.again k are.0 x are.1 are.3 in
      from_first item_at lost (shortens r.takes r.some) k bytes x are.1 fits some read
      ∙ rw (items_again lost (k + 1) are.1 items (IsBytes-behind bytes are.0 are.1 are.2 fits) are.4) refl

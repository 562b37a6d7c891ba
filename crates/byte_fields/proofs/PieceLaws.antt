-- Items whose bytes come in pieces, whatever an item is: what one more item adds to those before it, what stays when more bytes
-- follow, and where an item ends that a piece completes.
use Rattle.std.proofs.Common.{◌≡◌, ℕ, ◌+◌, ◌-◌, ◌<◌, ◌≤◌, List, [], ◌∷◌, ◌++◌, length, drop, Result, Err, refl, sym, ap, ◌∙◌, append_assoc, arith, inl, inr}
use Rattle.std.proofs.lemmas.Bool.{cases_lt}
use Rattle.std.proofs.lemmas.List.{append-nil, drop_at, length-append}
use Rattle.byte_fields.specs.Items.{AreItems, BeginsWithItems, BeginsWithNoItem, FailsAtItem}
use Rattle.byte_fields.proofs.ItemLaws.{ReadsItems, no_item, no_longer, same_items}

-- ---- one more item

are_more : {X : Type 0} (Is : List ℕ → X → Type 0) (prefix last : List ℕ) (items : List X) (x : X) → AreItems Is prefix items → Is last x
    → AreItems Is (prefix ++ last) (items ++ x ∷ [])
are_more Is prefix last [] x are is = (last, [], ap (λ (t : List ℕ). t ++ last) are ∙ sym (append-nil last), is, refl)
are_more Is prefix last (y ∷ items) x are is =
    let others = are_more Is are.1 last items x are.4 is in
    (are.0, are.1 ++ last, ap (λ (t : List ℕ). t ++ last) are.2 ∙ append_assoc are.0 are.1 last, are.3, others)

-- Where one more item follows some items, what remains is what the one item leaves.
pub one_more : {X : Type 0} {Is : List ℕ → X → Type 0} (bytes rest prefix after : List ℕ) (items : List X) (x : X)
    → rest ≡ prefix ++ after → Is prefix x → BeginsWithItems Is bytes items rest → BeginsWithItems Is bytes (items ++ x ∷ []) after
one_more {X} {Is} bytes rest prefix after items x parts is begins = record {
  prefix = begins.prefix ++ prefix;
  parts = begins.parts ∙ ap (λ (t : List ℕ). begins.prefix ++ t) parts ∙ sym (append_assoc begins.prefix prefix after);
  are = are_more Is begins.prefix prefix items x begins.are is;
}

-- ---- what stays when more bytes follow

-- Items at the start are still there when more bytes follow.
pub items_longer : {X : Type 0} {Is : List ℕ → X → Type 0} (bytes more : List ℕ) (items : List X) (rest : List ℕ)
    → BeginsWithItems Is bytes items rest → BeginsWithItems Is (bytes ++ more) items (rest ++ more)
items_longer bytes more items rest begins = record {
  prefix = begins.prefix;
  parts = ap (λ (t : List ℕ). t ++ more) begins.parts ∙ append_assoc begins.prefix rest more;
  are = begins.are;
}

-- Each fault that lasts is still the item's when more bytes follow, and is read there.
abbrev pub FaultsLast : {X E : Type 0} → (ℕ → List ℕ → Result (X × List ℕ) E) → (ℕ → List ℕ → E → Type 0) → (E → Type 0) → Type 0
FaultsLast {X} {E} item_at Fails Lasts =
    (k : ℕ) (bytes more : List ℕ) (d : E) → Lasts d → Fails k bytes d
    → Fails k (bytes ++ more) d × (item_at k (bytes ++ more) ≡ Err d)

-- What was read so far: the items at the start of the bytes, and the bytes kept after them, which begin with no item and have no
-- fault that lasts.
pub record AreReadSoFar {X E : Type 0} (Is : List ℕ → X → Type 0) (Fails : ℕ → List ℕ → E → Type 0) (Lasts : E → Type 0)
    (bytes : List ℕ) (items : List X) (kept : List ℕ) : Type 0 where
  pub begins : BeginsWithItems Is bytes items kept
  pub no_item : BeginsWithNoItem Is kept
  pub no_fault : (k : ℕ) (d : E) → Lasts d → Fails k kept d → ⊥

-- Where two texts are the same, and the first has the shorter rest, its prefix is the other's prefix and what lies between.
overlap : {A : Type 0} (prefix other rest left : List A) → prefix ++ rest ≡ other ++ left → length rest ≤ length left
    → (middle : List A) × (prefix ≡ other ++ middle) × (left ≡ middle ++ rest)
overlap prefix [] rest left same shorter = (prefix, refl, sym same)
overlap [] (y ∷ other) rest left same shorter = absurd (omega (arith, ap length same, length-append other left))
overlap {A} (x ∷ prefix) (y ∷ other) rest left same shorter =
    let further = overlap prefix other rest left (ap (drop 1) same) shorter in
    let head : x ≡ y = cc in
    (further.0, ap (λ (t : List A). x ∷ t) further.1 ∙ ap (λ (z : A). z ∷ (other ++ further.0)) head, further.2)

module _ {X E : Type 0} {item_at : ℕ → List ℕ → Result (X × List ℕ) E} {Is : List ℕ → X → Type 0}
    {Fails : ℕ → List ℕ → E → Type 0} (r : ReadsItems item_at Is Fails) {Lasts : E → Type 0} where
  -- A lasting fault of the sequence is still its fault when more bytes follow.
  pub fault_longer : FaultsLast item_at Fails Lasts → (k : ℕ) (bytes more : List ℕ) (d : E) → Lasts d → FailsAtItem Is Fails k bytes d
      → FailsAtItem Is Fails k (bytes ++ more) d
  fault_longer last k bytes more d lasts fails =
      let n = length fails.items + k in
      let on = last n fails.rest more d lasts fails.fault_is in
      record {
        items = fails.items;
        rest = fails.rest ++ more;
        begins = items_longer bytes more fails.items fails.rest fails.begins;
        some_left = omega (arith, fails.some_left, length-append fails.rest more);
        no_item = no_item r n (fails.rest ++ more) d on.1;
        fault_is = on.0;
      }

  -- What was read so far has no fault that lasts.
  pub none_lasting : (k : ℕ) (bytes kept : List ℕ) (items : List X) (d : E) → AreReadSoFar Is Fails Lasts bytes items kept → Lasts d
      → FailsAtItem Is Fails k bytes d → ⊥
  none_lasting k bytes kept items d so_far lasts fails =
      let up = no_longer r items fails.items bytes kept fails.rest so_far.begins so_far.no_item fails.begins in
      let down = no_longer r fails.items items bytes fails.rest kept fails.begins fails.no_item so_far.begins in
      let same = same_items r fails.items items bytes fails.rest kept (omega (arith, up, down)) fails.begins so_far.begins in
      so_far.no_fault (length fails.items + k) d lasts (rw same.1 at fails.fault_is)

  -- ---- chunks that are added to what is kept

  -- Where a chunk completes an item, the item ends within the chunk.
  pub ends_in_chunk : (bytes kept chunk surplus : List ℕ) (items others : List X) → AreReadSoFar Is Fails Lasts bytes items kept
      → length items < length others → BeginsWithItems Is (bytes ++ chunk) others surplus → length surplus ≤ length chunk
  ends_in_chunk bytes kept chunk surplus items others so_far more begins =
      elim (cases_lt (length chunk) (length surplus)) [
        | inl lt ↦
            let split = overlap bytes begins.prefix chunk surplus begins.parts (omega arith) in
            let whole : BeginsWithItems Is bytes others split.0 = record { prefix = begins.prefix; parts = split.1; are = begins.are } in
            absurd (omega (arith, more, no_longer r items others bytes kept split.0 so_far.begins so_far.no_item whole))
        | inr le ↦ le
      ]

-- Where items end within a chunk, what remains after them is the rest of the chunk, and what follows the chunk.
pub after_chunk : {X : Type 0} {Is : List ℕ → X → Type 0} (bytes chunk surplus after : List ℕ) (items : List X)
    → length surplus ≤ length chunk → BeginsWithItems Is (bytes ++ chunk) items surplus
    → BeginsWithItems Is ((bytes ++ chunk) ++ after) items (drop (length chunk - length surplus) (chunk ++ after))
after_chunk bytes chunk surplus after items shorter begins =
    let split = overlap begins.prefix bytes surplus chunk (sym begins.parts) shorter in
    let count : length split.0 ≡ length chunk - length surplus =
    omega (arith, ap length split.2, length-append split.0 surplus) in
    let left : drop (length chunk - length surplus) (chunk ++ after) ≡ surplus ++ after =
    ap (drop (length chunk - length surplus)) (ap (λ (t : List ℕ). t ++ after) split.2 ∙ append_assoc split.0 surplus after)
    ∙ drop_at split.0 (surplus ++ after) (length chunk - length surplus) count in
    rw left (items_longer (bytes ++ chunk) after items surplus begins)

-- Items one after another. A relation says what an item is: `Is prefix x` means that the bytes `prefix` are the item `x`.
use Rattle.std.specs.Prelude.{◌≡◌, ℕ, ◌+◌, ◌<◌, List, [], ◌∷◌, ◌++◌, length}

-- The bytes are these items, one after another.
abbrev pub AreItems : {X : Type 0} → (List ℕ → X → Type 0) → List ℕ → List X → Type 0
AreItems Is bytes [] = bytes ≡ []
AreItems Is bytes (x ∷ xs) = (prefix rest : List ℕ) × (bytes ≡ prefix ++ rest) × Is prefix x × AreItems Is rest xs

-- The bytes begin with these items, and `rest` remains.
pub record BeginsWithItems {X : Type 0} (Is : List ℕ → X → Type 0) (bytes : List ℕ) (items : List X) (rest : List ℕ)
    : Type 0 where
  pub prefix : List ℕ
  pub parts : bytes ≡ prefix ++ rest
  pub are : AreItems Is prefix items

-- No prefix of the bytes is an item.
abbrev pub BeginsWithNoItem : {X : Type 0} → (List ℕ → X → Type 0) → List ℕ → Type 0
BeginsWithNoItem {X} Is bytes = (x : X) (prefix rest : List ℕ) → bytes ≡ prefix ++ rest → Is prefix x → ⊥

-- After some items, numbered from `start`, some bytes remain that begin with no item, and the fault belongs to the missing item:
-- `Fails k rest fault` says that it belongs to item k where `rest` remains.
pub record FailsAtItem {X E : Type 0} (Is : List ℕ → X → Type 0) (Fails : ℕ → List ℕ → E → Type 0) (start : ℕ) (bytes : List ℕ)
    (fault : E) : Type 0 where
  pub items : List X
  pub rest : List ℕ
  pub begins : BeginsWithItems Is bytes items rest
  pub some_left : 0 < length rest
  pub no_item : BeginsWithNoItem Is rest
  pub fault_is : Fails (length items + start) rest fault

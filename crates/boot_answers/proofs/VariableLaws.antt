-- Variables, by vendor and name.
use Rattle.std.proofs.Common.{◌≡◌, ℕ, List, Some, None, ap}
use Rattle.event_data.specs.Names.{VariableData}

some_is : {A : Type 0} (x y : A) → Some x ≡ Some y → x ≡ y
some_is x y e = cc

pub value_of_same : (v : VariableData) (guid name value : List ℕ) → Some v ≡ Some (record { guid = guid; name = name; value = value })
    → Some v.value ≡ Some value
value_of_same v guid name value e =
    ap (λ (w : VariableData). Some w.value) (some_is v (record { guid = guid; name = name; value = value }) e)

-- A variable of another vendor or name has no value that is asked for.
pub none_of_other : (v : VariableData) (guid name value : List ℕ) → ((v.guid ≡ guid) × (v.name ≡ name) → ⊥)
    → Some v ≡ Some (record { guid = guid; name = name; value = value }) → None ≡ Some value
none_of_other v guid name value other e =
    let same = some_is v (record { guid = guid; name = name; value = value }) e in
    absurd (other (ap (λ (w : VariableData). w.guid) same, ap (λ (w : VariableData). w.name) same))

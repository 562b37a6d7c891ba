-- What a source lost.
use Rattle.std.proofs.Common.{List, [], ℕ, ◌++◌, Option, None, Some, refl, sym, ap, ◌∙◌, append_assoc}
use Rattle.std.specs.Io.KnownBytes.{Consumes, Keeps}

-- Nothing.
pub Consumes-none : (a : Option (List ℕ)) → Consumes a a []
Consumes-none None = tt
Consumes-none (Some bytes) = refl

-- One piece after another.
pub Consumes-then : (a b c : Option (List ℕ)) (first second : List ℕ) → Consumes a b first → Consumes b c second
    → Consumes a c (first ++ second)
Consumes-then None b c first second p q = tt
Consumes-then (Some x) None c first second p q = absurd p
Consumes-then (Some x) (Some y) None first second p q = absurd q
Consumes-then (Some x) (Some y) (Some z) first second p q = p ∙ ap (λ (l : List ℕ). first ++ l) q ∙ sym (append_assoc first second z)

-- A piece, and then no other.
pub Consumes-kept : (a b c : Option (List ℕ)) (first : List ℕ) → Consumes a b first → Keeps b c → Consumes a c first
Consumes-kept None b c first p q = tt
Consumes-kept (Some x) None c first p q = absurd p
Consumes-kept (Some x) (Some y) None first p q = absurd q
Consumes-kept (Some x) (Some y) (Some z) first p q = p ∙ ap (λ (l : List ℕ). first ++ l) (sym q)

-- A test that fails.
use Rattle.std.proofs.Common.{◌≡◌, ℕ, Bool, true, false, List}
use Rattle.std.specs.Prelude.{◌↔◌, IsTrue}
use Rattle.std.specs.Str.{IsUtf8, is_utf8}
use Rattle.std.proofs.lemmas.Bool.{false_from_ne_true}
use Rattle.std.proofs.lemmas.Str.{IsUtf8-from_is_utf8}

pub not_told : (told : Bool) (P : Type 0) → told ≡ false → (IsTrue told ↔ P) → P → ⊥
not_told true P fails tells holds = absurd cc
not_told false P fails tells holds = let there = tells.1 holds in absurd cc

-- Bytes that are no text.
pub not_utf8 : (bytes : List ℕ) → (IsUtf8 bytes → ⊥) → is_utf8 bytes ≡ false
not_utf8 bytes other = false_from_ne_true (is_utf8 bytes) (λ is. other (IsUtf8-from_is_utf8 bytes is))

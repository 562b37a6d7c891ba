-- The bytes of an image that are hashed.
use Rattle.std.specs.Prelude.{◌≡◌, ℕ, ◌<◌, List, ◌∷◌, ◌++◌, length}

-- What is hashed of a PE image has its signature, `PE` and two NULs (Microsoft, 'PE Format', section 'Signature (Image Only)'; 'Windows
-- Authenticode Portable Executable Signature Format').
pub record IsImageBytes (bytes : List ℕ) : Type 0 where
  pub prefix : List ℕ
  pub back : List ℕ
  pub signature : bytes ≡ prefix ++ 0x50 ∷ 0x45 ∷ 0 ∷ 0 ∷ back
  pub longer : 4 < length bytes

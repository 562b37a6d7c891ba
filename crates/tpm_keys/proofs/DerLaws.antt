-- Bytes without the zeros that they begin with, byte by byte.
use Rattle.std.proofs.Common.{◌≡◌, ◌≢◌, ℕ, ◌+◌, ◌<◌, ◌≤◌, List, drop, length, refl, inl, inr}
use Rattle.std.specs.Prelude.{slice_index}
use Rattle.std.proofs.Math.ListN.{drop_of_length-le}
use Rattle.std.proofs.lemmas.Bool.Decides.{eqb_tells}
use Rattle.std.proofs.lemmas.List.{drop_more}
use Rattle.tpm_keys.specs.KeyInfo.{without_zeros}

-- A zero is left out.
pub zero_goes : (bytes : List ℕ) (i : ℕ) → i < length bytes → slice_index bytes i ≡ 0
    → without_zeros (drop i bytes) ≡ without_zeros (drop (i + 1) bytes)
unfolding without_zeros
zero_goes bytes i lt zero = rw (drop_more bytes i 0 lt, zero) refl

-- At another byte all the others stay.
pub others_stay : (bytes : List ℕ) (i : ℕ) → i < length bytes → slice_index bytes i ≢ 0
    → without_zeros (drop i bytes) ≡ drop i bytes
unfolding without_zeros
others_stay bytes i lt other = elim (eqb_tells (slice_index bytes i) 0) [
  | inl zero ↦ absurd (other zero.1)
  | inr test ↦ rw (drop_more bytes i 0 lt, test.0) refl
]

-- Where no byte is left, none is left out.
pub none_left : (bytes : List ℕ) (i : ℕ) → length bytes ≤ i → without_zeros (drop i bytes) ≡ drop i bytes
unfolding without_zeros
none_left bytes i all = rw (drop_of_length-le bytes {i = i} all) refl

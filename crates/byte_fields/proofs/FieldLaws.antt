-- Numbers and parts that are written are read back.
use Rattle.std.proofs.Common.{◌≡◌, ℕ, ◌^◌, ◌<◌, false, ltb, List, ◌++◌, length, Ok, refl, arith}
use Rattle.std.specs.Int.{Width, w16, w32, w64, byte_len, from_be_bytes, from_le_bytes, to_be_bytes, to_le_bytes}
use Rattle.std.proofs.lemmas.Bool.{le-ltb}
use Rattle.std.proofs.lemmas.List.{take_at, drop_at, length-append}
use Rattle.std.proofs.lemmas.Nat.{be_bytes_2, be_bytes_4, be_bytes_8, from_be_bytes-to_be_bytes_2, from_be_bytes-to_be_bytes_4, from_be_bytes-to_be_bytes_8, le_bytes_2, le_bytes_4, le_bytes_8, from_le_bytes-to_le_bytes_2, from_le_bytes-to_le_bytes_4, from_le_bytes-to_le_bytes_8}
use Rattle.byte_fields.specs.Reading.{number_by, part_at}
use Rattle.byte_fields.proofs.Steps.{IsBytes}

-- ---- numbers

-- The two directions of a width's bytes undo each other, for numbers below the limit.
pub record IsWide (value : Width → List ℕ → ℕ) (spell : Width → ℕ → List ℕ) (w : Width) (limit : ℕ) : Type 0 where
  pub len : (n : ℕ) → length (spell w n) ≡ byte_len w
  pub back : (bytes : List ℕ) → length bytes ≡ byte_len w → IsBytes bytes → spell w (value w bytes) ≡ bytes
  pub again : (n : ℕ) → n < limit → value w (spell w n) ≡ n
  pub below : (bytes : List ℕ) → IsBytes bytes → value w bytes < limit

pub wide16 : IsWide from_le_bytes to_le_bytes w16 (2 ^ 16)
wide16 = record {
  len = λ n. refl;
  back = λ bytes len fits. le_bytes_2 bytes _ len fits refl;
  again = λ n lt. from_le_bytes-to_le_bytes_2 n lt;
  below = λ bytes fits. omega (arith, fits 0, fits 1);
}

pub wide32 : IsWide from_le_bytes to_le_bytes w32 (2 ^ 32)
wide32 = record {
  len = λ n. refl;
  back = λ bytes len fits. le_bytes_4 bytes _ len fits refl;
  again = λ n lt. from_le_bytes-to_le_bytes_4 n lt;
  below = λ bytes fits. omega (arith, fits 0, fits 1, fits 2, fits 3);
}

pub wide64 : IsWide from_le_bytes to_le_bytes w64 (2 ^ 64)
wide64 = record {
  len = λ n. refl;
  back = λ bytes len fits. le_bytes_8 bytes _ len fits refl;
  again = λ n lt. from_le_bytes-to_le_bytes_8 n lt;
  below = λ bytes fits. omega (arith, fits 0, fits 1, fits 2, fits 3, fits 4, fits 5, fits 6, fits 7);
}

pub big16 : IsWide from_be_bytes to_be_bytes w16 (2 ^ 16)
big16 = record {
  len = λ n. refl;
  back = λ bytes len fits. be_bytes_2 bytes _ len fits refl;
  again = λ n lt. from_be_bytes-to_be_bytes_2 n lt;
  below = λ bytes fits. omega (arith, fits 0, fits 1);
}

pub big32 : IsWide from_be_bytes to_be_bytes w32 (2 ^ 32)
big32 = record {
  len = λ n. refl;
  back = λ bytes len fits. be_bytes_4 bytes _ len fits refl;
  again = λ n lt. from_be_bytes-to_be_bytes_4 n lt;
  below = λ bytes fits. omega (arith, fits 0, fits 1, fits 2, fits 3);
}

pub big64 : IsWide from_be_bytes to_be_bytes w64 (2 ^ 64)
big64 = record {
  len = λ n. refl;
  back = λ bytes len fits. be_bytes_8 bytes _ len fits refl;
  again = λ n lt. from_be_bytes-to_be_bytes_8 n lt;
  below = λ bytes fits. omega (arith, fits 0, fits 1, fits 2, fits 3, fits 4, fits 5, fits 6, fits 7);
}

pub number_again : {E : Type 0} {value : Width → List ℕ → ℕ} {spell : Width → ℕ → List ℕ} (fault : E) (w : Width) (limit : ℕ)
    → IsWide value spell w limit → (n : ℕ) (rest : List ℕ) → n < limit → number_by value fault w (spell w n ++ rest) ≡ Ok (n, rest)
number_again {spell = spell} fault w limit wide n rest lt =
    let len = wide.len n in
    let long : ltb (length (spell w n ++ rest)) (byte_len w) ≡ false = le-ltb _ _ (omega (arith, length-append (spell w n) rest)) in
    rw (long, take_at (spell w n) rest (byte_len w) len, drop_at (spell w n) rest (byte_len w) len, wide.again n lt) refl

-- ---- parts

pub part_again : {E : Type 0} (fault : E) (part rest : List ℕ) → part_at fault (length part) (part ++ rest) ≡ Ok (part, rest)
part_again fault part rest =
    let long : ltb (length (part ++ rest)) (length part) ≡ false = le-ltb _ _ (omega (arith, length-append part rest)) in
    rw (long, take_at part rest (length part) refl, drop_at part rest (length part) refl) refl

-- A signature by ECDSA alone: its numbers in DER (RFC 3279, section 2.2.3, ECDSA-Sig-Value).
use Rattle.std.specs.Prelude.{◌≡◌, ℕ, ◌<◌, List, ◌++◌, length, slice_index}
use Rattle.tpm_keys.specs.KeyInfo.{integer, sequence}

-- The bytes are the DER of r and s. No byte of these is spare, and their length fits one byte, as it does for each valid signature
-- (`numbers_of_signatures_are_short`).
pub record IsPlain (bytes r s : List ℕ) : Type 0 where
  pub r_first : 0 < slice_index r 0
  pub s_first : 0 < slice_index s 0
  pub short : length (integer r ++ integer s) < 0x80
  pub spelled : bytes ≡ sequence (integer r ++ integer s)

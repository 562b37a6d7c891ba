-- The text of a GUID (RFC 4122, section 3). Of the 16 bytes the first three numbers, of four, two and two bytes, are little endian (UEFI
-- 2.10, appendix A).
use Rattle.std.specs.Prelude.{ℕ, List, [], ◌∷◌, ◌++◌, codes, map, slice_index}
use Rattle.hex.specs.Hex.{encode_lower}

-- The bytes at these places; 0 where there is none.
abbrev pub bytes_at : List ℕ → List ℕ → List ℕ
bytes_at places bytes = map (λ place. slice_index bytes place) places

unfoldable pub guid_text : List ℕ → List ℕ
guid_text guid =
    encode_lower (bytes_at (3 ∷ 2 ∷ 1 ∷ 0 ∷ []) guid) ++ codes "-" ++ encode_lower (bytes_at (5 ∷ 4 ∷ []) guid) ++ codes "-"
    ++ encode_lower (bytes_at (7 ∷ 6 ∷ []) guid) ++ codes "-" ++ encode_lower (bytes_at (8 ∷ 9 ∷ []) guid) ++ codes "-"
    ++ encode_lower (bytes_at (10 ∷ 11 ∷ 12 ∷ 13 ∷ 14 ∷ 15 ∷ []) guid)

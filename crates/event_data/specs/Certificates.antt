-- Certificates: a relation between bytes and what they are, and its reading from left to right.
use Rattle.std.specs.Prelude.{◌≡◌, ℕ, ◌^◌, ◌<◌, ◌≤◌, nat_lt, Bool, true, false, if◌then◌else◌, List, [], ◌∷◌, ◌++◌, length, Option, Some, None, option_and_then}
use Rattle.std.specs.Option.{option_map_or}
use Rattle.std.specs.Result.{result_ok}
use Rattle.std.specs.Int.{w16, to_be_bytes}
use Rattle.byte_fields.specs.Formats.{Format, big_number, sized_by, unless, whole}
use Rattle.event_data.specs.declared.content.Mismatch.{Mismatch}
use Rattle.event_data.specs.declared.content.Mismatch.TheVariants.{Form}
use Rattle.event_data.specs.Results.{after_in}

-- A SEQUENCE in DER whose length is in two bytes begins so (ITU-T X.690, sections 8.1.3.5 and 8.9).
abbrev pub der_prefix : List ℕ
der_prefix = 0x30 ∷ 0x82 ∷ []

-- The bytes are a certificate, as far as its outermost form tells (RFC 5280, section 4.1): a SEQUENCE in DER of 256 bytes or more whose
-- length is in two bytes, and nothing more.
pub record IsCertificate (bytes certificate : List ℕ) : Type 0 where
  pub content : List ℕ
  pub long : 256 ≤ length content
  pub fits : length content < 2 ^ 16
  pub spelled : bytes ≡ der_prefix ++ (to_be_bytes w16 (length content) ++ content)
  pub same : certificate ≡ bytes

-- ---- reading

-- The length, and so many bytes.
unfoldable pub der_content : Format (List ℕ) Mismatch
der_content = sized_by (unless (λ size. nat_lt size 256) Form (big_number Form w16)) Form

abbrev pub is_content : List ℕ → Bool
is_content bytes = option_map_or (λ content. true) (result_ok (whole Form der_content bytes)) false

abbrev pub certificate_in : List ℕ → Option (List ℕ)
certificate_in bytes = option_and_then (λ rest. if is_content rest then Some bytes else None) (after_in der_prefix bytes)

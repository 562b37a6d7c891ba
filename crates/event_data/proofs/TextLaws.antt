-- Texts, GUIDs and localities: what is read is what was spelled, and what is spelled is read.
use Rattle.std.proofs.Common.{◌≡◌, ℕ, ◌*◌, ◌/◌, ◌%◌, Bool, true, false, not, ◌&&◌, cond, eqb, List, [], ◌∷◌, ◌++◌, length, codes, Option, Some, None, option_and_then, unwrap_or, IsUtf8, refl, sym, ap, subst, ◌∙◌, ◌⊎◌, inl, inr, arith}
use Rattle.std.specs.Prelude.{IfSome}
use Rattle.std.specs.Str.{is_utf8}
use Rattle.std.proofs.lemmas.Bool.{eqb-true}
use Rattle.std.proofs.lemmas.Str.{IsUtf8-from_is_utf8, is_utf8-from_IsUtf8}
use Rattle.byte_fields.proofs.Steps.{IsBytes}
use Rattle.byte_fields.proofs.FormatLaws.{IsBytes-behind}
use Rattle.event_data.specs.Names.{IsGuid, IsLocality, IsTechnology, IsText, IsWideText, before_in, even_only, guid_in, has_no_nul, locality_in, one_byte, reserved, technology_in, text_in, wide_text_in}
use Rattle.event_data.proofs.AffixLaws.{before_finds, after_finds, tested, passed}
use Rattle.event_data.proofs.Finding.{Finds, alike_finds, then_finds}

-- ---- texts in UTF-8

both_true : (b c : Bool) → (b && c) ≡ true → (b ≡ true) × (c ≡ true)
both_true true c e = (refl, e)
both_true false c e = absurd cc

and_none : (b c : Bool) → c ≡ false → (b && c) ≡ false
and_none true c e = e
and_none false c e = refl

-- A NUL among bytes.
nul_among : (prefix back : List ℕ) → has_no_nul (prefix ++ 0 ∷ back) ≡ false
nul_among [] back = refl
nul_among (x ∷ prefix) back = and_none (not (eqb x 0)) (has_no_nul (prefix ++ 0 ∷ back)) (nul_among prefix back)

pub no_nul_there : (bytes prefix back : List ℕ) → has_no_nul bytes ≡ true → bytes ≡ prefix ++ 0 ∷ back → ⊥
no_nul_there bytes prefix back none e =
    let there : has_no_nul bytes ≡ false = ap has_no_nul e ∙ nul_among prefix back in
    absurd cc

spelled_by : (found : Option (List ℕ)) (bytes : List ℕ) → Finds (λ prefix. bytes ≡ prefix ++ 0 ∷ []) found
    → (bytes ≡ unwrap_or found bytes) ⊎ (bytes ≡ unwrap_or found bytes ++ 0 ∷ [])
spelled_by (Some x) bytes f = inr (f.is x refl)
spelled_by None bytes f = inl refl

cut_is : (found : Option (List ℕ)) (bytes value : List ℕ) → Finds (λ prefix. bytes ≡ prefix ++ 0 ∷ []) found → has_no_nul value ≡ true
    → (bytes ≡ value) ⊎ (bytes ≡ value ++ 0 ∷ []) → unwrap_or found bytes ≡ value
cut_is (Some x) bytes value f no_nul (inl e) = absurd (no_nul_there value x [] no_nul (sym e ∙ f.is x refl))
cut_is None bytes value f no_nul (inl e) = e
cut_is found bytes value f no_nul (inr e) = ap (λ (o : Option (List ℕ)). unwrap_or o bytes) (f.only value e)

text_is : (bytes text value : List ℕ) → (bytes ≡ text) ⊎ (bytes ≡ text ++ 0 ∷ [])
    → cond (has_no_nul text && is_utf8 text) (Some text) None ≡ Some value → IsText bytes value
text_is bytes text value spelled e =
    let test = tested (has_no_nul text && is_utf8 text) text value e in
    let parts = both_true (has_no_nul text) (is_utf8 text) test.0 in
    subst (IsText bytes) test.1 (record { utf8 = IsUtf8-from_is_utf8 text parts.1; no_nul = parts.0; spelled = spelled })

both_there : (text : List ℕ) → has_no_nul text ≡ true → IsUtf8 text → (has_no_nul text && is_utf8 text) ≡ true
both_there text no_nul utf8 = rw (no_nul, is_utf8-from_IsUtf8 text utf8) refl

pub text_finds : (bytes : List ℕ) → Finds (IsText bytes) (text_in bytes)
text_finds bytes =
    let found = before_in (0 ∷ []) bytes in
    let f = before_finds (0 ∷ []) bytes in
    record {
      is = λ value e. text_is bytes (unwrap_or found bytes) value (spelled_by found bytes f) e;
      only = λ value is.
          let same = cut_is found bytes value f is.no_nul is.spelled in
          ap (λ (t : List ℕ). cond (has_no_nul t && is_utf8 t) (Some t) None) same
          ∙ passed (has_no_nul value && is_utf8 value) value (both_there value is.no_nul is.utf8);
    }

-- ---- texts in units of two bytes

even_half : (n : ℕ) → n % 2 ≡ 0 → n ≡ 2 * (n / 2)
even_half n e = omega (arith, e)

twice_even : (n units : ℕ) → n ≡ 2 * units → n % 2 ≡ 0
twice_even n units e = omega (arith, e)

even_finds : (text : List ℕ) → Finds (λ value. (text ≡ value) × (length value % 2 ≡ 0)) (even_only text)
even_finds text = record {
  is = λ value e.
      let test = tested (eqb (length text % 2) 0) text value e in
      (test.1, ap (λ (t : List ℕ). length t % 2) (sym test.1) ∙ eqb-true (length text % 2) 0 test.0);
  only = λ value is. rw (is.0, is.1) refl;
}

pub wide_text_finds : (bytes : List ℕ) → Finds (IsWideText bytes) (wide_text_in bytes)
wide_text_finds bytes =
    alike_finds
    (λ value is. record {
      units = length value / 2;
      size = even_half (length value) is.2.1;
      spelled = is.1 ∙ ap (λ (t : List ℕ). t ++ 0 ∷ 0 ∷ []) is.2.0;
    })
    (λ value is. (value, is.spelled, (refl, twice_even (length value) is.units is.size)))
    (then_finds (before_finds (0 ∷ 0 ∷ []) bytes) even_finds)

-- ---- GUIDs

pub guid_finds : (bytes : List ℕ) → Finds (IsGuid bytes) (guid_in bytes)
guid_finds bytes = record {
  is = λ value e.
      let test = tested (eqb (length bytes) 16) bytes value e in
      record { size = ap (λ (b : List ℕ). length b) (sym test.1) ∙ eqb-true (length bytes) 16 test.0; spelled = test.1 };
  only = λ value is. rw (is.spelled, is.size) refl;
}

-- ---- localities

byte_is : (rest : List ℕ) (value : ℕ) → one_byte rest ≡ Some value → rest ≡ value ∷ []
byte_is (b ∷ []) value e = cc
byte_is [] value e = absurd cc
byte_is (b ∷ c ∷ rest) value e = absurd cc

byte_finds : (rest : List ℕ) → Finds (λ value. rest ≡ value ∷ []) (one_byte rest)
byte_finds rest = record { is = byte_is rest; only = λ value is. rw is refl }

abbrev locality_prefix : List ℕ
locality_prefix = codes "StartupLocality" ++ 0 ∷ []

-- What follows the prefix is this byte.
ends_finds : (bytes : List ℕ) → Finds (λ value. (rest : List ℕ) × (bytes ≡ locality_prefix ++ rest) × (rest ≡ value ∷ [])) (locality_in bytes)
ends_finds bytes = then_finds (after_finds locality_prefix bytes) byte_finds

pub locality_only : (bytes : List ℕ) (value : ℕ) → IsLocality bytes value → locality_in bytes ≡ Some value
locality_only bytes value is = (ends_finds bytes).only value (value ∷ [], is.spelled, refl)

pub locality_finds : (bytes : List ℕ) → IsBytes bytes → Finds (IsLocality bytes) (locality_in bytes)
locality_finds bytes fits =
    alike_finds
    (λ value is.
    let spelled = is.1 ∙ ap (λ (t : List ℕ). locality_prefix ++ t) is.2 in
    record { fits = IsBytes-behind bytes locality_prefix (value ∷ []) spelled fits 0; spelled = spelled })
    (λ value is. (value ∷ [], is.spelled, refl))
    (ends_finds bytes)

-- ---- how a host keeps its guests apart

abbrev host_prefix : List ℕ
host_prefix = codes "GCE NonHostInfo" ++ 0 ∷ []

abbrev IsReserved : List ℕ → ℕ → Type 0
IsReserved rest value = (prefix : List ℕ) × (rest ≡ prefix ++ reserved) × (prefix ≡ value ∷ [])

reserved_finds : (rest : List ℕ) → Finds (IsReserved rest) (option_and_then one_byte (before_in reserved rest))
reserved_finds rest = then_finds (before_finds reserved rest) byte_finds

-- After the signature come the technology and reserved bytes.
host_finds : (bytes : List ℕ) → Finds (λ value. (rest : List ℕ) × (bytes ≡ host_prefix ++ rest) × IsReserved rest value) (technology_in bytes)
host_finds bytes = then_finds (after_finds host_prefix bytes) reserved_finds

pub technology_finds : (bytes : List ℕ) → Finds (IsTechnology bytes) (technology_in bytes)
technology_finds bytes =
    alike_finds
    (λ value is. record {
      spelled = is.1 ∙ ap (λ (t : List ℕ). host_prefix ++ t) (is.2.1 ∙ ap (λ (p : List ℕ). p ++ reserved) is.2.2);
    })
    (λ value is. (value ∷ reserved, is.spelled, (value ∷ [], refl, refl)))
    (host_finds bytes)

pub technology_is : (bytes : List ℕ) (found : Option ℕ) → found ≡ technology_in bytes → IfSome found (IsTechnology bytes)
technology_is bytes (Some value) e = (technology_finds bytes).is value (sym e)
technology_is bytes None e = tt

-- ---- what the reader of texts comes to

none_where : {X : Type 0} (b : Bool) (x : X) → (b ≡ true → ⊥) → None ≡ cond b (Some x) None
none_where true x never = absurd (never refl)
none_where false x never = refl

pub read_ok : (bytes text : List ℕ) → text ≡ unwrap_or (before_in (0 ∷ []) bytes) bytes → has_no_nul text ≡ true → IsUtf8 text
    → Some text ≡ text_in bytes
read_ok bytes text e no_nul utf8 =
    sym (passed (has_no_nul text && is_utf8 text) text (both_there text no_nul utf8))
    ∙ ap (λ (t : List ℕ). cond (has_no_nul t && is_utf8 t) (Some t) None) e

pub read_err : (bytes text : List ℕ) → text ≡ unwrap_or (before_in (0 ∷ []) bytes) bytes → (IsUtf8 text → ⊥) → None ≡ text_in bytes
read_err bytes text e missing =
    none_where (has_no_nul text && is_utf8 text) text (λ t. missing (IsUtf8-from_is_utf8 text (both_true (has_no_nul text) (is_utf8 text) t).1))
    ∙ ap (λ (t : List ℕ). cond (has_no_nul t && is_utf8 t) (Some t) None) e

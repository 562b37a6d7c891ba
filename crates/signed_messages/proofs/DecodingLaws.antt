-- The base64 of a key's SubjectPublicKeyInfo decodes to it.
use Rattle.std.proofs.Common.{◌≡◌, ℕ, ◌↔◌, List, Some, Result, Ok, Err, refl, sym, ◌∙◌}
use Rattle.base64.specs.declared.decode.DecodeError.{DecodeError}
use Rattle.base64.specs.Engines.{standard}
use Rattle.base64.specs.GeneralPurpose.{IsStrict, decode_of, encode_of}
use Rattle.base64.specs.GeneralPurpose as base64
use Rattle.byte_fields.proofs.Steps.{ok_is}
use Rattle.tpm_keys.specs.KeyInfo.{key_base64, key_info}
use Rattle.tpm_keys.specs.Spelling.{KeyNumbers}
use Rattle.signed_messages.specs.Keys.{MessageKey, key_alone}
use Rattle.signed_messages.specs.KeyTexts.{AreBytes}
use Rattle.signed_messages.proofs.LayoutLaws.{is_laid_out, laid_bytes}

-- What decoding ensures of a text.
abbrev pub IsDecodedStrictly : List ℕ → Type 0
IsDecodedStrictly text = IsStrict standard → (b : List ℕ) → base64.IsBytes b → (decode_of standard text ≡ Ok b) ↔ (text ≡ encode_of standard b)

is_strict : IsStrict standard
is_strict = (refl, refl)

pub decodes : (numbers : KeyNumbers) (key : MessageKey) (text : List ℕ) → AreBytes numbers → key_alone numbers ≡ Some key → text ≡ key_base64 numbers
    → IsDecodedStrictly text → decode_of standard text ≡ Ok (key_info numbers)
unfolding key_base64
decodes numbers key text bytes known e decoding =
    let fits = laid_bytes numbers (key_info numbers) (is_laid_out numbers key known) bytes in
    (decoding is_strict (key_info numbers) (λ i. fits i)).1 e

pub decoded_is : (numbers : KeyNumbers) (key : MessageKey) (text info : List ℕ) → AreBytes numbers → key_alone numbers ≡ Some key
    → text ≡ key_base64 numbers → IsDecodedStrictly text → decode_of standard text ≡ Ok info → info ≡ key_info numbers
decoded_is numbers key text info bytes known e decoding ok = ok_is info (key_info numbers) (sym ok ∙ decodes numbers key text bytes known e decoding)

abbrev the_bytes : List ℕ → Result (List ℕ) DecodeError
the_bytes info = Ok info

not_both : (info : List ℕ) (error : DecodeError) → the_bytes info ≡ Err error → ⊥
not_both info error e = cc

pub not_undecoded : (numbers : KeyNumbers) (key : MessageKey) (text : List ℕ) (error : DecodeError) → AreBytes numbers → key_alone numbers ≡ Some key
    → text ≡ key_base64 numbers → IsDecodedStrictly text → decode_of standard text ≡ Err error → ⊥
not_undecoded numbers key text error bytes known e decoding failed =
    not_both (key_info numbers) error (sym (decodes numbers key text bytes known e decoding) ∙ failed)

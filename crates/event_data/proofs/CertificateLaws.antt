-- Certificates: what is read is what was spelled, and what is spelled is read.
use Rattle.std.proofs.Common.{◌≡◌, ℕ, ◌≤◌, ◌<◌, ◌^◌, true, false, cond, List, ◌++◌, length, Option, Some, None, option_and_then, Result, Ok, Err, refl, sym, ap, subst, ◌∙◌}
use Rattle.std.specs.Option.{option_map_or}
use Rattle.std.specs.Result.{result_ok}
use Rattle.std.specs.Int.{w16, to_be_bytes}
use Rattle.std.proofs.lemmas.Bool.{ltb-false, le-ltb}
use Rattle.byte_fields.specs.Formats.{whole}
use Rattle.byte_fields.proofs.Steps.{IsBytes}
use Rattle.byte_fields.proofs.FormatLaws.{Exact, passes, big16_exact, sized_by_exact, unless_exact, whole_takes, whole_again, IsBytes-behind}
use Rattle.event_data.specs.declared.content.Mismatch.{Mismatch}
use Rattle.event_data.specs.declared.content.Mismatch.TheVariants.{Form}
use Rattle.event_data.specs.Names.{IsCertificate, after_in, certificate_in, der_content, der_prefix, is_content}
use Rattle.event_data.proofs.AffixLaws.{after_finds, passed, tested}
use Rattle.event_data.proofs.Finding.{Finds}
use Rattle.event_data.proofs.FormLaws.{AnyFault}

content_exact : Exact AnyFault der_content
unfolding der_content
content_exact = sized_by_exact Form tt (unless_exact _ Form tt (big16_exact {P = AnyFault} Form tt))

-- What follows the prefix, as a certificate's content.
content_takes : (bytes rest content : List ℕ) → IsBytes rest → bytes ≡ der_prefix ++ rest → whole Form der_content rest ≡ Ok content
    → IsCertificate bytes bytes
unfolding der_content
content_takes bytes rest content fits parts e =
    let taken = whole_takes Form content_exact rest content fits e in
    let size = taken.0.0.0 in
    record {
      content = content;
      long = ltb-false (length content) 256 (passes _ Form (length content) (length content) size.1);
      fits = size.0;
      spelled = parts ∙ ap (λ (t : List ℕ). der_prefix ++ t) taken.1;
      same = refl;
    }

content_again : (content : List ℕ) → 256 ≤ length content → length content < 2 ^ 16
    → whole Form der_content (to_be_bytes w16 (length content) ++ content) ≡ Ok content
unfolding der_content
content_again content long fits =
    whole_again Form content_exact (to_be_bytes w16 (length content) ++ content) content
    (((fits, rw (le-ltb (length content) 256 long) refl), refl), refl) refl

content_there : (reading : Result (List ℕ) Mismatch) → option_map_or (λ (content : List ℕ). true) (result_ok reading) false ≡ true
    → (content : List ℕ) × (reading ≡ Ok content)
content_there (Ok content) e = (content, refl)
content_there (Err fault) e = absurd cc

certificate_is : (bytes value : List ℕ) → IsBytes bytes → (found : Option (List ℕ)) → Finds (λ rest. bytes ≡ der_prefix ++ rest) found
    → option_and_then (λ (rest : List ℕ). cond (is_content rest) (Some bytes) None) found ≡ Some value → IsCertificate bytes value
certificate_is bytes value fits (Some rest) f e =
    let test = tested (is_content rest) bytes value e in
    let there = content_there (whole Form der_content rest) test.0 in
    let parts = f.is rest refl in
    subst (IsCertificate bytes) test.1
    (content_takes bytes rest there.0 (IsBytes-behind bytes der_prefix rest parts fits) parts there.1)
certificate_is bytes value fits None f e = absurd cc

pub certificate_only : (bytes value : List ℕ) → IsCertificate bytes value → certificate_in bytes ≡ Some value
certificate_only bytes value is =
    let rest = to_be_bytes w16 (length is.content) ++ is.content in
    let there = ap (λ (r : Result (List ℕ) Mismatch). option_map_or (λ (content : List ℕ). true) (result_ok r) false)
    (content_again is.content is.long is.fits) in
    ap (option_and_then (λ (r : List ℕ). cond (is_content r) (Some bytes) None)) ((after_finds der_prefix bytes).only rest is.spelled)
    ∙ passed (is_content rest) bytes there
    ∙ ap (λ (b : List ℕ). Some b) (sym is.same)

pub certificate_finds : (bytes : List ℕ) → IsBytes bytes → Finds (IsCertificate bytes) (certificate_in bytes)
certificate_finds bytes fits = record {
  is = λ value e. certificate_is bytes value fits (after_in der_prefix bytes) (after_finds der_prefix bytes) e;
  only = certificate_only bytes;
}

-- What a variable's value says: the function gives what the relation allows, and nothing else.
use Rattle.std.proofs.Common.{◌≡◌, ℕ, ◌%◌, Bool, true, false, cond, eqb, ◌⊎◌, inl, inr, List, [], ◌∷◌, length, Option, Some, None, refl, sym, ap, ◌∙◌}
use Rattle.std.specs.Option.{option_map_or}
use Rattle.std.proofs.lemmas.Bool.{ne_eqb}
use Rattle.byte_fields.proofs.Steps.{IsBytes}
use Rattle.event_data.specs.declared.value_reader.ValueForm.{ValueForm}
use Rattle.event_data.specs.declared.value_reader.ValueForm.TheVariants as forms
use Rattle.event_data.specs.Names.{AreSignatureLists, IsBootNumber, IsBootOrder, IsCertificate, IsLoadOption, IsSignature, IsSignatureList, IsText, ListData, LoadOptionData, SaysValue, SignatureData, ValueSays, ValueSaysIn, VariableData, all_taken, authority_says, certificate, certificate_in, flag, flag_says, level, lists, lists_in, load_option_in, numbers_in, option, order, says_in, signature_in, text_in, value_form}
use Rattle.event_data.specs.Values.{signature, unknown}
use Rattle.event_data.proofs.CertificateLaws.{certificate_finds, certificate_only}
use Rattle.event_data.proofs.ContentLaws.{none_found}
use Rattle.event_data.proofs.Finding.{Finds, none_is}
use Rattle.event_data.proofs.TakenLaws.{all_takes, all_again}
use Rattle.event_data.proofs.TextLaws.{text_finds}
use Rattle.event_data.proofs.ValueLaws.{boot_number_exact, some_number, number_into, number_out, numbers_rest, load_option_takes, load_option_again, signature_takes, signature_again}
use Rattle.event_data.proofs.ListLaws.{list_exact, some_list, list_into, list_out}

none_not_some : {A : Type 0} (x : A) (o : Option A) → o ≡ None → o ≡ Some x → ⊥
none_not_some x o e f = absurd cc

-- The value says this in the form, or it says nothing in it.
abbrev SaysOrNot : ValueForm → List ℕ → ValueSays → Type 0
SaysOrNot form bytes says =
    ValueSaysIn form bytes says ⊎ ((says ≡ unknown) × ((other : ValueSays) → ValueSaysIn form bytes other → ⊥))

-- ---- each form

only_flag : (bytes : List ℕ) (other : ValueSays) → ValueSaysIn forms.Flag bytes other → (value : ℕ) × (bytes ≡ value ∷ []) × (other ≡ flag value)
only_flag bytes (flag value) is = (value, is, refl)
only_flag bytes (order value) is = absurd is
only_flag bytes (option value) is = absurd is
only_flag bytes (lists value) is = absurd is
only_flag bytes (signature value) is = absurd is
only_flag bytes (certificate value) is = absurd is
only_flag bytes (level value) is = absurd is
only_flag bytes unknown is = absurd is

says_flag : (bytes : List ℕ) → SaysOrNot forms.Flag bytes (flag_says bytes)
says_flag [] = inr (refl, λ other is. let only : [] ≡ (only_flag [] other is).0 ∷ [] = (only_flag [] other is).1 in absurd cc)
says_flag (value ∷ []) = inl refl
says_flag (value ∷ more ∷ bytes) =
    inr (
      refl,
      λ other is.
          let bytes = value ∷ more ∷ bytes in
          let only : bytes ≡ (only_flag bytes other is).0 ∷ [] = (only_flag bytes other is).1 in
          absurd cc,
    )

only_order : (bytes : List ℕ) (other : ValueSays)
    → ValueSaysIn forms.Order bytes other → (value : List ℕ) × (IsBootOrder bytes value) × (other ≡ order value)
only_order bytes (flag value) is = absurd is
only_order bytes (order value) is = (value, is, refl)
only_order bytes (option value) is = absurd is
only_order bytes (lists value) is = absurd is
only_order bytes (signature value) is = absurd is
only_order bytes (certificate value) is = absurd is
only_order bytes (level value) is = absurd is
only_order bytes unknown is = absurd is

says_order : (bytes : List ℕ) (found : Option (List ℕ)) → ((value : List ℕ) → found ≡ Some value → IsBootOrder bytes value)
    → ((value : List ℕ) → IsBootOrder bytes value → found ≡ Some value) → SaysOrNot forms.Order bytes (option_map_or order found unknown)
says_order bytes (Some value) takes again = inl (takes value refl)
says_order bytes None takes again =
    inr (
      refl,
      λ other is.
          let only = only_order bytes other is in
          none_not_some only.0 None refl (again only.0 only.1),
    )

only_option : (bytes : List ℕ) (other : ValueSays)
    → ValueSaysIn forms.LoadOption bytes other → (value : LoadOptionData) × (IsLoadOption bytes value) × (other ≡ option value)
only_option bytes (flag value) is = absurd is
only_option bytes (order value) is = absurd is
only_option bytes (option value) is = (value, is, refl)
only_option bytes (lists value) is = absurd is
only_option bytes (signature value) is = absurd is
only_option bytes (certificate value) is = absurd is
only_option bytes (level value) is = absurd is
only_option bytes unknown is = absurd is

says_option : (bytes : List ℕ) (found : Option (LoadOptionData)) → ((value : LoadOptionData) → found ≡ Some value → IsLoadOption bytes value)
    → ((value : LoadOptionData) → IsLoadOption bytes value → found ≡ Some value) → SaysOrNot forms.LoadOption bytes (option_map_or option found unknown)
says_option bytes (Some value) takes again = inl (takes value refl)
says_option bytes None takes again =
    inr (
      refl,
      λ other is.
          let only = only_option bytes other is in
          none_not_some only.0 None refl (again only.0 only.1),
    )

only_lists : (bytes : List ℕ) (other : ValueSays)
    → ValueSaysIn forms.Lists bytes other → (value : List ListData) × (AreSignatureLists bytes value) × (other ≡ lists value)
only_lists bytes (flag value) is = absurd is
only_lists bytes (order value) is = absurd is
only_lists bytes (option value) is = absurd is
only_lists bytes (lists value) is = (value, is, refl)
only_lists bytes (signature value) is = absurd is
only_lists bytes (certificate value) is = absurd is
only_lists bytes (level value) is = absurd is
only_lists bytes unknown is = absurd is

says_lists : (bytes : List ℕ) (found : Option (List ListData)) → ((value : List ListData) → found ≡ Some value → AreSignatureLists bytes value)
    → ((value : List ListData) → AreSignatureLists bytes value → found ≡ Some value) → SaysOrNot forms.Lists bytes (option_map_or lists found unknown)
says_lists bytes (Some value) takes again = inl (takes value refl)
says_lists bytes None takes again =
    inr (
      refl,
      λ other is.
          let only = only_lists bytes other is in
          none_not_some only.0 None refl (again only.0 only.1),
    )

only_certificate : (bytes : List ℕ) (other : ValueSays)
    → ValueSaysIn forms.Certificate bytes other → (value : List ℕ) × (IsCertificate bytes value) × (other ≡ certificate value)
only_certificate bytes (certificate value) is = (value, is, refl)
only_certificate bytes other is = absurd (search is)

says_certificate : (bytes : List ℕ) (found : Option (List ℕ)) → Finds (IsCertificate bytes) found
    → SaysOrNot forms.Certificate bytes (option_map_or certificate found unknown)
says_certificate bytes (Some value) f = inl (f.is value refl)
says_certificate bytes None f =
    inr (refl, λ other is. let only = only_certificate bytes other is in none_not_some only.0 None refl (f.only only.0 only.1))

only_level : (bytes : List ℕ) (other : ValueSays)
    → ValueSaysIn forms.Level bytes other → (value : List ℕ) × (IsText bytes value) × (other ≡ level value)
only_level bytes (level value) is = (value, is, refl)
only_level bytes other is = absurd (search is)

says_level : (bytes : List ℕ) (found : Option (List ℕ)) → Finds (IsText bytes) found
    → SaysOrNot forms.Level bytes (option_map_or level found unknown)
says_level bytes (Some value) f = inl (f.is value refl)
says_level bytes None f =
    inr (refl, λ other is. let only = only_level bytes other is in none_not_some only.0 None refl (f.only only.0 only.1))

neither : (bytes : List ℕ) → Finds (IsCertificate bytes) None → ((value : SignatureData) → IsSignature bytes value → None ≡ Some value)
    → (other : ValueSays) → ValueSaysIn forms.Signature bytes other → ⊥
neither bytes f again (certificate value) is = none_is f refl value is
neither bytes f again (signature value) is = none_not_some value None refl (again value is.0)
neither bytes f again other is = absurd (search is)

-- A certificate, else a signature.
says_either : (bytes : List ℕ) (first : Option (List ℕ)) (second : Option SignatureData) → Finds (IsCertificate bytes) first
    → ((value : SignatureData) → second ≡ Some value → IsSignature bytes value)
    → ((value : SignatureData) → IsSignature bytes value → second ≡ Some value)
    → SaysOrNot forms.Signature bytes (option_map_or certificate first (option_map_or signature second unknown))
says_either bytes (Some value) second f takes again = inl (f.is value refl)
says_either bytes None (Some value) f takes again = inl (takes value refl, none_is f refl)
says_either bytes None None f takes again = inr (refl, neither bytes f again)

-- What allowed an image is what the function gives.
is_either : (bytes : List ℕ) (says : ValueSays) → IsBytes bytes → ValueSaysIn forms.Signature bytes says → authority_says bytes ≡ says
is_either bytes (certificate value) fits is = rw (certificate_only bytes value is) refl
is_either bytes (signature value) fits is =
    rw (none_found (certificate_in bytes) (certificate_finds bytes fits) is.1)
    (ap (λ (o : Option SignatureData). option_map_or signature o unknown) (signature_again bytes value is.0))
is_either bytes says fits is = absurd (search is)

-- ---- any form

says_or_not : (form : ValueForm) (bytes : List ℕ) → IsBytes bytes → SaysOrNot form bytes (says_in form bytes)
says_or_not forms.Flag bytes fits = says_flag bytes
says_or_not forms.Order bytes fits =
    says_order bytes (all_taken (numbers_in bytes))
    (λ value e. all_takes boot_number_exact some_number IsBootNumber number_into number_out bytes value fits e)
    (λ value is. all_again boot_number_exact some_number IsBootNumber number_into number_out bytes value fits is)
says_or_not forms.LoadOption bytes fits =
    says_option bytes (load_option_in bytes) (λ value e. load_option_takes bytes value fits e) (λ value is. load_option_again bytes value is)
says_or_not forms.Lists bytes fits =
    says_lists bytes (all_taken (lists_in bytes))
    (λ value e. all_takes list_exact some_list IsSignatureList list_into list_out bytes value fits e)
    (λ value is. all_again list_exact some_list IsSignatureList list_into list_out bytes value fits is)
says_or_not forms.Signature bytes fits =
    says_either bytes (certificate_in bytes) (signature_in bytes) (certificate_finds bytes fits)
    (λ value e. signature_takes bytes value fits e) (λ value is. signature_again bytes value is)
says_or_not forms.Certificate bytes fits = says_certificate bytes (certificate_in bytes) (certificate_finds bytes fits)
says_or_not forms.Level bytes fits = says_level bytes (text_in bytes) (text_finds bytes)
says_or_not forms.Other bytes fits = inr (refl, λ other is. is)

-- What a value says in the form is what the function gives.
says_is : (form : ValueForm) (bytes : List ℕ) (says : ValueSays) → IsBytes bytes → ValueSaysIn form bytes says → says_in form bytes ≡ says
says_is forms.Flag bytes says fits is =
    let only = only_flag bytes says is in
    ap flag_says only.1 ∙ sym only.2
says_is forms.Order bytes says fits is =
    let only = only_order bytes says is in
    ap (λ (o : Option (List ℕ)). option_map_or order o unknown)
    (all_again boot_number_exact some_number IsBootNumber number_into number_out bytes only.0 fits only.1) ∙ sym only.2
says_is forms.LoadOption bytes says fits is =
    let only = only_option bytes says is in
    ap (λ (o : Option LoadOptionData). option_map_or option o unknown) (load_option_again bytes only.0 only.1) ∙ sym only.2
says_is forms.Lists bytes says fits is =
    let only = only_lists bytes says is in
    ap (λ (o : Option (List ListData)). option_map_or lists o unknown)
    (all_again list_exact some_list IsSignatureList list_into list_out bytes only.0 fits only.1) ∙ sym only.2
says_is forms.Signature bytes says fits is = is_either bytes says fits is
says_is forms.Certificate bytes says fits is =
    let only = only_certificate bytes says is in
    ap (λ (o : Option (List ℕ)). option_map_or certificate o unknown) (certificate_only bytes only.0 only.1) ∙ sym only.2
says_is forms.Level bytes says fits is =
    let only = only_level bytes says is in
    ap (λ (o : Option (List ℕ)). option_map_or level o unknown) ((text_finds bytes).only only.0 only.1) ∙ sym only.2
says_is forms.Other bytes says fits is = absurd is

says_once : (form : ValueForm) (bytes : List ℕ) (says other : ValueSays) → IsBytes bytes → SaysOrNot form bytes says
    → SaysOrNot form bytes other → says ≡ other
says_once form bytes says other fits (inl is) (inl is_too) = sym (says_is form bytes says fits is) ∙ says_is form bytes other fits is_too
says_once form bytes says other fits (inl is) (inr none) = absurd (none.1 says is)
says_once form bytes says other fits (inr none) (inl is) = absurd (none.1 other is)
says_once form bytes says other fits (inr none) (inr none_too) = none.0 ∙ sym none_too.0

pub value_says_once : (kind : ℕ) (v : VariableData) (says other : ValueSays) → IsBytes v.value → SaysValue kind v says
    → SaysValue kind v other → says ≡ other
value_says_once kind v says other fits = says_once (value_form kind v) v.value says other fits

pub says_as : (form own : ValueForm) (bytes : List ℕ) (says : ValueSays) → IsBytes bytes → form ≡ own → says ≡ says_in own bytes
    → SaysOrNot form bytes says
says_as form own bytes says fits f e = rw (f, e) (says_or_not own bytes fits)

-- ---- the order's last byte

order_when : (bytes : List ℕ) (whole : Bool) → whole ≡ eqb (length (numbers_in bytes).1) 0
    → says_in forms.Order bytes ≡ option_map_or order (cond whole (Some (numbers_in bytes).0) None) unknown
order_when bytes whole e = rw e refl

pub odd_order : (bytes : List ℕ) → IsBytes bytes → (length bytes % 2 ≡ 0 → ⊥) → unknown ≡ says_in forms.Order bytes
odd_order bytes fits odd =
    sym (order_when bytes false (sym (ne_eqb (length (numbers_in bytes).1) 0 (λ none. odd (sym (numbers_rest bytes fits) ∙ none)))))

pub even_order : (bytes left : List ℕ) → IsBytes bytes → length bytes % 2 ≡ 0 → left ≡ bytes
    → order (numbers_in left).0 ≡ says_in forms.Order bytes
even_order bytes left fits even same =
    ap (λ (b : List ℕ). order (numbers_in b).0) same
    ∙ sym (order_when bytes true (sym (rw (numbers_rest bytes fits, even) refl)))

-- Load options, orders and signatures: what is read is what was spelled, and what is spelled is read.
use Rattle.std.proofs.Common.{◌≡◌, ℕ, zero, suc, ◌+◌, ◌-◌, ◌%◌, ◌≤◌, ◌<◌, List, [], ◌∷◌, ◌++◌, length, Option, Some, Result, Ok, Err, refl, sym, ap, subst, ◌∙◌, append_assoc, arith}
use Rattle.std.specs.Result.{result_ok}
use Rattle.std.proofs.lemmas.List.{length-append}
use Rattle.byte_fields.specs.Reading.{◌>>=◌, part_at}
use Rattle.byte_fields.specs.Spelling.{number16, number32}
use Rattle.byte_fields.proofs.Steps.{IsBytes}
use Rattle.byte_fields.proofs.FormatLaws.{Exact, takes, again, fault, number16_exact, number32_exact, part_exact, followed_exact, mapped_exact}
use Rattle.event_data.specs.declared.content.Mismatch.{Mismatch}
use Rattle.event_data.specs.declared.content.Mismatch.TheVariants.{Form}
use Rattle.event_data.specs.Names.{IsBootNumber, IsLoadOption, IsSignature, LoadOptionData, SignatureData, boot_number, load_option, load_option_in, numbers_in, signature_in, taken_within, with_more}
use Rattle.event_data.specs.ValueReading.{signature}
use Rattle.event_data.proofs.FormLaws.{AnyFault}
use Rattle.event_data.proofs.TakenLaws.{taken_shorter, taken_fits}
use Rattle.event_data.proofs.UnitLaws.{units_exact}

pub some_is : {A : Type 0} (x y : A) → Some x ≡ Some y → x ≡ y
some_is x y e = cc

-- ---- a load option

pub load_option_exact : Exact AnyFault load_option
unfolding load_option
load_option_exact =
    mapped_exact (λ x is. ap (λ (n : ℕ). (x.0, (n, (x.1.1.0, x.1.1.1)))) is.1.1.1)
    (followed_exact (number32_exact {P = AnyFault} Form tt) (λ attributes. followed_exact (number16_exact {P = AnyFault} Form tt) (λ size.
    followed_exact units_exact (λ description. part_exact Form size tt))))

parts_joined : (a b text path more : List ℕ)
    → (a ++ (b ++ ((text ++ 0 ∷ 0 ∷ []) ++ path))) ++ more ≡ a ++ (b ++ (text ++ (0 ∷ 0 ∷ (path ++ more))))
parts_joined a b text path more =
    append_assoc a (b ++ ((text ++ 0 ∷ 0 ∷ []) ++ path)) more
    ∙ ap (λ (t : List ℕ). a ++ t) (append_assoc b ((text ++ 0 ∷ 0 ∷ []) ++ path) more
    ∙ ap (λ (t : List ℕ). b ++ t) (append_assoc (text ++ 0 ∷ 0 ∷ []) path more ∙ append_assoc text (0 ∷ 0 ∷ []) (path ++ more)))

-- What a reading gives, with what remains as the optional data.
abbrev pub option_with_rest : Result (LoadOptionData × List ℕ) Mismatch → Option LoadOptionData
option_with_rest reading = result_ok (reading >>= λ x. Ok (record x.0 { optional_data = x.1 }))

option_taken : (bytes : List ℕ) (o : LoadOptionData) (reading : Result (LoadOptionData × List ℕ) Mismatch) → IsBytes bytes
    → load_option.at bytes ≡ reading → option_with_rest reading ≡ Some o → IsLoadOption bytes o
unfolding load_option
option_taken bytes o (Ok x) fits e same =
    let taken = takes load_option_exact bytes x fits e in
    let is = taken.is.0 in
    subst (IsLoadOption bytes) (some_is (record x.0 { optional_data = x.1 }) o same) (record {
      attributes_fit = is.0;
      path_fits = is.1.0;
      units = is.1.1.0;
      spelled = taken.parts
          ∙ parts_joined (number32 x.0.attributes) (number16 (length x.0.path)) x.0.description x.0.path x.1;
    })
option_taken bytes o (Err fault) fits e same = absurd cc

pub load_option_takes : (bytes : List ℕ) (o : LoadOptionData) → IsBytes bytes → load_option_in bytes ≡ Some o → IsLoadOption bytes o
load_option_takes bytes o fits e = option_taken bytes o (load_option.at bytes) fits refl e

pub load_option_again : (bytes : List ℕ) (o : LoadOptionData) → IsLoadOption bytes o → load_option_in bytes ≡ Some o
unfolding load_option
load_option_again bytes o is =
    let head : LoadOptionData = record o { optional_data = [] } in
    let parts = is.spelled ∙ sym (parts_joined (number32 o.attributes) (number16 (length o.path)) o.description o.path o.optional_data) in
    let read : load_option.at bytes ≡ Ok (head, o.optional_data) =
    ap load_option.at parts
    ∙ again load_option_exact head o.optional_data ((is.attributes_fit, (is.path_fits, (is.units, refl))), refl) in
    ap option_with_rest read

-- ---- a boot order

pub boot_number_exact : Exact AnyFault boot_number
boot_number_exact = number16_exact {P = AnyFault} Form tt

pub some_number : (n : ℕ) → boot_number.Is n → 0 < length (boot_number.spell n)
some_number n is = omega arith

pub number_into : (n : ℕ) → boot_number.Is n → IsBootNumber (boot_number.spell n) n
number_into n is = record { fits = is; spelled = refl }

pub number_out : (prefix : List ℕ) (n : ℕ) → IsBootNumber prefix n → boot_number.Is n × (prefix ≡ boot_number.spell n)
number_out prefix n is = (is.fits, is.spelled)

-- What remains after the numbers: an odd byte.
rest_of : (bytes : List ℕ) (reading : Result (ℕ × List ℕ) Mismatch) (more : List ℕ → List ℕ × List ℕ) → IsBytes bytes
    → boot_number.at bytes ≡ reading
    → ((n : ℕ) (rest : List ℕ) → boot_number.at bytes ≡ Ok (n, rest) → length (more rest).1 ≡ length rest % 2)
    → length (with_more reading more bytes).1 ≡ length bytes % 2
rest_of bytes (Ok x) more fits e others =
    let taken = takes boot_number_exact bytes x fits e in
    let size : length bytes ≡ length (number16 x.0) + length x.1 = ap length taken.parts ∙ length-append (number16 x.0) x.1 in
    omega (arith, size, others x.0 x.1 e)
rest_of bytes (Err d) more fits e others =
    omega (arith, (fault boot_number_exact bytes d fits e).1)

numbers_rest_within : (steps : ℕ) (bytes : List ℕ) → IsBytes bytes → length bytes ≤ steps
    → length (taken_within boot_number.at steps bytes).1 ≡ length bytes % 2
unfolding taken_within
numbers_rest_within zero bytes fits few = omega (arith, few)
numbers_rest_within (suc steps) bytes fits few =
    rest_of bytes (boot_number.at bytes) (λ rest. taken_within boot_number.at steps rest) fits refl
    (λ n rest e.
    numbers_rest_within steps rest (taken_fits boot_number_exact some_number bytes n rest fits e)
    (omega (arith, taken_shorter boot_number_exact some_number bytes n rest fits e)))

pub numbers_rest : (bytes : List ℕ) → IsBytes bytes → length (numbers_in bytes).1 ≡ length bytes % 2
numbers_rest bytes fits = numbers_rest_within (length bytes) bytes fits (omega arith)

-- ---- a signature

pub signature_exact : (size : ℕ) → Exact AnyFault (signature size)
unfolding signature
signature_exact size =
    mapped_exact (λ x is. refl) (followed_exact (part_exact Form 16 tt) (λ owner. part_exact Form (size - 16) tt))

pub some_signature : (size : ℕ) (s : SignatureData) → (signature size).Is s → 0 < length ((signature size).spell s)
unfolding signature
some_signature size s is =
    let whole = length-append s.owner s.payload in
    omega (arith, is.0.0, whole)

-- What a reading of the owner gives, with what remains as the payload.
abbrev pub signature_with_rest : Result (List ℕ × List ℕ) Mismatch → Option SignatureData
signature_with_rest reading = result_ok (reading >>= λ x. Ok (record { owner = x.0; payload = x.1 }))

signature_taken : (bytes : List ℕ) (s : SignatureData) (reading : Result (List ℕ × List ℕ) Mismatch) → IsBytes bytes
    → part_at Form 16 bytes ≡ reading → signature_with_rest reading ≡ Some s → IsSignature bytes s
signature_taken bytes s (Ok x) fits e same =
    let taken = takes (part_exact {P = AnyFault} Form 16 tt) bytes x fits e in
    subst (IsSignature bytes) (some_is (record { owner = x.0; payload = x.1 }) s same)
    (record { owner_size = taken.is; spelled = taken.parts })
signature_taken bytes s (Err fault) fits e same = absurd cc

pub signature_takes : (bytes : List ℕ) (s : SignatureData) → IsBytes bytes → signature_in bytes ≡ Some s → IsSignature bytes s
signature_takes bytes s fits e = signature_taken bytes s (part_at Form 16 bytes) fits refl e

pub signature_again : (bytes : List ℕ) (s : SignatureData) → IsSignature bytes s → signature_in bytes ≡ Some s
signature_again bytes s is =
    ap signature_with_rest (ap (part_at Form 16) is.spelled ∙ again (part_exact {P = AnyFault} Form 16 tt) s.owner s.payload is.owner_size)

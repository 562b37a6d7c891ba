-- The forms: what is read is what was spelled, and what is spelled is read.
use Rattle.std.proofs.Common.{◌≡◌, ℕ, ◌*◌, ◌/◌, List, ◌++◌, length, Some, Ok, refl, sym, ap, ◌∙◌, arith}
use Rattle.std.specs.Int.{w32}
use Rattle.std.specs.Result.{result_ok}
use Rattle.byte_fields.specs.Formats.{Format, number, whole}
use Rattle.byte_fields.specs.Spelling.{number64}
use Rattle.byte_fields.proofs.Steps.{IsBytes}
use Rattle.byte_fields.proofs.FormatLaws.{Exact, takes, again, number32_exact, number64_exact, part_exact, followed_exact, mapped_exact, whole_takes, whole_again}
use Rattle.event_data.specs.declared.content.Mismatch.{Mismatch}
use Rattle.event_data.specs.declared.content.Mismatch.TheVariants.{Form}
use Rattle.event_data.specs.Names.{ImageData, IsFollowed, IsImage, IsSeparator, IsVariable, VariableData, image_in, image_then, separator_in, variable_in, variable_then}
use Rattle.event_data.specs.Reading.{variable, image}
use Rattle.event_data.proofs.Finding.{Finds, whole_finds, ok_some, some_is}

abbrev pub AnyFault : Mismatch → Type 0
AnyFault fault = Unit {0}

-- ---- a form, and what follows it

module _ {X : Type 0} {format : Format X Mismatch} (exact : Exact AnyFault format) (Is : List ℕ → X → Type 0) where
  pub followed_is : ((x : X) → format.Is x → Is (format.spell x) x) → (bytes : List ℕ) (x : X) (rest : List ℕ) → IsBytes bytes
      → result_ok (format.at bytes) ≡ Some (x, rest) → IsFollowed Is bytes x rest
  followed_is into bytes x rest fits e =
      let taken = takes exact bytes (x, rest) fits (ok_some (format.at bytes) (x, rest) e) in
      record { form = format.spell x; is = into x taken.is; spelled = taken.parts }

  pub followed_only : ((form : List ℕ) (x : X) → Is form x → format.Is x × (form ≡ format.spell x)) → (bytes : List ℕ) (x : X) (rest : List ℕ)
      → IsFollowed Is bytes x rest → result_ok (format.at bytes) ≡ Some (x, rest)
  followed_only out bytes x rest is =
      let own = out is.form x is.is in
      ap (λ (b : List ℕ). result_ok (format.at b)) (is.spelled ∙ ap (λ (form : List ℕ). form ++ rest) own.1)
      ∙ ap result_ok (again exact x rest own.0)

-- ---- a variable

halved : (size units : ℕ) → size ≡ 2 * units → size / 2 ≡ units
halved size units e = omega (arith, e)

doubled : (size units : ℕ) → size ≡ 2 * units → size ≡ 2 * (size / 2)
doubled size units e = omega (arith, e)

variable_exact : Exact AnyFault variable
unfolding variable
variable_exact =
    let number = number64_exact {P = AnyFault} Form tt in
    mapped_exact (λ x is. ap (λ (n : ℕ). (x.0, (n, (length x.1.1.1.1, (x.1.1.1.0, x.1.1.1.1)))))
    (halved (length x.1.1.1.0) x.1.0 is.1.1.1.0)
    ∙ ap (λ (n : ℕ). (x.0, (x.1.0, (n, (x.1.1.1.0, x.1.1.1.1))))) is.1.1.1.1)
    (followed_exact (part_exact Form 16 tt) (λ guid. followed_exact number (λ units. followed_exact number (λ size.
    followed_exact (part_exact Form (2 * units) tt) (λ name. part_exact Form size tt)))))

pub variable_takes : (bytes : List ℕ) (v : VariableData) → IsBytes bytes → whole Form variable bytes ≡ Ok v → IsVariable bytes v
unfolding variable
variable_takes bytes v fits e =
    let taken = whole_takes Form variable_exact bytes v fits e in
    let is = taken.0.0 in
    record {
      units = length v.name / 2;
      guid_size = is.0;
      units_fit = is.1.0;
      value_fits = is.1.1.0;
      name_size = is.1.1.1.0;
      spelled = taken.1;
    }

pub variable_again : (bytes : List ℕ) (v : VariableData) → IsVariable bytes v → whole Form variable bytes ≡ Ok v
unfolding variable
variable_again bytes v is =
    let half = halved (length v.name) is.units is.name_size in
    whole_again Form variable_exact bytes v
    ((is.guid_size, (rw half is.units_fit, (is.value_fits, (doubled (length v.name) is.units is.name_size, refl)))), refl)
    (is.spelled ∙ ap (λ (n : ℕ). v.guid ++ (number64 n ++ (number64 (length v.value) ++ (v.name ++ v.value)))) (sym half))

variable_into : (v : VariableData) → variable.Is v → IsVariable (variable.spell v) v
unfolding variable
variable_into v is =
    let own = is.0 in
    record {
      units = length v.name / 2;
      guid_size = own.0;
      units_fit = own.1.0;
      value_fits = own.1.1.0;
      name_size = own.1.1.1.0;
      spelled = refl;
    }

variable_out : (form : List ℕ) (v : VariableData) → IsVariable form v → variable.Is v × (form ≡ variable.spell v)
unfolding variable
variable_out form v is =
    let half = halved (length v.name) is.units is.name_size in (
      ((is.guid_size, (rw half is.units_fit, (is.value_fits, (doubled (length v.name) is.units is.name_size, refl)))), refl),
      is.spelled ∙ ap (λ (n : ℕ). v.guid ++ (number64 n ++ (number64 (length v.value) ++ (v.name ++ v.value)))) (sym half),
    )

pub variable_then_is : (bytes : List ℕ) (v : VariableData) (rest : List ℕ) → IsBytes bytes → variable_then bytes ≡ Some (v, rest)
    → IsFollowed IsVariable bytes v rest
variable_then_is bytes v rest fits e = followed_is variable_exact IsVariable variable_into bytes v rest fits e

pub variable_then_only : (bytes : List ℕ) (v : VariableData) (rest : List ℕ) → IsFollowed IsVariable bytes v rest
    → variable_then bytes ≡ Some (v, rest)
variable_then_only bytes v rest is = followed_only variable_exact IsVariable variable_out bytes v rest is

-- ---- an image

image_exact : Exact AnyFault image
unfolding image
image_exact =
    let number = number64_exact {P = AnyFault} Form tt in
    mapped_exact (λ x is. ap (λ (n : ℕ). (x.0, (x.1.0, (x.1.1.0, (n, x.1.1.1.1))))) is.1.1.1.1)
    (followed_exact number (λ location. followed_exact number (λ size. followed_exact number (λ link_address.
    followed_exact number (λ count. part_exact Form count tt)))))

pub image_takes : (bytes : List ℕ) (v : ImageData) → IsBytes bytes → whole Form image bytes ≡ Ok v → IsImage bytes v
unfolding image
image_takes bytes v fits e =
    let taken = whole_takes Form image_exact bytes v fits e in
    let is = taken.0.0 in
    record { location_fits = is.0; size_fits = is.1.0; link_address_fits = is.1.1.0; path_fits = is.1.1.1.0; spelled = taken.1 }

pub image_again : (bytes : List ℕ) (v : ImageData) → IsImage bytes v → whole Form image bytes ≡ Ok v
unfolding image
image_again bytes v is =
    whole_again Form image_exact bytes v
    ((is.location_fits, (is.size_fits, (is.link_address_fits, (is.path_fits, refl)))), refl) is.spelled

image_into : (v : ImageData) → image.Is v → IsImage (image.spell v) v
unfolding image
image_into v is =
    let own = is.0 in
    record { location_fits = own.0; size_fits = own.1.0; link_address_fits = own.1.1.0; path_fits = own.1.1.1.0; spelled = refl }

image_out : (form : List ℕ) (v : ImageData) → IsImage form v → image.Is v × (form ≡ image.spell v)
unfolding image
image_out form v is =
    (((is.location_fits, (is.size_fits, (is.link_address_fits, (is.path_fits, refl)))), refl), is.spelled)

pub image_then_is : (bytes : List ℕ) (v : ImageData) (rest : List ℕ) → IsBytes bytes → image_then bytes ≡ Some (v, rest)
    → IsFollowed IsImage bytes v rest
image_then_is bytes v rest fits e = followed_is image_exact IsImage image_into bytes v rest fits e

pub image_then_only : (bytes : List ℕ) (v : ImageData) (rest : List ℕ) → IsFollowed IsImage bytes v rest → image_then bytes ≡ Some (v, rest)
image_then_only bytes v rest is = followed_only image_exact IsImage image_out bytes v rest is

pub variable_finds : (bytes : List ℕ) → IsBytes bytes → Finds (IsVariable bytes) (variable_in bytes)
variable_finds bytes fits = whole_finds (whole Form variable bytes) (λ v e. variable_takes bytes v fits e) (variable_again bytes)

pub variable_only : (bytes : List ℕ) (v : VariableData) → IsVariable bytes v → variable_in bytes ≡ Some v
variable_only bytes v is = ap result_ok (variable_again bytes v is)

pub image_finds : (bytes : List ℕ) → IsBytes bytes → Finds (IsImage bytes) (image_in bytes)
image_finds bytes fits = whole_finds (whole Form image bytes) (λ v e. image_takes bytes v fits e) (image_again bytes)

pub image_only : (bytes : List ℕ) (v : ImageData) → IsImage bytes v → image_in bytes ≡ Some v
image_only bytes v is = ap result_ok (image_again bytes v is)

-- Bytes are one variable at most.
pub one_variable : (bytes : List ℕ) (v w : VariableData) → IsVariable bytes v → IsVariable bytes w → v ≡ w
one_variable bytes v w is is_too = some_is v w (sym (variable_only bytes v is) ∙ variable_only bytes w is_too)

-- ---- a separator

separator_exact : Exact AnyFault (number Form w32)
separator_exact = number32_exact Form tt

separator_again : (bytes : List ℕ) (v : ℕ) → IsSeparator bytes v → whole Form (number Form w32) bytes ≡ Ok v
separator_again bytes v is = whole_again Form separator_exact bytes v is.fits is.spelled

pub separator_only : (bytes : List ℕ) (v : ℕ) → IsSeparator bytes v → separator_in bytes ≡ Some v
separator_only bytes v is = ap result_ok (separator_again bytes v is)

pub separator_finds : (bytes : List ℕ) → IsBytes bytes → Finds (IsSeparator bytes) (separator_in bytes)
separator_finds bytes fits =
    whole_finds (whole Form (number Form w32) bytes)
    (λ v e. let taken = whole_takes Form separator_exact bytes v fits e in record { fits = taken.0; spelled = taken.1 })
    (separator_again bytes)

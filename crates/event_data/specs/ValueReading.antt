-- Reading the values of variables from left to right.
use Rattle.std.specs.Prelude.{ℕ, zero, suc, ◌+◌, ◌-◌, ◌%◌, ◌==◌, ◌&&◌, ◌||◌, not, nat_lt, if◌then◌else◌, List, [], ◌∷◌, ◌++◌, length, Option, Some, None, Result, Ok, Err, ◌≡◌, true}
use Rattle.std.specs.Result.{result_ok}
use Rattle.std.specs.Int.{w16, w32}
use Rattle.byte_fields.specs.Reading.{◌>>=◌, part_at}
use Rattle.byte_fields.specs.Formats.{Format, number, part, ◌followed_by◌, unless, mapped}
use Rattle.event_data.specs.declared.content.Mismatch.{Mismatch}
use Rattle.event_data.specs.declared.content.Mismatch.TheVariants.{Form}
use Rattle.event_data.specs.ValueForms.{LoadOptionData, SignatureData, ListData, are_units}

-- ---- units up to the first NUL unit

-- What was read, behind the prefix.
abbrev pub behind : List ℕ → Result (List ℕ × List ℕ) Mismatch → Result (List ℕ × List ℕ) Mismatch
behind prefix reading = reading >>= λ x. Ok (prefix ++ x.0, x.1)

-- The units before the first NUL unit, and what follows it.
unfoldable pub units_at : List ℕ → Result (List ℕ × List ℕ) Mismatch
units_at [] = Err Form
units_at (low ∷ []) = Err Form
units_at (low ∷ high ∷ bytes) =
    if low == 0 && high == 0 then Ok ([], bytes) else behind (low ∷ high ∷ []) (units_at bytes)

-- Units of two bytes, and a NUL unit.
abbrev pub units : Format (List ℕ) Mismatch
units = record {
  at = units_at;
  Is = λ text. are_units text ≡ true;
  spell = λ text. text ++ 0 ∷ 0 ∷ [];
  Fails = λ bytes d. (d ≡ Form) × ((text rest : List ℕ) → are_units text ≡ true → bytes ≡ (text ++ 0 ∷ 0 ∷ []) ++ rest → ⊥);
}

-- ---- a load option

-- A load option but its optional data.
unfoldable pub load_option : Format LoadOptionData Mismatch
load_option =
    mapped (λ x. record { attributes = x.0; description = x.1.1.0; path = x.1.1.1; optional_data = [] })
    (λ o. (o.attributes, (length o.path, (o.description, o.path))))
    (number Form w32
    followed_by λ attributes. number Form w16
    followed_by λ size. units
    followed_by λ description. part Form size)

abbrev pub load_option_in : List ℕ → Option LoadOptionData
load_option_in bytes = result_ok (load_option.at bytes >>= λ x. Ok (record x.0 { optional_data = x.1 }))

-- ---- items one after another, to where none begins

abbrev pub with_more : {X : Type 0} → Result (X × List ℕ) Mismatch → (List ℕ → List X × List ℕ) → List ℕ → List X × List ℕ
with_more (Ok first) more bytes = (first.0 ∷ (more first.1).0, (more first.1).1)
with_more (Err fault) more bytes = ([], bytes)

-- Each item takes at least one byte, so as many steps as bytes are enough.
unfoldable pub taken_within : {X : Type 0} → (List ℕ → Result (X × List ℕ) Mismatch) → ℕ → List ℕ → List X × List ℕ
taken_within item_at zero bytes = ([], bytes)
taken_within item_at (suc steps) bytes = with_more (item_at bytes) (λ rest. taken_within item_at steps rest) bytes

-- The items at the start of the bytes, and what remains.
abbrev pub taken_in : {X : Type 0} → (List ℕ → Result (X × List ℕ) Mismatch) → List ℕ → List X × List ℕ
taken_in item_at bytes = taken_within item_at (length bytes) bytes

-- The items, where nothing remains.
abbrev pub all_taken : {X : Type 0} → List X × List ℕ → Option (List X)
all_taken taken = if length taken.1 == 0 then Some taken.0 else None

-- ---- a boot order

abbrev pub boot_number : Format ℕ Mismatch
boot_number = number Form w16

-- The numbers at the start of the bytes, and what remains.
abbrev pub numbers_in : List ℕ → List ℕ × List ℕ
numbers_in bytes = taken_in boot_number.at bytes

-- ---- signatures

-- A signature of this size.
unfoldable pub signature : ℕ → Format SignatureData Mismatch
signature size =
    mapped (λ x. record { owner = x.0; payload = x.1 }) (λ s. (s.owner, s.payload))
    (part Form 16
    followed_by λ owner. part Form (size - 16))

-- All of the bytes as a signature.
abbrev pub signature_in : List ℕ → Option SignatureData
signature_in bytes = result_ok (part_at Form 16 bytes >>= λ x. Ok (record { owner = x.0; payload = x.1 }))

-- The signatures of this size at the start of the bytes, and what remains.
abbrev pub signatures_in : ℕ → List ℕ → List SignatureData × List ℕ
signatures_in size bytes = taken_in (signature size).at bytes

unfoldable pub signature_list : Format ListData Mismatch
signature_list =
    mapped (λ x. record { kind = x.0; signature_size = x.1.1.1.0; header = x.1.1.1.1.0; signatures = x.1.1.1.1.1 })
    (λ l. (l.kind, (28 + length l.header + length l.signatures, (length l.header, (l.signature_size, (l.header, l.signatures))))))
    (part Form 16
    followed_by λ kind. number Form w32
    followed_by λ size. unless (λ header_size. nat_lt size (28 + header_size)) Form (number Form w32)
    followed_by λ header_size. unless (λ each. nat_lt each 16 || not ((size - 28 - header_size) % each == 0)) Form (number Form w32)
    followed_by λ each. part Form header_size
    followed_by λ header. part Form (size - 28 - header_size))

-- The lists at the start of the bytes, and what remains.
abbrev pub lists_in : List ℕ → List ListData × List ℕ
lists_in bytes = taken_in signature_list.at bytes

-- The signatures of a list.
abbrev pub signatures_of : ListData → List SignatureData
signatures_of list = (signatures_in list.signature_size list.signatures).0

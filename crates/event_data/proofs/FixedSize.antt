-- Formats whose values all have spellings of one size: bytes that are as long begin with a value.
use Rattle.std.proofs.Common.{◌≡◌, ℕ, ◌+◌, ◌≤◌, ◌<◌, inl, inr, List, length, Result, Ok, Err, refl, ap, ◌∙◌, arith, length-append}
use Rattle.std.specs.Int.{w64}
use Rattle.byte_fields.specs.Formats.{Format, number, part, ◌followed_by◌, mapped}
use Rattle.byte_fields.proofs.Steps.{IsBytes}
use Rattle.byte_fields.proofs.FieldLaws.{wide64}
use Rattle.byte_fields.proofs.FormatLaws.{Exact, fault}

pub record Fixed {X E : Type 0} (size : ℕ) (format : Format X E) : Type 0 where
  pub spells : (x : X) → format.Is x → length (format.spell x) ≡ size
  pub short : (bytes : List ℕ) (d : E) → format.Fails bytes d → length bytes < size

pub fixed_part : {E : Type 0} (c : E) (count : ℕ) → Fixed count (part c count)
fixed_part c count = record { spells = λ x is. is; short = λ bytes d fail. fail.1 }

pub fixed_number64 : {E : Type 0} (c : E) → Fixed 8 (number c w64)
fixed_number64 c = record { spells = λ n is. wide64.len n; short = λ bytes d fail. fail.1 }

module _ {A B E : Type 0} {n m : ℕ} {first : Format A E} {next : A → Format B E} (f : Fixed n first) (g : (a : A) → Fixed m (next a)) where
  joined_short : (bytes : List ℕ) (d : E) → (first followed_by next).Fails bytes d → length bytes < n + m
  joined_short bytes d (inl here) = omega (arith, f.short bytes d here)
  joined_short bytes d (inr there) =
      let head = there.2 in
      let size = ap (λ (b : List ℕ). length b) head.parts ∙ length-append (first.spell there.0) there.1 in
      omega (arith, size, f.spells there.0 head.is, (g there.0).short there.1 d there.3)

  pub fixed_followed : Fixed (n + m) (first followed_by next)
  fixed_followed = record {
    spells = λ x is.
        let size = length-append (first.spell x.0) ((next x.0).spell x.1) in
        omega (arith, size, f.spells x.0 is.0, (g x.0).spells x.1 is.1);
    short = joined_short;
  }

mapped_short : {A X E : Type 0} {n : ℕ} {format : Format A E} (to : A → X) (back : X → A) → Fixed n format
    → (bytes : List ℕ) (d : E) → (mapped to back format).Fails bytes d → length bytes < n
mapped_short to back f bytes d (inl fail) = f.short bytes d fail
mapped_short to back f bytes d (inr there) = absurd cc

pub fixed_mapped : {A X E : Type 0} {n : ℕ} {to : A → X} {back : X → A} {format : Format A E} → Fixed n format
    → Fixed n (mapped to back format)
fixed_mapped {A} {X} {E} {n} {to} {back} f = record { spells = λ x is. f.spells (back x) is.0; short = mapped_short to back f }

reached : {X E : Type 0} {P : E → Type 0} {n : ℕ} {format : Format X E} → Exact P format → Fixed n format → (bytes : List ℕ) → IsBytes bytes
    → n ≤ length bytes → (reading : Result (X × List ℕ) E) → format.at bytes ≡ reading → (x : X × List ℕ) × (format.at bytes ≡ Ok x)
reached f size bytes fits long (Ok x) e = (x, e)
reached f size bytes fits long (Err d) e = absurd (omega (arith, size.short bytes d (fault f bytes d fits e)))

-- Bytes that are as long begin with a value.
pub reaches : {X E : Type 0} {P : E → Type 0} {n : ℕ} {format : Format X E} → Exact P format → Fixed n format → (bytes : List ℕ) → IsBytes bytes
    → n ≤ length bytes → (x : X × List ℕ) × (format.at bytes ≡ Ok x)
reaches {X} {E} {P} {n} {format} f size bytes fits long = reached f size bytes fits long (format.at bytes) refl

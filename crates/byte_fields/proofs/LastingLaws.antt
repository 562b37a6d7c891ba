-- More bytes change nothing, except where bytes were missing.
use Rattle.std.proofs.Common.{◌≡◌, ℕ, Bool, true, false, List, ◌++◌, Result, ap, ◌∙◌, append_assoc, inl, inr}
use Rattle.std.specs.Int.{w32}
use Rattle.byte_fields.specs.Reading.{sized_at}
use Rattle.byte_fields.specs.Formats.{Format, Begins, number, part, ◌followed_by◌, viewed, sized_by, sized, read_by, either}

begins_longer : {X E : Type 0} {format : Format X E} {bytes : List ℕ} {x : X} {rest : List ℕ} (more : List ℕ) → Begins format bytes x rest
    → Begins format (bytes ++ more) x (rest ++ more)
begins_longer {X} {E} {format} {bytes} {x} {rest} more begins = record {
  is = begins.is;
  parts = ap (λ (t : List ℕ). t ++ more) begins.parts ∙ append_assoc (format.spell x) rest more;
}

-- No fault but `cut` goes away when more bytes follow.
pub record Lasting {X E : Type 0} (cut : E) (format : Format X E) : Type 0 where
  pub lasts : (bytes more : List ℕ) (d : E) → (d ≡ cut → ⊥) → format.Fails bytes d → format.Fails (bytes ++ more) d

pub number32_lasting : {E : Type 0} (c : E) → Lasting c (number c w32)
number32_lasting c = record { lasts = λ bytes more d other fail. absurd (other fail.0) }

pub part_lasting : {E : Type 0} (c : E) (count : ℕ) → Lasting c (part c count)
part_lasting c count = record { lasts = λ bytes more d other fail. absurd (other fail.0) }

pub followed_lasting : {A B E : Type 0} {c : E} {first : Format A E} {next : A → Format B E} → Lasting c first
    → ((a : A) → Lasting c (next a)) → Lasting c (first followed_by next)
followed_lasting f g = record {
  lasts = λ bytes more d other fail. elim fail [
    | inl here ↦ inl (f.lasts bytes more d other here)
    | inr there ↦ inr (there.0, there.1 ++ more, begins_longer more there.2, (g there.0).lasts there.1 more d other there.3)
  ];
}

pub viewed_lasting : {A X E : Type 0} {c : E} {view : A → Result X E} {back : X → A} {format : Format A E} → Lasting c format
    → Lasting c (viewed view back format)
viewed_lasting f = record {
  lasts = λ bytes more d other fail. elim fail [
    | inl here ↦ inl (f.lasts bytes more d other here)
    | inr there ↦ inr (there.0, there.1 ++ more, begins_longer more there.2, there.3)
  ];
}

pub read_by_lasting : {X E : Type 0} {c : E} (at : List ℕ → Result (X × List ℕ) E) {format : Format X E} → Lasting c format
    → Lasting c (read_by at format)
read_by_lasting at f = record { lasts = f.lasts }

pub sized_by_lasting : {E : Type 0} (c : E) {size : Format ℕ E} → Lasting c size → Lasting c (sized_by size c)
sized_by_lasting c f = viewed_lasting (followed_lasting f (λ count. part_lasting c count))

pub sized_lasting : {E : Type 0} (c : E) → Lasting c (sized c)
sized_lasting c = read_by_lasting (sized_at c) (sized_by_lasting c (number32_lasting c))

pub either_lasting : {X E : Type 0} {c : E} (test : Bool) {this other : Format X E} → Lasting c this → Lasting c other
    → Lasting c (either test this other)
either_lasting true f g = f
either_lasting false f g = g

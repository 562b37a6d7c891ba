-- Formats as values: which values a format can spell, how it spells them, how it reads one from the start of bytes, and which
-- bytes fail with which fault. That the four agree is proved once for each way to build a format from others.
use Rattle.std.specs.Prelude.{◌≡◌, ℕ, zero, suc, ◌^◌, ◌*◌, ◌<◌, ◌⊎◌, Bool, true, false, if◌then◌else◌, ◌==◌, List, [], ◌∷◌, ◌++◌, length, Option, ok_or, Result, Ok, Err}
use Rattle.std.specs.Int.{Width, w32, byte_len, from_be_bytes, from_le_bytes, to_be_bytes, to_le_bytes}
use Rattle.byte_fields.specs.Reading.{◌>>=◌, number_by, part_at, byte_at, sized_at, items_at}

pub record Format (X E : Type 0) : Type 1 where
  -- the value at the start of the bytes and the remaining bytes, or the fault
  pub at : List ℕ → Result (X × List ℕ) E
  -- the value has a spelling
  pub Is : X → Type 0
  -- the value's spelling
  pub spell : X → List ℕ
  -- the bytes begin with no value, and this is the fault
  pub Fails : List ℕ → E → Type 0

-- The value has a spelling, and the bytes are this spelling followed by `rest`.
pub record Begins {X E : Type 0} (format : Format X E) (bytes : List ℕ) (value : X) (rest : List ℕ) : Type 0 where
  pub is : format.Is value
  pub parts : bytes ≡ format.spell value ++ rest

-- The result fits the bytes: `Ok` of a value that they begin with and the remaining bytes, or `Err` of a fault that they fail
-- with.
abbrev pub IsRead : {X E : Type 0} → Format X E → List ℕ → Result (X × List ℕ) E → Type 0
IsRead format bytes (Ok x) = Begins format bytes x.0 x.1
IsRead format bytes (Err fault) = format.Fails bytes fault

-- ---- fields

-- A number of this width, of bytes in some order: the number that `value` makes of them, and those that `spell` makes of a number.
abbrev pub number_in : {E : Type 0} → (Width → List ℕ → ℕ) → (Width → ℕ → List ℕ) → E → Width → Format ℕ E
number_in value spell fault width = record {
  at = number_by value fault width;
  Is = λ n. n < 2 ^ (8 * byte_len width);
  spell = spell width;
  Fails = λ bytes d. (d ≡ fault) × (length bytes < byte_len width);
}

-- A little-endian number of this width.
abbrev pub number : {E : Type 0} → E → Width → Format ℕ E
number fault width = number_in from_le_bytes to_le_bytes fault width

-- A big-endian number of this width.
abbrev pub big_number : {E : Type 0} → E → Width → Format ℕ E
big_number fault width = number_in from_be_bytes to_be_bytes fault width

-- `count` bytes.
abbrev pub part : {E : Type 0} → E → ℕ → Format (List ℕ) E
part fault count = record {
  at = part_at fault count;
  Is = λ xs. length xs ≡ count;
  spell = λ xs. xs;
  Fails = λ bytes d. (d ≡ fault) × (length bytes < count);
}

-- One byte.
abbrev pub byte : {E : Type 0} → E → Format ℕ E
byte fault = record {
  at = byte_at fault;
  Is = λ n. n < 2 ^ 8;
  spell = λ n. n ∷ [];
  Fails = λ bytes d. (d ≡ fault) × (bytes ≡ []);
}

-- ---- formats of others

-- A value, then another whose format depends on the first.
infixr 5 ◌followed_by◌
abbrev pub ◌followed_by◌ : {A B E : Type 0} → Format A E → (A → Format B E) → Format (A × B) E
◌followed_by◌ {A} first next = record {
  at = λ bytes. first.at bytes >>= λ a. (next a.0).at a.1 >>= λ b. Ok ((a.0, b.0), b.1);
  Is = λ x. first.Is x.0 × (next x.0).Is x.1;
  spell = λ x. first.spell x.0 ++ (next x.0).spell x.1;
  Fails = λ bytes d. first.Fails bytes d ⊎ ((a : A) × (rest : List ℕ) × Begins first bytes a rest × (next a).Fails rest d);
}

-- What was read, passed through `view`, which may refuse it.
abbrev pub seen : {A X E : Type 0} → (A → Result X E) → Result (A × List ℕ) E → Result (X × List ℕ) E
seen view reading = reading >>= λ a. view a.0 >>= λ x. Ok (x, a.1)

-- A value of another kind: `view` makes it from the one that was read, or refuses it; `back` gives the one that it came from.
abbrev pub viewed : {A X E : Type 0} → (A → Result X E) → (X → A) → Format A E → Format X E
viewed {A} view back format = record {
  at = λ bytes. seen view (format.at bytes);
  Is = λ x. format.Is (back x) × (view (back x) ≡ Ok x);
  spell = λ x. format.spell (back x);
  Fails = λ bytes d. format.Fails bytes d ⊎ ((a : A) × (rest : List ℕ) × Begins format bytes a rest × (view a ≡ Err d));
}

-- A value that is not `bad`; the fault where it is.
abbrev pub unless : {X E : Type 0} → (X → Bool) → E → Format X E → Format X E
unless bad fault format = viewed (λ x. if bad x then Err fault else Ok x) (λ x. x) format

-- A value paired with what `tell` gives for it; the fault where that is `None`.
abbrev pub telling : {A B E : Type 0} → (A → Option B) → E → Format A E → Format (A × B) E
telling tell fault format = viewed (λ a. ok_or (tell a) fault >>= λ b. Ok (a, b)) (λ x. x.0) format

-- A format whose values have another form.
abbrev pub mapped : {A X E : Type 0} → (A → X) → (X → A) → Format A E → Format X E
mapped to back format = viewed (λ a. Ok (to a)) back format

-- The format with another reader, which must read the same.
abbrev pub read_by : {X E : Type 0} → (List ℕ → Result (X × List ℕ) E) → Format X E → Format X E
read_by at format = record format { at = at }

-- Bytes prefixed by their length, which has the format `size`.
abbrev pub sized_by : {E : Type 0} → Format ℕ E → E → Format (List ℕ) E
sized_by size fault = mapped (λ x. x.1) (λ xs. (length xs, xs)) (size followed_by λ count. part fault count)

-- Length-prefixed bytes: the length takes four bytes.
abbrev pub sized : {E : Type 0} → E → Format (List ℕ) E
sized fault = read_by (sized_at fault) (sized_by (number fault w32) fault)

-- The first of two formats where the test holds, else the second.
abbrev pub either : {X E : Type 0} → Bool → Format X E → Format X E → Format X E
either true this other = this
either false this other = other

-- A value at the start of the next `count` bytes, and the rest of these bytes.
abbrev pub within : {X E : Type 0} → E → ℕ → Format X E → Format (X × List ℕ) E
within fault count format = record {
  at = λ bytes. part_at fault count bytes >>= λ region. format.at region.0 >>= λ x. Ok (x, region.1);
  Is = λ x. format.Is x.0 × (length (format.spell x.0 ++ x.1) ≡ count);
  spell = λ x. format.spell x.0 ++ x.1;
  Fails = λ bytes d. (part fault count).Fails bytes d
      ⊎ ((region : List ℕ) × (rest : List ℕ) × Begins (part fault count) bytes region rest × format.Fails region d);
}

-- All of the bytes, read as one value; the fault where bytes remain after it.
abbrev pub whole : {X E : Type 0} → E → Format X E → List ℕ → Result X E
whole fault format bytes = format.at bytes >>= λ x. if length x.1 == 0 then Ok x.0 else Err fault

-- ---- values one after another, each in a format that depends on those before it

abbrev pub AreInTurn : {X E : Type 0} → (List X → Format X E) → List X → List X → Type 0
AreInTurn item before [] = Unit {0}
AreInTurn item before (x ∷ xs) = (item before).Is x × AreInTurn item (before ++ x ∷ []) xs

abbrev pub spelled_in_turn : {X E : Type 0} → (List X → Format X E) → List X → List X → List ℕ
spelled_in_turn item before [] = []
spelled_in_turn item before (x ∷ xs) = (item before).spell x ++ spelled_in_turn item (before ++ x ∷ []) xs

abbrev pub FailInTurn : {X E : Type 0} → (List X → Format X E) → ℕ → List X → List ℕ → E → Type 0
FailInTurn item zero before bytes d = ⊥
FailInTurn {X} item (suc count) before bytes d =
    (item before).Fails bytes d
    ⊎ ((x : X) × (rest : List ℕ) × Begins (item before) bytes x rest × FailInTurn item count (before ++ x ∷ []) rest d)

-- `count` values.
abbrev pub counted : {X E : Type 0} → (List X → Format X E) → ℕ → Format (List X) E
counted item count = record {
  at = items_at (λ before. (item before).at) count [];
  Is = λ xs. (length xs ≡ count) × AreInTurn item [] xs;
  spell = spelled_in_turn item [];
  Fails = FailInTurn item count [];
}

-- The laws of formats, proved once for each: a reader finds a value exactly where the bytes begin with it, and a fault exactly
-- where they fail with it.
use Rattle.std.proofs.Common.{◌≡◌, ℕ, zero, suc, ◌*◌, ◌^◌, ◌<◌, ◌⊎◌, Bool, true, false, cond, eqb, ltb, List, [], ◌∷◌, ◌++◌, length, take, drop, Option, Some, None, Result, Ok, Err, refl, sym, ap, subst, ◌∙◌, append_assoc, arith, inl, inr}
use Rattle.std.specs.Prelude.{ok_or, IfErr, flat_map}
use Rattle.std.specs.Int.{Width, w16, w32, w64, byte_len}
use Rattle.std.proofs.lemmas.Bool.{ltb-true, ltb-false, lt-ltb, eqb-true}
use Rattle.std.proofs.lemmas.List.{length-take, take_at, drop_at, append-nil, take-append-drop}
use Rattle.std.proofs.lemmas.List.Concat.{flat_map-cons}
use Rattle.byte_fields.specs.Reading.{◌>>=◌, number_at, number_by, part_at, byte_at, sized_at, items_at}
use Rattle.byte_fields.specs.Formats.{Format, Begins, IsRead, big_number, number, number_in, part, byte, ◌followed_by◌, seen, viewed, unless, telling, mapped, sized_by, sized, read_by, either, within, whole, AreInTurn, spelled_in_turn, FailInTurn, counted}
use Rattle.byte_fields.proofs.Steps.{IsBytes, IsBytes-drop, IsBytes-take, bind_ok, guard_ok, test_ok, same_fault, the_ok, ok_is}
use Rattle.byte_fields.proofs.FieldLaws.{IsWide, wide16, wide32, wide64, big16, big32, big64, number_again, part_again}

-- The reader finds what the bytes begin with, or the fault that they fail with, and nothing else; each fault is a `P`.
pub record Exact {X E : Type 0} (P : E → Type 0) (format : Format X E) : Type 0 where
  pub found : (bytes : List ℕ) → IsBytes bytes → IsRead format bytes (format.at bytes)
  pub only : (bytes : List ℕ) (reading : Result (X × List ℕ) E) → IsRead format bytes reading → format.at bytes ≡ reading
  pub faults : (bytes : List ℕ) (d : E) → format.Fails bytes d → P d

-- ---- the laws of any format

module _ {X E : Type 0} {P : E → Type 0} {format : Format X E} (f : Exact P format) where
  pub takes : (bytes : List ℕ) (x : X × List ℕ) → IsBytes bytes → format.at bytes ≡ Ok x → Begins format bytes x.0 x.1
  takes bytes x fits e = subst (IsRead format bytes) e (f.found bytes fits)

  pub fault : (bytes : List ℕ) (d : E) → IsBytes bytes → format.at bytes ≡ Err d → format.Fails bytes d
  fault bytes d fits e = subst (IsRead format bytes) e (f.found bytes fits)

  pub again : (x : X) (rest : List ℕ) → format.Is x → format.at (format.spell x ++ rest) ≡ Ok (x, rest)
  again x rest is = f.only (format.spell x ++ rest) (Ok (x, rest)) (record { is = is; parts = refl })

  -- Bytes fail with at most one fault.
  pub fails_once : (bytes : List ℕ) (c d : E) → format.Fails bytes c → format.Fails bytes d → c ≡ d
  fails_once bytes c d x y = same_fault {A = X × List ℕ} c d (sym (f.only bytes (Err c) x) ∙ f.only bytes (Err d) y)

-- What follows a prefix of bytes is bytes.
pub IsBytes-behind : (bytes prefix rest : List ℕ) → bytes ≡ prefix ++ rest → IsBytes bytes → IsBytes rest
IsBytes-behind bytes prefix rest parts fits =
    subst IsBytes (ap (drop (length prefix)) parts ∙ drop_at prefix rest (length prefix) refl) (IsBytes-drop (length prefix) bytes fits)

IsBytes-prefix : (bytes prefix rest : List ℕ) → bytes ≡ prefix ++ rest → IsBytes bytes → IsBytes prefix
IsBytes-prefix bytes prefix rest parts fits =
    subst IsBytes (ap (take (length prefix)) parts ∙ take_at prefix rest (length prefix) refl) (IsBytes-take (length prefix) bytes fits)

-- ---- fields

few : {A E : Type 0} (n count : ℕ) (c d : E) (r : Result A E) → (d ≡ c) × (n < count) → cond (ltb n count) (Err c) r ≡ Err d
few n count c d r fail = rw (lt-ltb n count fail.1, fail.0) refl

module _ {E : Type 0} {value : Width → List ℕ → ℕ} {spell : Width → ℕ → List ℕ} (c : E) (w : Width)
    (wide : IsWide value spell w (2 ^ (8 * byte_len w))) where
  number_found : (bytes : List ℕ) (b : Bool) → b ≡ ltb (length bytes) (byte_len w) → IsBytes bytes
      → IsRead (number_in value spell c w) bytes (cond b (Err c) (Ok (value w (take (byte_len w) bytes), drop (byte_len w) bytes)))
  number_found bytes true e fits = (refl, ltb-true (length bytes) (byte_len w) (sym e))
  number_found bytes false e fits =
      let prefix = take (byte_len w) bytes in
      let size : length prefix ≡ byte_len w =
      omega (arith, ltb-false (length bytes) (byte_len w) (sym e), length-take (byte_len w) bytes) in
      let prefix-fits = IsBytes-take (byte_len w) bytes fits in
      record {
        is = wide.below prefix prefix-fits;
        parts = rw (wide.back prefix size prefix-fits) (sym (take-append-drop (byte_len w) bytes));
      }

  number_given : (bytes : List ℕ) (reading : Result (ℕ × List ℕ) E) → IsRead (number_in value spell c w) bytes reading
      → number_by value c w bytes ≡ reading
  number_given bytes (Ok x) is = ap (number_by value c w) is.parts ∙ number_again c w (2 ^ (8 * byte_len w)) wide x.0 x.1 is.is
  number_given bytes (Err d) fail = few (length bytes) (byte_len w) c d _ fail

  number_exact : {P : E → Type 0} → P c → Exact P (number_in value spell c w)
  number_exact {P} p = record {
    found = λ bytes fits. number_found bytes (ltb (length bytes) (byte_len w)) refl fits;
    only = number_given;
    faults = λ bytes d fail. subst P (sym fail.0) p;
  }

pub number16_exact : {E : Type 0} {P : E → Type 0} (c : E) → P c → Exact P (number c w16)
number16_exact c p = number_exact c w16 wide16 p

pub number32_exact : {E : Type 0} {P : E → Type 0} (c : E) → P c → Exact P (number c w32)
number32_exact c p = number_exact c w32 wide32 p

pub number64_exact : {E : Type 0} {P : E → Type 0} (c : E) → P c → Exact P (number c w64)
number64_exact c p = number_exact c w64 wide64 p

pub big16_exact : {E : Type 0} {P : E → Type 0} (c : E) → P c → Exact P (big_number c w16)
big16_exact c p = number_exact c w16 big16 p

pub big32_exact : {E : Type 0} {P : E → Type 0} (c : E) → P c → Exact P (big_number c w32)
big32_exact c p = number_exact c w32 big32 p

pub big64_exact : {E : Type 0} {P : E → Type 0} (c : E) → P c → Exact P (big_number c w64)
big64_exact c p = number_exact c w64 big64 p

part_found : {E : Type 0} (c : E) (count : ℕ) (bytes : List ℕ) (b : Bool) → b ≡ ltb (length bytes) count
    → IsRead (part c count) bytes (cond b (Err c) (Ok (take count bytes, drop count bytes)))
part_found c count bytes true e = (refl, ltb-true (length bytes) count (sym e))
part_found c count bytes false e = record {
  is = omega (arith, ltb-false (length bytes) count (sym e), length-take count bytes);
  parts = sym (take-append-drop count bytes);
}

part_given : {E : Type 0} (c : E) (count : ℕ) (bytes : List ℕ) (reading : Result (List ℕ × List ℕ) E)
    → IsRead (part c count) bytes reading → part_at c count bytes ≡ reading
part_given c count bytes (Ok x) is = rw (is.parts, ← is.is) (part_again c x.0 x.1)
part_given c count bytes (Err d) fail = few (length bytes) count c d _ fail

pub part_exact : {E : Type 0} {P : E → Type 0} (c : E) (count : ℕ) → P c → Exact P (part c count)
part_exact {E} {P} c count p = record {
  found = λ bytes fits. part_found c count bytes (ltb (length bytes) count) refl;
  only = part_given c count;
  faults = λ bytes d fail. subst P (sym fail.0) p;
}

byte_found : {E : Type 0} (c : E) (bytes : List ℕ) → IsBytes bytes → IsRead (byte c) bytes (byte_at c bytes)
byte_found c [] fits = (refl, refl)
byte_found c (b ∷ bytes) fits = record { is = fits 0; parts = refl }

byte_given : {E : Type 0} (c : E) (bytes : List ℕ) (reading : Result (ℕ × List ℕ) E) → IsRead (byte c) bytes reading
    → byte_at c bytes ≡ reading
byte_given c bytes (Ok x) is = rw is.parts refl
byte_given c bytes (Err d) fail = rw (fail.1, fail.0) refl

pub byte_exact : {E : Type 0} {P : E → Type 0} (c : E) → P c → Exact P (byte c)
byte_exact {E} {P} c p =
    record { found = byte_found c; only = byte_given c; faults = λ bytes d fail. subst P (sym fail.0) p }

-- ---- one after another

pub either_of : {F G H : Type 0} → (F → H) → (G → H) → F ⊎ G → H
either_of f g (inl x) = f x
either_of f g (inr y) = g y

module _ {A B E : Type 0} {P : E → Type 0} {first : Format A E} {next : A → Format B E} (f : Exact P first)
    (g : (a : A) → Exact P (next a)) where
  followed_after : (bytes : List ℕ) (a : A) (rest : List ℕ) (reading : Result (B × List ℕ) E) → Begins first bytes a rest
      → IsRead (next a) rest reading → IsRead (first followed_by next) bytes (reading >>= λ b. Ok ((a, b.0), b.1))
  followed_after bytes a rest (Ok b) head tail = record {
    is = (head.is, tail.is);
    parts = head.parts ∙ ap (λ (t : List ℕ). first.spell a ++ t) tail.parts
        ∙ sym (append_assoc (first.spell a) ((next a).spell b.0) b.1);
  }
  followed_after bytes a rest (Err d) head fail = inr (a, rest, head, fail)

  followed_found : (bytes : List ℕ) (reading : Result (A × List ℕ) E) → IsBytes bytes → IsRead first bytes reading
      → IsRead (first followed_by next) bytes (reading >>= λ a. (next a.0).at a.1 >>= λ b. Ok ((a.0, b.0), b.1))
  followed_found bytes (Ok a) fits head =
      followed_after bytes a.0 a.1 ((next a.0).at a.1) head
      ((g a.0).found a.1 (IsBytes-behind bytes (first.spell a.0) a.1 head.parts fits))
  followed_found bytes (Err d) fits fail = inl fail

  followed_given : (bytes : List ℕ) (reading : Result ((A × B) × List ℕ) E) → IsRead (first followed_by next) bytes reading
      → (first followed_by next).at bytes ≡ reading
  followed_given bytes (Ok x) is =
      let tail = (next x.0.0).spell x.0.1 ++ x.1 in
      let head = f.only bytes (Ok (x.0.0, tail))
      (record { is = is.is.0; parts = is.parts ∙ append_assoc (first.spell x.0.0) ((next x.0.0).spell x.0.1) x.1 }) in
      rw (head, again (g x.0.0) x.0.1 x.1 is.is.1) refl
  followed_given bytes (Err d) (inl here) = rw (f.only bytes (Err d) here) refl
  followed_given bytes (Err d) (inr there) =
      rw (f.only bytes (Ok (there.0, there.1)) there.2, (g there.0).only there.1 (Err d) there.3) refl

  pub followed_exact : Exact P (first followed_by next)
  followed_exact = record {
    found = λ bytes fits. followed_found bytes (first.at bytes) fits (f.found bytes fits);
    only = followed_given;
    faults = λ bytes d fail. either_of (f.faults bytes d) (λ there. (g there.0).faults there.1 d there.3) fail;
  }

-- ---- values of another kind

-- What a reader finds that passes values through a view, which may refuse them.
abbrev pub IsSeen : {A X E : Type 0} → (A → Result X E) → Format A E → List ℕ → Result (X × List ℕ) E → Type 0
IsSeen {A} view format bytes (Ok x) = (a : A) × Begins format bytes a x.1 × (view a ≡ Ok x.0)
IsSeen {A} view format bytes (Err d) =
    format.Fails bytes d ⊎ ((a : A) × (rest : List ℕ) × Begins format bytes a rest × (view a ≡ Err d))

module _ {A X E : Type 0} {P : E → Type 0} (view : A → Result X E) {format : Format A E} (f : Exact P format) where
  seen_after : (bytes : List ℕ) (a : A) (rest : List ℕ) (made : Result X E) → view a ≡ made → Begins format bytes a rest
      → IsSeen view format bytes (made >>= λ x. Ok (x, rest))
  seen_after bytes a rest (Ok x) e begins = (a, begins, e)
  seen_after bytes a rest (Err d) e begins = inr (a, rest, begins, e)

  seen_by : (bytes : List ℕ) (reading : Result (A × List ℕ) E) → IsRead format bytes reading
      → IsSeen view format bytes (seen view reading)
  seen_by bytes (Ok a) begins = seen_after bytes a.0 a.1 (view a.0) refl begins
  seen_by bytes (Err d) fail = inl fail

  pub seen_found : (bytes : List ℕ) → IsBytes bytes → IsSeen view format bytes (seen view (format.at bytes))
  seen_found bytes fits = seen_by bytes (format.at bytes) (f.found bytes fits)

  pub seen_given : (bytes : List ℕ) (reading : Result (X × List ℕ) E) → IsSeen view format bytes reading
      → seen view (format.at bytes) ≡ reading
  seen_given bytes (Ok x) is = rw (f.only bytes (Ok (is.0, x.1)) is.1, is.2) refl
  seen_given bytes (Err d) (inl here) = rw (f.only bytes (Err d) here) refl
  seen_given bytes (Err d) (inr there) = rw (f.only bytes (Ok (there.0, there.1)) there.2, there.3) refl

  pub seen_faults : ((a : A) → IfErr (view a) P) → (bytes : List ℕ) (d : E) → IsSeen view format bytes (Err d) → P d
  seen_faults refusals bytes d fail =
      either_of (f.faults bytes d) (λ there. subst (λ (r : Result X E). IfErr r P) there.3 (refusals there.0)) fail

module _ {A X E : Type 0} {P : E → Type 0} {view : A → Result X E} {back : X → A} {format : Format A E}
    (sound : (a : A) (x : X) → format.Is a → view a ≡ Ok x → a ≡ back x) (refusals : (a : A) → IfErr (view a) P)
    (f : Exact P format) where
  viewed_found : (bytes : List ℕ) (reading : Result (X × List ℕ) E) → IsSeen view format bytes reading
      → IsRead (viewed view back format) bytes reading
  viewed_found bytes (Ok x) is =
      let same = sound is.0 x.0 is.1.is is.2 in
      record { is = (subst format.Is same is.1.is, ap view (sym same) ∙ is.2); parts = rw (← same) is.1.parts }
  viewed_found bytes (Err d) is = is

  viewed_given : (bytes : List ℕ) (reading : Result (X × List ℕ) E) → IsRead (viewed view back format) bytes reading
      → IsSeen view format bytes reading
  viewed_given bytes (Ok x) is = (back x.0, record { is = is.is.0; parts = is.parts }, is.is.1)
  viewed_given bytes (Err d) is = is

  pub viewed_exact : Exact P (viewed view back format)
  viewed_exact = record {
    found = λ bytes fits. viewed_found bytes (seen view (format.at bytes)) (seen_found view f bytes fits);
    only = λ bytes reading is. seen_given view f bytes reading (viewed_given bytes reading is);
    faults = λ bytes d fail. seen_faults view f refusals bytes d fail;
  }

-- A value that was not refused is not bad.
pub passes : {X E : Type 0} (bad : Bool) (c : E) (x y : X) → cond bad (Err c) (the_ok E x) ≡ Ok y → bad ≡ false
passes bad c x y e = (guard_ok bad c (Ok x) y e).0

pub choice_fails : {X E : Type 0} (P : E → Type 0) (b : Bool) (r s : Result X E) → IfErr r P → IfErr s P → IfErr (cond b r s) P
choice_fails P true r s this other = this
choice_fails P false r s this other = other

pub unless_exact : {X E : Type 0} {P : E → Type 0} (bad : X → Bool) (c : E) {format : Format X E} → P c → Exact P format
    → Exact P (unless bad c format)
unless_exact {X} {E} {P} bad c p f =
    viewed_exact (λ x y is e. ok_is x y (guard_ok (bad x) c (Ok x) y e).1) (λ x. choice_fails P (bad x) (Err c) (Ok x) p tt) f

pub told : {A B E : Type 0} (c : E) (a : A) (o : Option B) (x : A × B) → (ok_or o c >>= λ b. the_ok E (a, b)) ≡ Ok x
    → (a ≡ x.0) × (o ≡ Some x.1)
told {A} {B} c a (Some b) x e =
    let same = ok_is (a, b) x e in
    (ap (λ (y : A × B). y.0) same, ap (λ (y : A × B). Some y.1) same)
told c a None x e = absurd cc

untold : {A B E : Type 0} (P : E → Type 0) (o : Option B) (c : E) (a : A) → P c
    → IfErr {T = A × B} (ok_or o c >>= λ b. the_ok E (a, b)) P
untold P (Some b) c a p = tt
untold P None c a p = p

pub telling_exact : {A B E : Type 0} {P : E → Type 0} (tell : A → Option B) (c : E) {format : Format A E} → P c → Exact P format
    → Exact P (telling tell c format)
telling_exact {A} {B} {E} {P} tell c p f =
    viewed_exact (λ a x is e. (told c a (tell a) x e).0) (λ a. untold P (tell a) c a p) f

pub mapped_exact : {A X E : Type 0} {P : E → Type 0} {to : A → X} {back : X → A} {format : Format A E}
    → ((a : A) → format.Is a → back (to a) ≡ a) → Exact P format → Exact P (mapped to back format)
mapped_exact {A} {X} {E} {P} {to} {back} same f =
    viewed_exact (λ a x is e. sym (same a is) ∙ ap back (ok_is (to a) x e)) (λ a. tt) f

-- ---- length-prefixed bytes

module _ {X E : Type 0} {P : E → Type 0} {format : Format X E} (at : List ℕ → Result (X × List ℕ) E)
    (same : (bytes : List ℕ) → at bytes ≡ format.at bytes) (f : Exact P format) where
  read_alike : (bytes : List ℕ) (reading : Result (X × List ℕ) E) → IsRead format bytes reading
      → IsRead (read_by at format) bytes reading
  read_alike bytes (Ok x) begins = record { is = begins.is; parts = begins.parts }
  read_alike bytes (Err d) fail = fail

  alike_read : (bytes : List ℕ) (reading : Result (X × List ℕ) E) → IsRead (read_by at format) bytes reading
      → IsRead format bytes reading
  alike_read bytes (Ok x) begins = record { is = begins.is; parts = begins.parts }
  alike_read bytes (Err d) fail = fail

  pub read_by_exact : Exact P (read_by at format)
  read_by_exact = record {
    found = λ bytes fits. read_alike bytes (at bytes) (rw (same bytes) (f.found bytes fits));
    only = λ bytes reading is. same bytes ∙ f.only bytes reading (alike_read bytes reading is);
    faults = f.faults;
  }

pub sized_by_exact : {E : Type 0} {P : E → Type 0} {size : Format ℕ E} (c : E) → P c → Exact P size → Exact P (sized_by size c)
sized_by_exact c p f =
    mapped_exact (λ x is. ap (λ (n : ℕ). (n, x.1)) is.1) (followed_exact f (λ count. part_exact c count p))

part_alike : {E : Type 0} (n : ℕ) (r : Result (List ℕ × List ℕ) E)
    → r ≡ seen (λ (x : ℕ × List ℕ). the_ok E x.1) (r >>= λ b. the_ok E ((n, b.0), b.1))
part_alike n (Ok x) = refl
part_alike n (Err d) = refl

sized_alike : {E : Type 0} (c : E) (r : Result (ℕ × List ℕ) E)
    → (r >>= λ n. part_at c n.0 n.1)
    ≡ seen (λ (x : ℕ × List ℕ). the_ok E x.1) (r >>= λ n. part_at c n.0 n.1 >>= λ b. the_ok E ((n.0, b.0), b.1))
sized_alike c (Ok n) = part_alike n.0 (part_at c n.0 n.1)
sized_alike c (Err d) = refl

pub sized_exact : {E : Type 0} {P : E → Type 0} (c : E) → P c → Exact P (sized c)
unfolding sized_at
sized_exact c p =
    read_by_exact (sized_at c) (λ bytes. sized_alike c (number_at c w32 bytes)) (sized_by_exact c p (number32_exact c p))

-- ---- one of two formats, and a value within `count` bytes

pub either_exact : {X E : Type 0} {P : E → Type 0} (test : Bool) {this other : Format X E} → Exact P this → Exact P other
    → Exact P (either test this other)
either_exact true f g = f
either_exact false f g = g

module _ {X E : Type 0} {P : E → Type 0} (c : E) (count : ℕ) {format : Format X E} (p : P c) (f : Exact P format) where
  within_after : (bytes region rest : List ℕ) (reading : Result (X × List ℕ) E) → Begins (part c count) bytes region rest
      → IsRead format region reading → IsRead (within c count format) bytes (reading >>= λ x. Ok (x, rest))
  within_after bytes region rest (Ok x) head inner = record {
    is = (inner.is, ap (λ (t : List ℕ). length t) (sym inner.parts) ∙ head.is);
    parts = head.parts ∙ ap (λ (t : List ℕ). t ++ rest) inner.parts;
  }
  within_after bytes region rest (Err d) head fail = inr (region, rest, head, fail)

  within_found : (bytes : List ℕ) (reading : Result (List ℕ × List ℕ) E) → IsBytes bytes → IsRead (part c count) bytes reading
      → IsRead (within c count format) bytes (reading >>= λ region. format.at region.0 >>= λ x. Ok (x, region.1))
  within_found bytes (Ok y) fits head =
      within_after bytes y.0 y.1 (format.at y.0) head (f.found y.0 (IsBytes-prefix bytes y.0 y.1 head.parts fits))
  within_found bytes (Err d) fits fail = inl fail

  within_given : (bytes : List ℕ) (reading : Result ((X × List ℕ) × List ℕ) E) → IsRead (within c count format) bytes reading
      → (within c count format).at bytes ≡ reading
  within_given bytes (Ok x) is =
      let region = format.spell x.0.0 ++ x.0.1 in
      let head = part_given c count bytes (Ok (region, x.1)) (record { is = is.is.1; parts = is.parts }) in
      rw (head, again f x.0.0 x.0.1 is.is.0) refl
  within_given bytes (Err d) (inl short) = rw (part_given c count bytes (Err d) short) refl
  within_given bytes (Err d) (inr there) =
      rw (part_given c count bytes (Ok (there.0, there.1)) there.2, f.only there.0 (Err d) there.3) refl

  pub within_exact : Exact P (within c count format)
  within_exact = record {
    found = λ bytes fits. within_found bytes (part_at c count bytes) fits (part_found c count bytes (ltb (length bytes) count) refl);
    only = within_given;
    faults = λ bytes d fail. either_of (λ short. subst P (sym short.0) p) (λ there. f.faults there.0 d there.3) fail;
  }

-- ---- all of the bytes

empty_is : (xs : List ℕ) → eqb (length xs) 0 ≡ true → xs ≡ []
empty_is [] e = refl
empty_is (x ∷ xs) e = let none : length (x ∷ xs) ≡ 0 = eqb-true (length (x ∷ xs)) 0 e in absurd (omega arith)

pub whole_takes : {X E : Type 0} {P : E → Type 0} (c : E) {format : Format X E} → Exact P format → (bytes : List ℕ) (x : X) → IsBytes bytes
    → whole c format bytes ≡ Ok x → format.Is x × (bytes ≡ format.spell x)
whole_takes {X} {E} {P} c {format} f bytes x fits e =
    let a = bind_ok _ _ x e in
    let test = test_ok _ _ _ x a.2 in
    let read = takes f bytes a.0 fits a.1 in
    subst (λ (y : X). format.Is y × (bytes ≡ format.spell y)) (ok_is a.0.0 x test.1) (
      read.is,
      read.parts ∙ ap (λ (t : List ℕ). format.spell a.0.0 ++ t) (empty_is a.0.1 test.0) ∙ append-nil (format.spell a.0.0),
    )

pub whole_again : {X E : Type 0} {P : E → Type 0} (c : E) {format : Format X E} → Exact P format → (bytes : List ℕ) (x : X) → format.Is x
    → bytes ≡ format.spell x → whole c format bytes ≡ Ok x
whole_again c {format} f bytes x is parts =
    rw (f.only bytes (Ok (x, [])) (record { is = is; parts = parts ∙ sym (append-nil (format.spell x)) })) refl

-- ---- `count` values

-- `count` more values after those before.
record TakenInTurn {X E : Type 0} (item : List X → Format X E) (count : ℕ) (before : List X) (bytes : List ℕ)
    (x : List X × List ℕ) : Type 0 where
  more : List X
  all : x.0 ≡ before ++ more
  count_is : length more ≡ count
  are : AreInTurn item before more
  parts : bytes ≡ spelled_in_turn item before more ++ x.1

abbrev AreRead : {X E : Type 0} → (List X → Format X E) → ℕ → List X → List ℕ → Result (List X × List ℕ) E → Type 0
AreRead item count before bytes (Ok x) = TakenInTurn item count before bytes x
AreRead item count before bytes (Err d) = FailInTurn item count before bytes d

module _ {X E : Type 0} {P : E → Type 0} {item : List X → Format X E} (f : (before : List X) → Exact P (item before)) where
  one_more : (count : ℕ) (before : List X) (bytes : List ℕ) (x : X) (rest : List ℕ) (reading : Result (List X × List ℕ) E)
      → Begins (item before) bytes x rest → AreRead item count (before ++ x ∷ []) rest reading
      → AreRead item (suc count) before bytes reading
  one_more count before bytes x rest (Ok y) head tail = record {
    more = x ∷ tail.more;
    all = tail.all ∙ append_assoc before (x ∷ []) tail.more;
    count_is = ap suc tail.count_is;
    are = (head.is, tail.are);
    parts = head.parts ∙ ap (λ (t : List ℕ). (item before).spell x ++ t) tail.parts
        ∙ sym (append_assoc ((item before).spell x) (spelled_in_turn item (before ++ x ∷ []) tail.more) y.1);
  }
  one_more count before bytes x rest (Err d) head fail = inr (x, rest, head, fail)

  first_found : (count : ℕ) (before : List X) (bytes : List ℕ) (reading : Result (X × List ℕ) E)
      (others : X × List ℕ → Result (List X × List ℕ) E) → IsBytes bytes → IsRead (item before) bytes reading
      → ((x : X × List ℕ) → IsBytes x.1 → AreRead item count (before ++ x.0 ∷ []) x.1 (others x))
      → AreRead item (suc count) before bytes (reading >>= others)
  first_found count before bytes (Ok x) others fits head next =
      one_more count before bytes x.0 x.1 (others x) head (next x (IsBytes-behind bytes ((item before).spell x.0) x.1 head.parts fits))
  first_found count before bytes (Err d) others fits fail next = inl fail

  all_found : (count : ℕ) (before : List X) (bytes : List ℕ) → IsBytes bytes
      → AreRead item count before bytes (items_at (λ b. (item b).at) count before bytes)
  unfolding items_at
  all_found zero before bytes fits = record { more = []; all = sym (append-nil before); count_is = refl; are = tt; parts = refl }
  all_found (suc count) before bytes fits =
      first_found count before bytes ((item before).at bytes) (λ x. items_at (λ b. (item b).at) count (before ++ x.0 ∷ []) x.1) fits
      ((f before).found bytes fits) (λ x rest-fits. all_found count (before ++ x.0 ∷ []) x.1 rest-fits)

  all_again : (before more : List X) (rest : List ℕ) → AreInTurn item before more
      → items_at (λ b. (item b).at) (length more) before (spelled_in_turn item before more ++ rest) ≡ Ok (before ++ more, rest)
  unfolding items_at
  all_again before [] rest are = ap (λ (xs : List X). the_ok E (xs, rest)) (sym (append-nil before))
  all_again before (x ∷ more) rest are =
      let tail = spelled_in_turn item (before ++ x ∷ []) more in
      ap (items_at (λ b. (item b).at) (suc (length more)) before) (append_assoc ((item before).spell x) tail rest)
      ∙ rw (again (f before) x (tail ++ rest) are.0, all_again (before ++ x ∷ []) more rest are.1)
      (ap (λ (xs : List X). the_ok E (xs, rest)) (append_assoc before (x ∷ []) more))

  all_fail : (count : ℕ) (before : List X) (bytes : List ℕ) (d : E) → FailInTurn item count before bytes d
      → items_at (λ b. (item b).at) count before bytes ≡ Err d
  unfolding items_at
  all_fail zero before bytes d fail = absurd fail
  all_fail (suc count) before bytes d (inl here) = rw ((f before).only bytes (Err d) here) refl
  all_fail (suc count) before bytes d (inr there) =
      rw ((f before).only bytes (Ok (there.0, there.1)) there.2) (all_fail count (before ++ there.0 ∷ []) there.1 d there.3)

  counted_found : (count : ℕ) (bytes : List ℕ) (reading : Result (List X × List ℕ) E) → AreRead item count [] bytes reading
      → IsRead (counted item count) bytes reading
  counted_found count bytes (Ok x) taken = record {
    is = rw taken.all (taken.count_is, taken.are);
    parts = rw taken.all taken.parts;
  }
  counted_found count bytes (Err d) fail = fail

  counted_given : (count : ℕ) (bytes : List ℕ) (reading : Result (List X × List ℕ) E) → IsRead (counted item count) bytes reading
      → (counted item count).at bytes ≡ reading
  counted_given count bytes (Ok x) is = rw (is.parts, ← is.is.0) (all_again [] x.0 x.1 is.is.1)
  counted_given count bytes (Err d) fail = all_fail count [] bytes d fail

  all_faults : (count : ℕ) (before : List X) (bytes : List ℕ) (d : E) → FailInTurn item count before bytes d → P d
  all_faults zero before bytes d fail = absurd fail
  all_faults (suc count) before bytes d fail =
      either_of ((f before).faults bytes d) (λ there. all_faults count (before ++ there.0 ∷ []) there.1 d there.3) fail

  pub counted_exact : (count : ℕ) → Exact P (counted item count)
  counted_exact count = record {
    found = λ bytes fits. counted_found count bytes ((counted item count).at bytes) (all_found count [] bytes fits);
    only = counted_given count;
    faults = λ bytes d fail. all_faults count [] bytes d fail;
  }

-- Where the values before a value do not change its spelling, the whole is the spellings joined.
pub joined_spellings : {X E : Type 0} (item : List X → Format X E) (spell : X → List ℕ)
    → ((before : List X) (x : X) → (item before).spell x ≡ spell x) → (before xs : List X)
    → spelled_in_turn item before xs ≡ flat_map spell xs
joined_spellings item spell same before [] = refl
joined_spellings item spell same before (x ∷ xs) =
    rw (same before x, joined_spellings item spell same (before ++ x ∷ []) xs) (sym (flat_map-cons spell x xs))

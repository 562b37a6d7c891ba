-- The events of one register, one after another.
use Rattle.std.proofs.Common.{◌≡◌, ℕ, Bool, true, false, cond, List, [], ◌∷◌, ◌++◌, length, refl, sym, ap, ◌∙◌, append-nil, suc, ◌≤◌, arith}
use Rattle.std.specs.Prelude.{filter}
use Rattle.std.specs.List.{AllByRecursion}
use Rattle.std.proofs.lemmas.List.Elements.{filter-append}
use Rattle.boot_log.specs.Names.{LogEvent, is_extended_into}
use Rattle.boot_answers.specs.Extending.{extended_events}

-- An event of another register adds nothing.
pub other_adds_nothing : (register : ℕ) (read given : List LogEvent) (event : LogEvent) → is_extended_into register event ≡ false
    → extended_events register read ≡ given → extended_events register (read ++ event ∷ []) ≡ given
other_adds_nothing register read given event other are =
    filter-append (is_extended_into register) read (event ∷ []) ∙ rw other (append-nil (extended_events register read) ∙ are)

-- One of the register is the next.
pub own_is_next : (register : ℕ) (read given : List LogEvent) (event : LogEvent) → is_extended_into register event ≡ true
    → extended_events register read ≡ given → extended_events register (read ++ event ∷ []) ≡ given ++ event ∷ []
own_is_next register read given event own are =
    filter-append (is_extended_into register) read (event ∷ []) ∙ rw own (ap (λ (es : List LogEvent). es ++ event ∷ []) are)

-- And with those after it all.
pub own_and_later : (register : ℕ) (read given later all : List LogEvent) (event : LogEvent) → is_extended_into register event ≡ true
    → extended_events register read ≡ given → all ≡ read ++ event ∷ later
    → extended_events register all ≡ given ++ event ∷ extended_events register later
own_and_later register read given later all event own are parts =
    ap (extended_events register) parts ∙ filter-append (is_extended_into register) read (event ∷ later)
    ∙ rw own (ap (λ (es : List LogEvent). es ++ event ∷ extended_events register later) are)

pub added_last : {X : Type 0} (P : X → Type 0) (xs : List X) (x : X) → AllByRecursion P xs → P x → AllByRecursion P (xs ++ x ∷ [])
added_last {X = X} P [] x all holds = (holds, tt)
added_last {X = X} P (y ∷ xs) x all holds = (all.0, added_last P xs x all.1 holds)

-- Where all of a list pass a test, and the element after them does not, its part that passes ends there.
pub record SameEnd {X : Type 0} (prefix other : List X) (x y : X) : Type 0 where
  pub prefixes : prefix ≡ other
  pub ends : x ≡ y

pub one_end : {X : Type 0} (P : X → Type 0) (prefix other : List X) (x y : X) (back rest : List X) → AllByRecursion P prefix → (P x → ⊥)
    → AllByRecursion P other → (P y → ⊥) → prefix ++ x ∷ back ≡ other ++ y ∷ rest → SameEnd prefix other x y
one_end {X = X} P [] [] x y back rest all fails others fails_too e = record { prefixes = refl; ends = cc }
one_end {X = X} P [] (z ∷ other) x y back rest all fails others fails_too e =
    let same : x ≡ z = cc in
    absurd (fails (rw same others.0))
one_end {X = X} P (z ∷ prefix) [] x y back rest all fails others fails_too e =
    let same : z ≡ y = cc in
    absurd (fails_too (rw (sym same) all.0))
one_end {X = X} P (z ∷ prefix) (w ∷ other) x y back rest all fails others fails_too e =
    let same : z ≡ w = cc in
    let tails : prefix ++ x ∷ back ≡ other ++ y ∷ rest = cc in
    let more = one_end P prefix other x y back rest all.1 fails others.1 fails_too tails in
    record { prefixes = ap (λ (l : List X). z ∷ l) more.prefixes ∙ ap (λ (h : X). h ∷ other) same; ends = more.ends }

-- Where all of a list pass a test, no element of it fails.
pub no_end : {X : Type 0} (P : X → Type 0) (all prefix : List X) (x : X) (back : List X) → AllByRecursion P all → (P x → ⊥)
    → all ≡ prefix ++ x ∷ back → ⊥
no_end {X = X} P [] [] x back passed fails e = absurd cc
no_end {X = X} P [] (z ∷ prefix) x back passed fails e = absurd cc
no_end {X = X} P (w ∷ all) [] x back passed fails e =
    let same : w ≡ x = cc in
    fails (rw (sym same) passed.0)
no_end {X = X} P (w ∷ all) (z ∷ prefix) x back passed fails e =
    let tails : all ≡ prefix ++ x ∷ back = cc in
    no_end P all prefix x back passed.1 fails tails

-- No more events are extended into a register than there are.
kept_first : (b : Bool) (event : LogEvent) (kept : List LogEvent) (n : ℕ) → length kept ≤ n → length (cond b (event ∷ kept) kept) ≤ suc n
kept_first true event kept n few = omega (arith, few)
kept_first false event kept n few = omega (arith, few)

kept_are_few : (test : LogEvent → Bool) (events : List LogEvent) → length (filter test events) ≤ length events
kept_are_few test [] = omega arith
kept_are_few test (event ∷ events) = kept_first (test event) event (filter test events) (length events) (kept_are_few test events)

pub given_are_read : (register : ℕ) (read given : List LogEvent) (count : ℕ) → extended_events register read ≡ given → count ≡ length read
    → length given ≤ count
given_are_read register read given count are counted =
    omega (arith, kept_are_few (is_extended_into register) read, ap (λ (es : List LogEvent). length es) are, counted)

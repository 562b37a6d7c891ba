-- Options of a text, one byte after another.
use Rattle.std.proofs.Common.{◌≡◌, ℕ, Bool, true, false, List, [], ◌∷◌, ◌++◌, length, refl, sym, ap, ◌∙◌, inl, inr, ◌⊎◌, arith}
use Rattle.boot_answers.specs.ImaPolicy.{MaySetImaPolicy, begins_option, is_between}
use Rattle.boot_answers.specs.parts.ImaPolicy.{SetsFrom}

pub sets_here : (text : List ℕ) → begins_option text ≡ true → SetsFrom true text
sets_here text option = record { before = []; rest = text; parts = refl; start = inl (refl, refl); option = option }

ends : (before rest : List ℕ) → [] ≡ before ++ rest → begins_option rest ≡ true → ⊥
ends [] [] parts option = absurd cc
ends [] (x ∷ rest) parts option = absurd cc
ends (x ∷ before) rest parts option = absurd cc

pub sets_not_at_end : (starts : Bool) → SetsFrom starts [] → ⊥
sets_not_at_end starts sets = absurd (ends sets.before sets.rest sets.parts sets.option)

pub sets_later : (starts : Bool) (byte : ℕ) (text : List ℕ) → SetsFrom (is_between byte) text → SetsFrom starts (byte ∷ text)
sets_later starts byte text sets = record {
  before = byte ∷ sets.before;
  rest = sets.rest;
  parts = ap (λ (l : List ℕ). byte ∷ l) sets.parts;
  start = elim sets.start [
    | inl here ↦ inr ([], byte, ap (λ (l : List ℕ). byte ∷ l) here.0, here.1)
    | inr there ↦ inr (byte ∷ there.0, there.1, ap (λ (l : List ℕ). byte ∷ l) there.2, there.3)
  ];
  option = sets.option;
}

not_empty : (prefix : List ℕ) (last : ℕ) → [] ≡ prefix ++ last ∷ [] → ⊥
not_empty [] last e = absurd cc
not_empty (x ∷ prefix) last e = absurd cc

start_after : (byte x : ℕ) (before prefix : List ℕ) (last : ℕ) → byte ≡ x → x ∷ before ≡ prefix ++ last ∷ [] → is_between last ≡ true
    → ((before ≡ []) × (is_between byte ≡ true))
    ⊎ ((more : List ℕ) × (end : ℕ) × (before ≡ more ++ end ∷ []) × (is_between end ≡ true))
start_after byte x before [] last same e between =
    let one : x ≡ last = cc in
    let none : before ≡ [] = cc in
    inl (none, rw (same ∙ one) between)
start_after byte x before (y ∷ prefix) last same e between =
    let tails : before ≡ prefix ++ last ∷ [] = cc in
    inr (prefix, last, tails, between)

split_start : (starts : Bool) (byte : ℕ) (text before rest : List ℕ) → (starts ≡ true → begins_option (byte ∷ text) ≡ false)
    → byte ∷ text ≡ before ++ rest
    → ((before ≡ []) × (starts ≡ true)) ⊎ ((prefix : List ℕ) × (last : ℕ) × (before ≡ prefix ++ last ∷ []) × (is_between last ≡ true))
    → begins_option rest ≡ true → SetsFrom (is_between byte) text
split_start starts byte text [] rest none parts (inl here) option =
    let not_here : begins_option rest ≡ false = rw (sym parts) (none here.1) in
    absurd cc
split_start starts byte text [] rest none parts (inr there) option = absurd (not_empty there.0 there.1 there.2)
split_start starts byte text (x ∷ before) rest none parts (inl here) option = let no = here.0 in absurd cc
split_start starts byte text (x ∷ before) rest none parts (inr there) option =
    let same : byte ≡ x = cc in
    let tails : text ≡ before ++ rest = cc in
    record { before = before; rest = rest; parts = tails; start = start_after byte x before there.0 there.1 same there.2 there.3; option = option }

-- A text whose start is no option has one later.
pub sets_earlier : (starts : Bool) (byte : ℕ) (text : List ℕ) → (starts ≡ true → begins_option (byte ∷ text) ≡ false)
    → SetsFrom starts (byte ∷ text) → SetsFrom (is_between byte) text
sets_earlier starts byte text none sets =
    split_start starts byte text sets.before sets.rest none sets.parts sets.start sets.option

pub sets_all : (text : List ℕ) → SetsFrom true text → MaySetImaPolicy text
sets_all text sets = record {
  before = sets.before;
  rest = sets.rest;
  parts = sets.parts;
  start = elim sets.start [
    | inl here ↦ inl here.0
    | inr there ↦ inr there
  ];
  option = sets.option;
}

pub sets_from : (text : List ℕ) → MaySetImaPolicy text → SetsFrom true text
sets_from text sets = record {
  before = sets.before;
  rest = sets.rest;
  parts = sets.parts;
  start = elim sets.start [
    | inl here ↦ inl (here, refl)
    | inr there ↦ inr there
  ];
  option = sets.option;
}

pub sets_here_if : (starts : Bool) (text : List ℕ) → starts ≡ true → begins_option text ≡ true → SetsFrom starts text
sets_here_if starts text here option = record { before = []; rest = text; parts = refl; start = inl (refl, here); option = option }

no_true : (b : Bool) → (b ≡ true → ⊥) → b ≡ false
no_true true other = absurd (other refl)
no_true false other = refl

pub none_begins : (text : List ℕ) → (begins_option text ≡ true → ⊥) → begins_option text ≡ false
none_begins text other = no_true (begins_option text) other

pub no_bytes : (text : List ℕ) → length text ≡ 0 → text ≡ []
no_bytes [] e = refl
no_bytes (x ∷ text) e = absurd (omega (arith, e))

-- Options that ask to measure, one byte after another.
use Rattle.std.proofs.Common.{◌≡◌, ℕ, Bool, true, false, List, [], ◌∷◌, ◌++◌, refl, sym, ap, subst, ◌∙◌, inl, inr, ◌⊎◌}
use Rattle.boot_answers.specs.ImaMeasuring.{AsksToMeasure, BeginsMeasuring, is_space, stops}
use Rattle.boot_answers.specs.parts.ImaMeasuring.{AsksFrom}

no_back : (prefix back : List ℕ) → [] ≡ prefix ++ back → back ≡ []
no_back [] back e = sym e
no_back (x ∷ prefix) back e = absurd cc

pub asks_here : (starts : Bool) (text : List ℕ) → starts ≡ true → BeginsMeasuring text → stops text ≡ false → AsksFrom starts text
asks_here starts text here option goes_on = record {
  before = [];
  rest = text;
  parts = refl;
  start = inl (refl, here);
  option = option;
  plain = λ prefix back e. subst (λ (l : List ℕ). stops (l ++ text) ≡ false) (sym (no_back prefix back e)) goes_on;
}

none_here : (before rest : List ℕ) → [] ≡ before ++ rest → BeginsMeasuring rest → ⊥
none_here [] [] parts (inl option) = absurd cc
none_here [] [] parts (inr (inl option)) = absurd cc
none_here [] [] parts (inr (inr option)) = absurd cc
none_here [] (x ∷ rest) parts option = absurd cc
none_here (x ∷ before) rest parts option = absurd cc

pub asks_not_at_end : (starts : Bool) → AsksFrom starts [] → ⊥
asks_not_at_end starts asks = none_here asks.before asks.rest asks.parts asks.option

plain_later : (byte : ℕ) (text before rest prefix back : List ℕ) → text ≡ before ++ rest → stops (byte ∷ text) ≡ false
    → ((prefix back : List ℕ) → before ≡ prefix ++ back → stops (back ++ rest) ≡ false) → byte ∷ before ≡ prefix ++ back
    → stops (back ++ rest) ≡ false
plain_later byte text before rest [] back parts goes_on plain e =
    subst (λ (l : List ℕ). stops l ≡ false) (ap (λ (l : List ℕ). byte ∷ l) parts ∙ ap (λ (l : List ℕ). l ++ rest) e) goes_on
plain_later byte text before rest (x ∷ prefix) back parts goes_on plain e =
    let tails : before ≡ prefix ++ back = cc in
    plain prefix back tails

pub asks_later : (starts : Bool) (byte : ℕ) (text : List ℕ) → stops (byte ∷ text) ≡ false → AsksFrom (is_space byte) text
    → AsksFrom starts (byte ∷ text)
asks_later starts byte text goes_on asks = record {
  before = byte ∷ asks.before;
  rest = asks.rest;
  parts = ap (λ (l : List ℕ). byte ∷ l) asks.parts;
  start = elim asks.start [
    | inl here ↦ inr ([], byte, ap (λ (l : List ℕ). byte ∷ l) here.0, here.1)
    | inr there ↦ inr (byte ∷ there.0, there.1, ap (λ (l : List ℕ). byte ∷ l) there.2, there.3)
  ];
  option = asks.option;
  plain = λ prefix back e. plain_later byte text asks.before asks.rest prefix back asks.parts goes_on asks.plain e;
}

not_empty : (prefix : List ℕ) (last : ℕ) → [] ≡ prefix ++ last ∷ [] → ⊥
not_empty [] last e = absurd cc
not_empty (x ∷ prefix) last e = absurd cc

start_after : (byte x : ℕ) (before prefix : List ℕ) (last : ℕ) → byte ≡ x → x ∷ before ≡ prefix ++ last ∷ [] → is_space last ≡ true
    → ((before ≡ []) × (is_space byte ≡ true))
    ⊎ ((more : List ℕ) × (end : ℕ) × (before ≡ more ++ end ∷ []) × (is_space end ≡ true))
start_after byte x before [] last same e space =
    let one : x ≡ last = cc in
    let none : before ≡ [] = cc in
    inl (none, rw (same ∙ one) space)
start_after byte x before (y ∷ prefix) last same e space =
    let tails : before ≡ prefix ++ last ∷ [] = cc in
    inr (prefix, last, tails, space)

split_start : (starts : Bool) (byte : ℕ) (text before rest : List ℕ) → (starts ≡ true → BeginsMeasuring (byte ∷ text) → ⊥)
    → byte ∷ text ≡ before ++ rest
    → ((before ≡ []) × (starts ≡ true)) ⊎ ((prefix : List ℕ) × (last : ℕ) × (before ≡ prefix ++ last ∷ []) × (is_space last ≡ true))
    → BeginsMeasuring rest → ((prefix back : List ℕ) → before ≡ prefix ++ back → stops (back ++ rest) ≡ false)
    → AsksFrom (is_space byte) text
split_start starts byte text [] rest none parts (inl here) option plain =
    absurd (none here.1 (subst BeginsMeasuring (sym parts) option))
split_start starts byte text [] rest none parts (inr there) option plain = absurd (not_empty there.0 there.1 there.2)
split_start starts byte text (x ∷ before) rest none parts (inl here) option plain = let no = here.0 in absurd cc
split_start starts byte text (x ∷ before) rest none parts (inr there) option plain =
    let same : byte ≡ x = cc in
    let tails : text ≡ before ++ rest = cc in
    record {
      before = before;
      rest = rest;
      parts = tails;
      start = start_after byte x before there.0 there.1 same there.2 there.3;
      option = option;
      plain = λ prefix back e. plain (x ∷ prefix) back (ap (λ (l : List ℕ). x ∷ l) e);
    }

-- A text whose start is no option has one later.
pub asks_earlier : (starts : Bool) (byte : ℕ) (text : List ℕ) → (starts ≡ true → BeginsMeasuring (byte ∷ text) → ⊥)
    → AsksFrom starts (byte ∷ text) → AsksFrom (is_space byte) text
asks_earlier starts byte text none asks =
    split_start starts byte text asks.before asks.rest none asks.parts asks.start asks.option asks.plain

-- What stops has none.
pub stopped : (starts : Bool) (text : List ℕ) → stops text ≡ true → AsksFrom starts text → ⊥
stopped starts text stop asks =
    let goes_on : stops text ≡ false = subst (λ (l : List ℕ). stops l ≡ false) (sym asks.parts) (asks.plain [] asks.before refl) in
    let no : true ≡ false = sym stop ∙ goes_on in
    absurd cc

pub asks_all : (text : List ℕ) → AsksFrom true text → AsksToMeasure text
asks_all text asks = record {
  before = asks.before;
  rest = asks.rest;
  parts = asks.parts;
  start = elim asks.start [
    | inl here ↦ inl here.0
    | inr there ↦ inr there
  ];
  option = asks.option;
  plain = asks.plain;
}

pub asks_from : (text : List ℕ) → AsksToMeasure text → AsksFrom true text
asks_from text asks = record {
  before = asks.before;
  rest = asks.rest;
  parts = asks.parts;
  start = elim asks.start [
    | inl here ↦ inl (here, refl)
    | inr there ↦ inr there
  ];
  option = asks.option;
  plain = asks.plain;
}

-- Text that a sink takes in several writes.
use Rattle.std.proofs.Common.{◌≡◌, ℕ, ◌+◌, ◌-◌, ◌^◌, min, List, [], ◌++◌, Option, None, Some, Result, Ok, Err, refl, sym, ap, subst, ◌∙◌, append_assoc, append-nil, take, drop, take-append-drop, length, length-drop}
use Rattle.std.specs.Result.{IsErrAnd}
use Rattle.std.proofs.Math.Seq.{take-length}
use Rattle.std.specs.Io.KnownBytes.{Appends, Keeps}
use Rattle.byte_streams.specs.Streams.{SinkState, Takes, TakesPart, Sends}

-- The count of failures after one more.
abbrev failures_once : ℕ → ℕ
failures_once failures = min (failures + 1) (2 ^ 64 - 1)

-- ---- known bytes

-- Nothing is written.
pub Appends-nil : (old : Option (List ℕ)) → Appends old old []
Appends-nil None = tt
Appends-nil (Some bytes) = sym (append-nil bytes)

-- One text is written after another.
pub Appends-append : (old mid new : Option (List ℕ)) (first second : List ℕ)
    → Appends old mid first → Appends mid new second → Appends old new (first ++ second)
Appends-append None mid new first second p q = tt
Appends-append (Some bytes) None new first second p q = absurd p
Appends-append (Some bytes) (Some more) None first second p q = absurd q
Appends-append (Some bytes) (Some more) (Some most) first second p q = q ∙ ap (λ l. l ++ second) p ∙ append_assoc bytes first second

-- Nothing more is written after a text.
Appends-kept : (old mid new : Option (List ℕ)) (text : List ℕ) → Appends old mid text → Keeps mid new → Appends old new text
Appends-kept None mid new text p q = tt
Appends-kept (Some bytes) None new text p q = absurd p
Appends-kept (Some bytes) (Some more) None text p q = absurd q
Appends-kept (Some bytes) (Some more) (Some most) text p q = q ∙ p

-- A whole text is a prefix of it.
TakesPart-whole : (old new : Option (List ℕ)) (text : List ℕ) → Appends old new text → TakesPart old new text
TakesPart-whole old new text p = record { prefix = text; rest = []; whole = sym (append-nil text); taken = p }

-- A prefix of the first text is one of both.
TakesPart-first : (old new : Option (List ℕ)) (first second : List ℕ) → TakesPart old new first → TakesPart old new (first ++ second)
TakesPart-first old new first second p = record {
  prefix = p.prefix;
  rest = p.rest ++ second;
  whole = ap (λ l. l ++ second) p.whole ∙ append_assoc p.prefix p.rest second;
  taken = p.taken;
}

-- A prefix of the second text, after the whole first one.
TakesPart-append : (old mid new : Option (List ℕ)) (first second : List ℕ)
    → Appends old mid first → TakesPart mid new second → TakesPart old new (first ++ second)
TakesPart-append old mid new first second p q = record {
  prefix = first ++ q.prefix;
  rest = q.rest;
  whole = ap (λ l. first ++ l) q.whole ∙ sym (append_assoc first q.prefix q.rest);
  taken = Appends-append old mid new first q.prefix p q.taken;
}

-- ---- texts that are sent

-- The sink took the whole text, and did not fail.
abbrev pub Sent : SinkState → SinkState → List ℕ → Type 0
Sent old new text = Sends {A = Unit {0}} {E = Unit {0}} old new (Ok tt) text

-- Nothing is sent.
pub Sends-none : {A E : Type 0} (state : SinkState) (value : A) → Sends {A = A} {E = E} state state (Ok value) []
Sends-none state value = record {
  ok = Appends-nil state.taken;
  part = TakesPart-whole state.taken state.taken [] (Appends-nil state.taken);
  telling = refl;
  counts = refl;
}

-- What was sent stays sent, whatever value the call returns with it.
pub Sends-ok : {A B E F : Type 0} (old new : SinkState) (value : A) (other : B) (text : List ℕ)
    → Sends {A = A} {E = E} old new (Ok value) text → Sends {A = B} {E = F} old new (Ok other) text
Sends-ok old new value other text p = record { ok = p.ok; part = p.part; telling = p.telling; counts = p.counts }

-- A text was sent after another.
pub Sends-then : {A B E F : Type 0} (old mid new : SinkState) (value : A) (result : Result B F) (first second : List ℕ)
    → Sends {A = A} {E = E} old mid (Ok value) first → Sends mid new result second → Sends old new result (first ++ second)
Sends-then old mid new value (Ok other) first second p q = record {
  ok = Appends-append old.taken mid.taken new.taken first second p.ok q.ok;
  part = TakesPart-append old.taken mid.taken new.taken first second p.ok q.part;
  telling = q.telling ∙ p.telling;
  counts = q.counts ∙ p.counts;
}
Sends-then {F} old mid new value (Err fault) first second p q = record {
  ok = tt;
  part = TakesPart-append old.taken mid.taken new.taken first second p.ok q.part;
  telling = q.telling ∙ p.telling;
  counts = q.counts ∙ ap (λ (failures : ℕ). failures_once failures) p.counts;
}

-- The sink failed in the first of two texts, and the caller hands the fault on.
pub Sends-stops : {A B E F : Type 0} (Q : F → Type 0) (old new : SinkState) (fault : E) (result : Result B F) (first second : List ℕ)
    → IsErrAnd result Q → Sends {A = A} {E = E} old new (Err fault) first → Sends old new result (first ++ second)
Sends-stops Q old new fault (Ok value) first second err p = absurd err
Sends-stops Q old new fault (Err other) first second err p = record {
  ok = tt;
  part = TakesPart-first old.taken new.taken first second p.part;
  telling = p.telling;
  counts = p.counts;
}

-- A text that was sent, in another form.
pub Sends-same : {A E : Type 0} (old new : SinkState) (result : Result A E) (text other : List ℕ) → text ≡ other
    → Sends old new result text → Sends old new result other
Sends-same {A} {E} old new result text other same p = subst (λ (t : List ℕ). Sends {A = A} {E = E} old new result t) same p

-- ---- a text that is sent by writes

-- What a sink took of a text, and what is left of it.
pub record IsSent (old new : SinkState) (text rest : List ℕ) : Type 0 where
  pub prefix : List ℕ
  pub whole : text ≡ prefix ++ rest
  pub sent : Sent old new prefix

pub IsSent-none : (state : SinkState) (text : List ℕ) → IsSent state state text text
IsSent-none state text = record { prefix = []; whole = refl; sent = Sends-none state tt }

-- The rest of a list from n on, as a slice.
pub take-drop-all : (n : ℕ) (rest : List ℕ) → take (length rest - n) (drop n rest) ≡ drop n rest
take-drop-all n rest = ap (λ k. take k (drop n rest)) (sym (length-drop n rest)) ∙ take-length (drop n rest)

-- One write that took n bytes sent them as a text.
write_sent : {E : Type 0} (old new : SinkState) (n : ℕ) (rest : List ℕ) → Takes {E = E} old new (Ok n) rest → Sent old new (take n rest)
write_sent old new n rest p = record {
  ok = p.takes;
  part = TakesPart-whole old.taken new.taken (take n rest) p.takes;
  telling = p.telling;
  counts = p.counts;
}

-- The sink took n bytes more.
pub IsSent-more : {E : Type 0} (old mid new : SinkState) (text rest left : List ℕ) (n : ℕ)
    → IsSent old mid text rest → Takes {E = E} mid new (Ok n) rest → left ≡ drop n rest → IsSent old new text left
IsSent-more old mid new text rest left n p q e = record {
  prefix = p.prefix ++ take n rest;
  whole =
      p.whole
      ∙ ap (λ l. p.prefix ++ l) (sym (take-append-drop n rest) ∙ ap (λ l. take n rest ++ l) (sym e))
      ∙ sym (append_assoc p.prefix (take n rest) left);
  sent = Sends-then old mid new tt (Ok tt) p.prefix (take n rest) p.sent (write_sent mid new n rest q);
}

-- Nothing is left.
pub IsSent-all : {A E : Type 0} (old new : SinkState) (value : A) (text rest : List ℕ)
    → IsSent old new text rest → rest ≡ [] → Sends {A = A} {E = E} old new (Ok value) text
IsSent-all old new value text rest p none =
    Sends-ok old new tt value text
    (Sends-same old new (Ok tt) p.prefix text (sym (p.whole ∙ ap (λ l. p.prefix ++ l) none ∙ append-nil p.prefix)) p.sent)

-- The sink failed.
pub IsSent-fails : {A E F : Type 0} (Q : F → Type 0) (old mid new : SinkState) (fault : E) (result : Result A F) (text rest : List ℕ)
    → IsErrAnd result Q → IsSent old mid text rest → Takes {E = E} mid new (Err fault) rest → Sends old new result text
IsSent-fails Q old mid new fault (Ok value) text rest err p q = absurd err
IsSent-fails Q old mid new fault (Err other) text rest err p q = record {
  ok = tt;
  part = record {
    prefix = p.prefix;
    rest = rest;
    whole = p.whole;
    taken = Appends-kept old.taken mid.taken new.taken p.prefix p.sent.ok q.takes;
  };
  telling = q.telling ∙ p.sent.telling;
  counts = q.counts ∙ ap (λ (failures : ℕ). failures_once failures) p.sent.counts;
}

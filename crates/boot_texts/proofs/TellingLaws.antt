-- What the events of a log tell, one after another.
use Rattle.std.proofs.Common.{◌≡◌, ℕ, ◌+◌, Bool, true, false, List, [], ◌∷◌, ◌++◌, length, refl, sym, ap, subst, ◌∙◌, append_assoc, append-nil, arith, inl, inr}
use Rattle.std.proofs.lemmas.List.{length-append}
use Rattle.boot_log.specs.declared.log_view.LogEvents.{LogEvents}
use Rattle.boot_log.specs.Names.{HasBorrowed, LogEvent}
use Rattle.boot_texts.specs.Telling.{AreEventLines}

-- The events that were read told this, and go on: whatever the rest tells comes after it.
pub record HasTold (IsLine : ℕ → LogEvent → Bool → List ℕ → Type 0) (bytes old now : List ℕ) (events : LogEvents) : Type 0 where
  pub read : List LogEvent
  pub told : List ℕ
  pub borrowed : HasBorrowed bytes read events
  pub lines : now ≡ old ++ told
  pub goes_on : (rest : List LogEvent) (text : List ℕ) → AreEventLines IsLine (1 + length read) rest text → AreEventLines IsLine 1 (read ++ rest) (told ++ text)

-- What holds of the same events and of the same text.
regrouped : (IsLine : ℕ → LogEvent → Bool → List ℕ → Type 0) {events others : List LogEvent} {text other : List ℕ} → events ≡ others
    → text ≡ other → AreEventLines IsLine 1 events text → AreEventLines IsLine 1 others other
regrouped IsLine {events} {others} {text} {other} same same_text tells =
    subst (λ (t : List ℕ). AreEventLines IsLine 1 others t) same_text (subst (λ (es : List LogEvent). AreEventLines IsLine 1 es text) same tells)

pub none_told : {IsLine : ℕ → LogEvent → Bool → List ℕ → Type 0} {bytes old : List ℕ} {events : LogEvents} → HasBorrowed bytes [] events
    → HasTold IsLine bytes old old events
none_told {old = old} borrowed = record {
  read = [];
  told = [];
  borrowed = borrowed;
  lines = sym (append-nil old);
  goes_on = λ rest text tells. tells;
}

module _ {IsLine : ℕ → LogEvent → Bool → List ℕ → Type 0} {bytes old now : List ℕ} {events : LogEvents} where
  module _ (has : HasTold IsLine bytes old now events) (event : LogEvent) (number : ℕ) (text : List ℕ)
      (count : number ≡ length (has.read ++ event ∷ [])) where
    numbered : number ≡ 1 + length has.read
    numbered = omega (arith, count, length-append has.read (event ∷ []))

    pub more_told : {more : List ℕ} {after : LogEvents} → HasBorrowed bytes (has.read ++ event ∷ []) after → IsLine number event true text
        → more ≡ now ++ text → HasTold IsLine bytes old more after
    more_told {more} {after} borrowed tells line = record {
      read = has.read ++ event ∷ [];
      told = has.told ++ text;
      borrowed = borrowed;
      lines = line ∙ ap (λ (t : List ℕ). t ++ text) has.lines ∙ append_assoc old has.told text;
      goes_on = λ rest out rest_tells.
          let next : 1 + length (has.read ++ event ∷ []) ≡ (1 + length has.read) + 1 = omega (arith, length-append has.read (event ∷ [])) in
          let here : IsLine (1 + length has.read) event true text = subst (λ (n : ℕ). IsLine n event true text) numbered tells in
          let later : AreEventLines IsLine ((1 + length has.read) + 1) rest out = subst (λ (n : ℕ). AreEventLines IsLine n rest out) next rest_tells in
          regrouped IsLine (sym (append_assoc has.read (event ∷ []) rest)) (sym (append_assoc has.told text out))
          (has.goes_on (event ∷ rest) (text ++ out) (inr (text, out, here, later, refl)));
    }

    pub told_to : {more : List ℕ} (all later : List LogEvent) → all ≡ has.read ++ event ∷ later → IsLine number event false text
        → more ≡ now ++ text → (whole : List ℕ) × AreEventLines IsLine 1 all whole × (more ≡ old ++ whole)
    told_to {more} all later parts tells line =
        let here : IsLine (1 + length has.read) event false text = subst (λ (n : ℕ). IsLine n event false text) numbered tells in (
          has.told ++ text,
          subst (λ (es : List LogEvent). AreEventLines IsLine 1 es (has.told ++ text)) (sym parts) (has.goes_on (event ∷ later) text (inl here)),
          line ∙ ap (λ (t : List ℕ). t ++ text) has.lines ∙ append_assoc old has.told text,
        )

  pub told_to_end : (has : HasTold IsLine bytes old now events) (all : List LogEvent) → has.read ≡ all
      → (whole : List ℕ) × AreEventLines IsLine 1 all whole × (now ≡ old ++ whole)
  told_to_end has all same = (
    has.told,
    regrouped IsLine (append-nil has.read ∙ same) (append-nil has.told) (has.goes_on [] [] refl),
    has.lines,
  )

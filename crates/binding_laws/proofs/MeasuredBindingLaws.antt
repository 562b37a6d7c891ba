-- What a register's value tells of measured data.
use Rattle.std.proofs.Common.{◌≡◌, ℕ, zero, suc, Bool, true, false, cond, List, [], ◌∷◌, ◌++◌, length, Some, refl, sym, ap, ◌∙◌, inl, inr}
use Rattle.std.specs.Prelude.{◌⊎◌, slice_get, filter, filter_map}
use Rattle.std.proofs.lemmas.Bool.{eq-eqb, ne_eqb}
use Rattle.std.specs.List.{Contains}
use Rattle.std.proofs.lemmas.List.Sums.{fold-append}
use Rattle.pcr_banks.specs.declared.alg.Alg.{Alg}
use Rattle.pcr_banks.specs.Names.{digest_in, extended_by_all, extended_value, hash_of, reset_value}
use Rattle.boot_log.specs.Names.{LogEvent, digests_for, firmware_value, is_extended_into, no_action, startup_locality}
use Rattle.measured_data.specs.declared.measured.Part.{Part}
use Rattle.measured_data.specs.declared.confirmed.Pcr.{Pcr}
use Rattle.measured_data.specs.Confirming.{IsConfirmed}
use Rattle.measured_data.specs.Measuring.{IsMeasured}
use Rattle.binding_laws.specs.LogBinding.{LogsBreakHash}
use Rattle.binding_laws.specs.MeasuredBinding.{Collide, Extensions, HasHashAfter, Matches, MeasuresAfter, WasHashed, WasHashedIn}
use Rattle.binding_laws.proofs.BankBindingLaws.{reset_size, same_or_broken, same_or_collide}
use Rattle.binding_laws.proofs.LogBindingLaws.{alike_or_broken, digests_joined}

some_is : {A : Type 0} (x y : A) → Some x ≡ Some y → x ≡ y
some_is x y e = cc

-- ---- the place of a measured event's digest

first_digest : (alg : Alg) (b : Bool) (event : LogEvent) (after : List LogEvent) (digest : List ℕ) → b ≡ true
    → digest_in event.digests alg ≡ Some digest
    → filter_map (λ (e : LogEvent). digest_in e.digests alg) (cond b (event ∷ after) after)
    ≡ digest ∷ filter_map (λ (e : LogEvent). digest_in e.digests alg) after
first_digest alg true event after digest e has = rw has refl
first_digest alg false event after digest e has = absurd cc

middle : {A : Type 0} (prefix after : List A) (x : A) → slice_get (prefix ++ x ∷ after) (length prefix) ≡ Some x
middle [] after x = refl
middle (y ∷ prefix) after x = middle prefix after x

place : (alg : Alg) (register : ℕ) (events before : List LogEvent) (bytes : List ℕ) → MeasuresAfter alg register events before bytes
    → slice_get (digests_for alg register events) (length (digests_for alg register before)) ≡ Some (hash_of alg bytes)
place alg register events before bytes at =
    let kept = filter (is_extended_into register) at.after in
    let digest : digest_in at.event.digests alg ≡ Some (hash_of alg bytes) =
    at.measured.digest ∙ ap (λ (b : List ℕ). Some (hash_of alg b)) at.bytes_are in
    let prefix = digests_for alg register before in
    let rest = filter_map (λ (e : LogEvent). digest_in e.digests alg) kept in
    let all : digests_for alg register events ≡ prefix ++ hash_of alg bytes ∷ rest =
    ap (digests_for alg register) at.parts
    ∙ digests_joined alg register before (at.event ∷ at.after)
    ∙ ap (λ (ds : List (List ℕ)). prefix ++ ds)
    (first_digest alg (is_extended_into register at.event) at.event kept (hash_of alg bytes) at.extended digest) in
    rw all (middle prefix rest (hash_of alg bytes))

-- ---- what was hashed

place_of_more : {A : Type 0} (xs ys : List A) (n : ℕ) (x : A) → slice_get xs n ≡ Some x → slice_get (xs ++ ys) n ≡ Some x
place_of_more [] ys n x e = absurd cc
place_of_more (y ∷ xs) ys zero x e = e
place_of_more (y ∷ xs) ys (suc n) x e = place_of_more xs ys n x e

pub was_hashed : (alg : Alg) (register locality : ℕ) (events before : List LogEvent) (bytes : List ℕ) (digests later : List (List ℕ))
    → MeasuresAfter alg register events before bytes
    → extended_by_all alg (reset_value alg register locality) digests ≡ extended_by_all alg (firmware_value events alg register) later
    → HasHashAfter alg register locality events before bytes digests later
was_hashed alg register locality events before bytes digests later at same =
    let start = reset_value alg register (startup_locality events) in
    let own = digests_for alg register events in
    let n = length (digests_for alg register before) in
    let joined : extended_by_all alg (reset_value alg register locality) digests ≡ extended_by_all alg start (own ++ later) =
    same ∙ sym (fold-append (extended_value alg) start own later) in
    elim (same_or_broken alg (reset_value alg register locality) start digests (own ++ later) (reset_size alg register locality)
    (reset_size alg register (startup_locality events)) joined) [
      | inl all ↦ inl (ap (λ (ds : List (List ℕ)). slice_get ds n) all.1
          ∙ place_of_more own later n (hash_of alg bytes) (place alg register events before bytes at))
      | inr breaks ↦ inr breaks
    ]

-- An event that is extended is extended into its register.
extended_here : (event : LogEvent) → (event.kind ≡ no_action → ⊥) → is_extended_into event.register event ≡ true
extended_here event extended = rw (ne_eqb event.kind no_action extended, eq-eqb event.register event.register refl) refl

hashed_in : (alg : Alg) (events before after : List LogEvent) (event : LogEvent) (part : Part) (machine : Extensions)
    → events ≡ before ++ event ∷ after → IsMeasured alg event part
    → Matches events machine (record { alg = alg; register = event.register })
    → WasHashedIn alg events before event part machine
hashed_in alg events before after event part machine parts is same = record {
  bytes = is.bytes;
  are = is.are;
  hashed = was_hashed alg event.register machine.locality events before is.bytes (machine.digests alg event.register)
      (machine.later alg event.register)
      (record {
        event = event;
        after = after;
        parts = parts;
        extended = extended_here event is.extended;
        part = part;
        measured = is;
        bytes_are = refl;
      })
      same;
}

pub confirmed : (matched : List Pcr) (events before after : List LogEvent) (event : LogEvent) (part : Part) (machine : Extensions)
    → events ≡ before ++ event ∷ after → IsConfirmed matched event part
    → ((place : Pcr) → Contains matched place → Matches events machine place)
    → WasHashed matched events before event part machine
confirmed matched events before after event part machine parts is same = record {
  alg = is.alg;
  strong = is.strong;
  matches = is.matches;
  every = λ bank strong matches. hashed_in bank events before after event part machine parts (is.every bank strong matches)
      (same (record { alg = bank; register = event.register }) matches);
}

pub is_the_same : (alg : Alg) (register : ℕ) (events others before prefix : List LogEvent) (bytes other : List ℕ)
    → firmware_value events alg register ≡ firmware_value others alg register
    → length (digests_for alg register before) ≡ length (digests_for alg register prefix)
    → MeasuresAfter alg register events before bytes → MeasuresAfter alg register others prefix other
    → (bytes ≡ other) ⊎ (Collide alg bytes other ⊎ LogsBreakHash alg register events others)
is_the_same alg register events others before prefix bytes other same n at there =
    elim (alike_or_broken alg register events others same) [
      | inl alike ↦
          let one : Some (hash_of alg bytes) ≡ Some (hash_of alg other) =
          sym (place alg register events before bytes at)
          ∙ ap (λ (ds : List (List ℕ)). slice_get ds (length (digests_for alg register before))) alike.digests
          ∙ ap (slice_get (digests_for alg register others)) n
          ∙ place alg register others prefix other there in
          elim (same_or_collide alg (λ b. b ≡ bytes) (λ b. b ≡ other) bytes other refl refl (some_is (hash_of alg bytes) (hash_of alg other) one)) [
            | inl equal ↦ inl equal
            | inr collide ↦ inr (inl collide)
          ]
      | inr breaks ↦ inr (inr breaks)
    ]

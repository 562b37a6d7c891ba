-- The first data that the machine hashed for a register is what the log shows as measured.
use Rattle.std.proofs.Common.{rules, ◌≡◌, ℕ, ◌-◌, List, [], ◌∷◌, ◌++◌, map, Some, refl, sym, ap, ◌∙◌, inl, inr}
use Rattle.std.specs.Prelude.{◌⊎◌, filter_map}
use Rattle.std.specs.List.{AllByRecursion}
use Rattle.std.proofs.lemmas.List.Elements.{filter_map-append}
use Rattle.pcr_banks.specs.declared.alg.Alg.{Alg}
use Rattle.pcr_banks.specs.Names.{digest_in, hash_of, reset_value}
use Rattle.binding_laws.specs.BankBinding.{Collision}
use Rattle.binding_laws.proofs.BankBindingLaws.{collision_of, reset_size, same_or_broken, same_or_collide}
use Rattle.boot_log.specs.Names.{LogEvent, digests_for, startup_locality}
use Rattle.boot_answers.specs.Extending.{extended_events}
use Rattle.answer_laws.specs.Hashed.{HasHashed, HashIsBroken, IsAmong, IsDataAmong, IsWhole, StartAlike, data_of}

-- ---- bytes of one hash

pub among_more : (x : List ℕ) (all : List (List ℕ)) (b : List ℕ) → IsAmong all b → IsAmong (x ∷ all) b
among_more x all b among = (x ∷ among.0, among.1, ap (λ (l : List (List ℕ)). x ∷ l) among.2)

pub data_more : (x : LogEvent) (all : List LogEvent) (b : List ℕ) → IsDataAmong all b → IsDataAmong (x ∷ all) b
data_more x all b among = (x ∷ among.0, among.1, among.2, ap (λ (l : List LogEvent). x ∷ l) among.3, among.4)

-- ---- the digests of measured events

pub digests_of : Alg → List LogEvent → List (List ℕ)
digests_of alg events = filter_map (λ event. digest_in event.digests alg) events

pub known_digest : (alg : Alg) (event : LogEvent) (events : List LogEvent) (bytes : List ℕ) → digest_in event.digests alg ≡ Some (hash_of alg bytes)
    → digests_of alg (event ∷ events) ≡ hash_of alg bytes ∷ digests_of alg events
unfolding digests_of
known_digest alg event events bytes has = rw has refl

pub first_digest : (alg : Alg) (event : LogEvent) (events : List LogEvent) → IsWhole alg event
    → digests_of alg (event ∷ events) ≡ hash_of alg event.payload ∷ digests_of alg events
first_digest alg event events whole =
    known_digest alg event events event.payload (whole.digest ∙ ap (λ (b : List ℕ). Some (hash_of alg b)) whole.are)

pub joined_digests : (alg : Alg) (before after : List LogEvent) → digests_of alg (before ++ after) ≡ digests_of alg before ++ digests_of alg after
unfolding digests_of
joined_digests alg before after = filter_map-append (λ event. digest_in event.digests alg) before after

-- ---- the machine's data and the log's

joined : (first : List ℕ) (event : LogEvent) (hashed : List (List ℕ)) (shown : List LogEvent) → first ≡ event.payload
    → StartAlike hashed (data_of shown) → StartAlike (first ∷ hashed) (data_of (event ∷ shown))
joined first event hashed shown same (inl found) =
    inl (found.0, ap (λ (x : List ℕ). x ∷ hashed) same ∙ ap (λ (l : List (List ℕ)). event.payload ∷ l) found.1)
joined first event hashed shown same (inr found) =
    inr (found.0, ap (λ (x : List ℕ). x ∷ data_of shown) (sym same) ∙ ap (λ (l : List (List ℕ)). first ∷ l) found.1)

walk : (alg : Alg) (hashed later : List (List ℕ)) (shown rest : List LogEvent)
    → map (hash_of alg) hashed ++ later ≡ digests_of alg (shown ++ rest) → AllByRecursion (IsWhole alg) shown
    → StartAlike hashed (data_of shown) ⊎ Collision alg (IsAmong hashed) (IsDataAmong (shown ++ rest))
walk alg hashed later [] rest same all = inl (inl (hashed, refl))
walk alg [] later (event ∷ shown) rest same all = inl (inr (data_of (event ∷ shown), refl))
walk alg (first ∷ hashed) later (event ∷ shown) rest same all =
    let lists : hash_of alg first ∷ (map (hash_of alg) hashed ++ later) ≡ hash_of alg event.payload ∷ digests_of alg (shown ++ rest) =
    same ∙ first_digest alg event (shown ++ rest) all.0 in
    let heads : hash_of alg first ≡ hash_of alg event.payload = cc in
    let tails : map (hash_of alg) hashed ++ later ≡ digests_of alg (shown ++ rest) = cc in
    elim (same_or_collide alg (IsAmong (first ∷ hashed)) (IsDataAmong (event ∷ (shown ++ rest))) first event.payload ([], hashed, refl)
    ([], event, shown ++ rest, refl, refl) heads) [
      | inl equal ↦ elim (walk alg hashed later shown rest tails all.1) [
        | inl alike ↦ inl (joined first event hashed shown equal alike)
        | inr collide ↦ inr (collision_of alg (IsAmong hashed) (IsDataAmong (shown ++ rest)) (IsAmong (first ∷ hashed))
            (IsDataAmong (event ∷ (shown ++ rest))) (among_more first hashed) (data_more event (shown ++ rest)) collide)
      ]
      | inr collide ↦ inr collide
    ]

-- The log's digests are those of its events of the register.
pub digests_are : (alg : Alg) (register : ℕ) (events : List LogEvent) → digests_for alg register events ≡ digests_of alg (extended_events register events)
unfolding digests_of
digests_are alg register events = refl

pub hashed_first : (alg : Alg) (register locality : ℕ) (events shown rest : List LogEvent) (hashed later : List (List ℕ))
    → extended_events register events ≡ shown ++ rest → AllByRecursion (IsWhole alg) shown
    → HasHashed alg register locality hashed later events
    → StartAlike hashed (data_of shown) ⊎ HashIsBroken alg register locality hashed later events
hashed_first alg register locality events shown rest hashed later parts all same =
    elim (same_or_broken alg (reset_value alg register locality) (reset_value alg register (startup_locality events))
    (map (hash_of alg) hashed ++ later) (digests_for alg register events) (reset_size alg register locality)
    (reset_size alg register (startup_locality events)) same) [
      | inl both ↦
          elim (walk alg hashed later shown rest (both.1 ∙ digests_are alg register events ∙ ap (digests_of alg) parts) all) [
            | inl alike ↦ inl alike
            | inr collide ↦ inr (inl (rw parts collide))
          ]
      | inr broken ↦ inr (inr broken)
    ]

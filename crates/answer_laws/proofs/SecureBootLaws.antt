-- What tells of Secure Boot tells of the machine.
use Rattle.std.proofs.Common.{◌≡◌, ℕ, List, [], ◌∷◌, ◌++◌, map, refl, sym, ap, subst, ◌∙◌, inl, inr, append_assoc, append-nil}
use Rattle.std.specs.Prelude.{◌⊎◌}
use Rattle.std.specs.List.{AllByRecursion}
use Rattle.pcr_banks.specs.declared.alg.Alg.{Alg}
use Rattle.pcr_banks.specs.Names.{hash_of}
use Rattle.binding_laws.specs.BankBinding.{Collision}
use Rattle.binding_laws.proofs.LogBindingLaws.{alike_or_broken}
use Rattle.boot_log.specs.Names.{LogEvent, firmware_value}
use Rattle.event_data.specs.Names.{Content, Says}
use Rattle.boot_answers.specs.FirmwareVersion.{TellsVersion, firmware_register, version_type}
use Rattle.boot_answers.specs.SecureBoot.{IsBefore, IsTelling, TellsSecureBoot, policy_register}
use Rattle.boot_answers.proofs.EventLaws.{added_last}
use Rattle.boot_answers.proofs.SecureBootLaws.{one_value}
use Rattle.answer_laws.specs.Hashed.{HasHashed, HashIsBroken, IsDataAmong, IsWhole, StartAlike, data_of}
use Rattle.answer_laws.specs.HashedAnswers.{HashedDecision, HashedFirst, IsOther, LogsBreak}
use Rattle.binding_laws.proofs.BankBindingLaws.{collision_of, same_or_collide}
use Rattle.answer_laws.proofs.HashedLaws.{data_more, digests_are, digests_of, first_digest, hashed_first}

-- ---- what was hashed

pub wholes : (alg : Alg) (events : List LogEvent) → AllByRecursion (IsBefore alg) events → AllByRecursion (IsWhole alg) events
wholes alg [] all = tt
wholes alg (event ∷ events) all = (all.0.measured, wholes alg events all.1)

others_of : (alg : Alg) (events : List LogEvent) → AllByRecursion (IsBefore alg) events
    → AllByRecursion IsOther (map (λ event. event.payload) events)
others_of alg [] all = tt
others_of alg (event ∷ events) all =
    (record { no_separator = all.0.no_separator; no_variable = all.0.other }, others_of alg events all.1)

no_prefix : (prefix back : List (List ℕ)) → [] ≡ prefix ++ back → prefix ≡ []
no_prefix [] back e = refl
no_prefix (x ∷ prefix) back e = absurd cc

not_nothing : (prefix back : List (List ℕ)) (x : List ℕ) → prefix ++ x ∷ back ≡ [] → ⊥
not_nothing [] back x e = absurd cc
not_nothing (y ∷ prefix) back x e = absurd cc

data_last : (events : List LogEvent) (event : LogEvent) (more : List (List ℕ))
    → data_of (events ++ event ∷ []) ++ more ≡ data_of events ++ event.payload ∷ more
data_last [] event more = refl
data_last (first ∷ events) event more = ap (λ (l : List (List ℕ)). first.payload ∷ l) (data_last events event more)

first_of : (alg : Alg) (events : List LogEvent) (value : ℕ) (hashed more : List (List ℕ)) (tells : TellsSecureBoot alg events value)
    → hashed ≡ data_of tells.before ++ tells.event.payload ∷ more → HashedFirst hashed value
first_of alg events value hashed more tells found = record {
  before = data_of tells.before;
  bytes = tells.event.payload;
  after = more;
  parts = found;
  others = others_of alg tells.before tells.passed;
  variable = tells.telling.variable;
}

-- Where all others are followed by one element, a list that is their start and has what is no other ends with this element.
ends_there : (others : List (List ℕ)) (last : List ℕ) (prefix back more : List (List ℕ)) (bytes : List ℕ) → AllByRecursion IsOther others
    → (IsOther bytes → ⊥) → others ++ last ∷ [] ≡ (prefix ++ bytes ∷ back) ++ more → prefix ++ bytes ∷ back ≡ others ++ last ∷ []
ends_there [] last [] back more bytes all decides e =
    let tails : [] ≡ back ++ more = cc in
    let heads : bytes ≡ last = cc in
    ap (λ (l : List (List ℕ)). bytes ∷ l) (no_prefix back more tails) ∙ ap (λ (x : List ℕ). x ∷ []) heads
ends_there [] last (first ∷ prefix) back more bytes all decides e =
    let tails : [] ≡ (prefix ++ bytes ∷ back) ++ more = cc in
    let none : prefix ++ bytes ∷ back ≡ [] = no_prefix (prefix ++ bytes ∷ back) more tails in
    absurd (not_nothing prefix back bytes none)
ends_there (other ∷ others) last [] back more bytes all decides e =
    let heads : other ≡ bytes = cc in
    absurd (decides (subst IsOther heads all.0))
ends_there (other ∷ others) last (first ∷ prefix) back more bytes all decides e =
    let heads : first ≡ other = cc in
    let tails : others ++ last ∷ [] ≡ (prefix ++ bytes ∷ back) ++ more = cc in
    ap (λ (x : List ℕ). x ∷ (prefix ++ bytes ∷ back)) heads
    ∙ ap (λ (l : List (List ℕ)). other ∷ l) (ends_there others last prefix back more bytes all.1 decides tails)

pub first_alike : (alg : Alg) (events : List LogEvent) (value : ℕ) (hashed : List (List ℕ)) (tells : TellsSecureBoot alg events value)
    → HashedDecision hashed → StartAlike hashed (data_of (tells.before ++ tells.event ∷ [])) → HashedFirst hashed value
first_alike alg events value hashed tells decision (inl found) =
    first_of alg events value hashed found.0 tells (found.1 ∙ data_last tells.before tells.event found.0)
first_alike alg events value hashed tells decision (inr found) =
    let shown : data_of tells.before ++ tells.event.payload ∷ [] ≡ (decision.before ++ decision.bytes ∷ decision.after) ++ found.0 =
    sym (data_last tells.before tells.event []) ∙ append-nil (data_of (tells.before ++ tells.event ∷ [])) ∙ found.1
    ∙ ap (λ (l : List (List ℕ)). l ++ found.0) decision.parts in
    first_of alg events value hashed [] tells (decision.parts
    ∙ ends_there (data_of tells.before) tells.event.payload decision.before decision.after found.0 decision.bytes
    (others_of alg tells.before tells.passed) decision.decides shown)

-- ---- two logs

pub two_logs : (alg : Alg) (before after prefix back : List LogEvent) (event another : LogEvent) (value other : ℕ)
    → digests_of alg (before ++ event ∷ after) ≡ digests_of alg (prefix ++ another ∷ back)
    → AllByRecursion (IsBefore alg) before → IsTelling alg event value
    → AllByRecursion (IsBefore alg) prefix → IsTelling alg another other
    → (value ≡ other) ⊎ Collision alg (IsDataAmong (before ++ event ∷ after)) (IsDataAmong (prefix ++ another ∷ back))
two_logs alg [] after [] back event another value other same all telling all_too telling_too =
    let lists = sym (first_digest alg event after telling.measured) ∙ same ∙ first_digest alg another back telling_too.measured in
    let heads : hash_of alg event.payload ≡ hash_of alg another.payload = cc in
    elim (same_or_collide alg (IsDataAmong (event ∷ after)) (IsDataAmong (another ∷ back)) event.payload another.payload
    ([], event, after, refl, refl) ([], another, back, refl, refl) heads) [
      | inl equal ↦ inl (one_value event.payload value other telling.variable (rw equal telling_too.variable))
      | inr collide ↦ inr collide
    ]
two_logs alg [] after (first ∷ prefix) back event another value other same all telling all_too telling_too =
    let lists = sym (first_digest alg event after telling.measured) ∙ same ∙ first_digest alg first (prefix ++ another ∷ back) all_too.0.measured in
    let heads : hash_of alg event.payload ≡ hash_of alg first.payload = cc in
    elim (same_or_collide alg (IsDataAmong (event ∷ after)) (IsDataAmong (first ∷ (prefix ++ another ∷ back))) event.payload first.payload
    ([], event, after, refl, refl) ([], first, prefix ++ another ∷ back, refl, refl) heads) [
      | inl equal ↦ absurd (all_too.0.other (value ∷ []) (rw (sym equal) telling.variable))
      | inr collide ↦ inr collide
    ]
two_logs alg (first ∷ before) after [] back event another value other same all telling all_too telling_too =
    let lists = sym (first_digest alg first (before ++ event ∷ after) all.0.measured) ∙ same ∙ first_digest alg another back telling_too.measured in
    let heads : hash_of alg first.payload ≡ hash_of alg another.payload = cc in
    elim (same_or_collide alg (IsDataAmong (first ∷ (before ++ event ∷ after))) (IsDataAmong (another ∷ back)) first.payload another.payload
    ([], first, before ++ event ∷ after, refl, refl) ([], another, back, refl, refl) heads) [
      | inl equal ↦ absurd (all.0.other (other ∷ []) (rw equal telling_too.variable))
      | inr collide ↦ inr collide
    ]
two_logs alg (first ∷ before) after (second ∷ prefix) back event another value other same all telling all_too telling_too =
    let lists = sym (first_digest alg first (before ++ event ∷ after) all.0.measured) ∙ same
    ∙ first_digest alg second (prefix ++ another ∷ back) all_too.0.measured in
    let tails : digests_of alg (before ++ event ∷ after) ≡ digests_of alg (prefix ++ another ∷ back) = cc in
    elim (two_logs alg before after prefix back event another value other tails all.1 telling all_too.1 telling_too) [
      | inl equal ↦ inl equal
      | inr collide ↦ inr (collision_of alg (IsDataAmong (before ++ event ∷ after)) (IsDataAmong (prefix ++ another ∷ back))
          (IsDataAmong (first ∷ (before ++ event ∷ after))) (IsDataAmong (second ∷ (prefix ++ another ∷ back)))
          (data_more first (before ++ event ∷ after)) (data_more second (prefix ++ another ∷ back)) collide)
    ]

-- ---- by values of the register

pub was_hashed : (alg : Alg) (locality value : ℕ) (events : List LogEvent) (hashed later : List (List ℕ)) → HashedDecision hashed
    → TellsSecureBoot alg events value → HasHashed alg policy_register locality hashed later events
    → HashedFirst hashed value ⊎ HashIsBroken alg policy_register locality hashed later events
was_hashed alg locality value events hashed later decision tells same =
    elim (hashed_first alg policy_register locality events (tells.before ++ tells.event ∷ []) tells.after hashed later
    (tells.parts ∙ sym (append_assoc tells.before (tells.event ∷ []) tells.after))
    (added_last (IsWhole alg) tells.before tells.event (wholes alg tells.before tells.passed) tells.telling.measured) same) [
      | inl alike ↦ inl (first_alike alg events value hashed tells decision alike)
      | inr broken ↦ inr broken
    ]

first_says : (first : List ℕ) (hashed : List (List ℕ)) (event : LogEvent) → StartAlike (first ∷ hashed) (data_of (event ∷ []))
    → event.payload ≡ first
first_says first hashed event (inl found) = cc
first_says first hashed event (inr found) = cc

pub version_hashed : (alg : Alg) (locality : ℕ) (events : List LogEvent) (content : Content) (first : List ℕ) (hashed later : List (List ℕ))
    → TellsVersion alg events content → HasHashed alg firmware_register locality (first ∷ hashed) later events
    → Says version_type first content ⊎ HashIsBroken alg firmware_register locality (first ∷ hashed) later events
version_hashed alg locality events content first hashed later tells same =
    elim (hashed_first alg firmware_register locality events (tells.event ∷ []) tells.after (first ∷ hashed) later tells.parts
    (tells.version.measured, tt) same) [
      | inl alike ↦ inl (subst (λ (b : List ℕ). Says version_type b content) (first_says first hashed tells.event alike) tells.version.says)
      | inr broken ↦ inr broken
    ]

pub logs_tell_one : (alg : Alg) (events others : List LogEvent) (value other : ℕ)
    → firmware_value events alg policy_register ≡ firmware_value others alg policy_register
    → TellsSecureBoot alg events value → TellsSecureBoot alg others other → (value ≡ other) ⊎ LogsBreak alg policy_register events others
logs_tell_one alg events others value other same tells tells_too =
    elim (alike_or_broken alg policy_register events others same) [
      | inl alike ↦
          elim (two_logs alg tells.before tells.after tells_too.before tells_too.after tells.event tells_too.event value other
          (sym (digests_are alg policy_register events ∙ ap (digests_of alg) tells.parts) ∙ alike.digests
          ∙ digests_are alg policy_register others ∙ ap (digests_of alg) tells_too.parts)
          tells.passed tells.telling tells_too.passed tells_too.telling) [
            | inl equal ↦ inl equal
            | inr collide ↦ inr (inl (rw (tells.parts, tells_too.parts) collide))
          ]
      | inr broken ↦ inr (inr broken)
    ]

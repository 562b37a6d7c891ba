-- The first event and the first entry that stand against isolation, one event and one entry after another.
use Rattle.std.proofs.Common.{◌≡◌, ℕ, Bool, true, false, cond, eqb, List, [], ◌∷◌, ◌++◌, length, Option, Some, None, sym, ap, ◌∙◌, refl, ◌+◌, arith}
use Rattle.std.specs.Option.{option_or}
use Rattle.std.proofs.lemmas.Bool.{eq-eqb, eqb-true, ne_eqb}
use Rattle.boot_log.specs.Names.{LogEvent, is_extended_into}
use Rattle.ima_list.specs.Names.{ListEntry}
use Rattle.boot_verdict.specs.declared.isolation.Stray.{Stray}
use Rattle.boot_verdict.specs.Names.{IsListApart, IsLogApart, extending_from, first_stray, list_register, stray_from}

-- ---- events

none_after : (b : Bool) (n : ℕ) (rest : Option ℕ) → cond b (Some n) rest ≡ None → (b ≡ false) × (rest ≡ None)
none_after true n rest e = absurd cc
none_after false n rest e = (refl, e)

-- Where none of these events extends the list's register, and the next one does, it is the first.
pub extending_here : (n : ℕ) (events later : List LogEvent) (event : LogEvent) → extending_from n events ≡ None
    → is_extended_into list_register event ≡ true → extending_from n (events ++ event ∷ later) ≡ Some (n + length events)
extending_here n [] later event none is =
    let same : n ≡ n + 0 = omega arith in
    rw is (ap (λ (k : ℕ). Some k) same)
extending_here n (first ∷ events) later event none is =
    let both = none_after (is_extended_into list_register first) n (extending_from (n + 1) events) none in
    let same : n + 1 + length events ≡ n + length (first ∷ events) = omega arith in
    rw both.0 (extending_here (n + 1) events later event both.1 is ∙ ap (λ (k : ℕ). Some k) same)

pub extending_never : (n : ℕ) (events : List LogEvent) (event : LogEvent) → extending_from n events ≡ None
    → is_extended_into list_register event ≡ false → extending_from n (events ++ event ∷ []) ≡ None
extending_never n [] event none is = rw is refl
extending_never n (first ∷ events) event none is =
    let both = none_after (is_extended_into list_register first) n (extending_from (n + 1) events) none in
    rw both.0 (extending_never (n + 1) events event both.1 is)

pub log_is_apart : (n : ℕ) (events : List LogEvent) → extending_from n events ≡ None → IsLogApart events
log_is_apart n [] none = tt
log_is_apart n (event ∷ events) none =
    let both = none_after (is_extended_into list_register event) n (extending_from (n + 1) events) none in
    (both.0, log_is_apart (n + 1) events both.1)

-- ---- entries

-- The entry with this number.
abbrev at : ℕ → ListEntry → Stray
at n entry = record { entry = n; register = entry.register }

none_unless : (b : Bool) (stray : Stray) (rest : Option Stray) → cond b rest (Some stray) ≡ None → (b ≡ true) × (rest ≡ None)
none_unless true stray rest e = (refl, e)
none_unless false stray rest e = absurd cc

pub list_is_apart : (n : ℕ) (entries : List ListEntry) → stray_from n entries ≡ None → IsListApart entries
list_is_apart n [] none = tt
list_is_apart n (entry ∷ entries) none =
    let both = none_unless (eqb entry.register 10) (at n entry) (stray_from (n + 1) entries) none in
    (eqb-true entry.register 10 both.0, list_is_apart (n + 1) entries both.1)

-- What one entry tells, with this number.
abbrev stray_at : ℕ → ListEntry → Option Stray
stray_at n entry = cond (eqb entry.register 10) None (Some (at n entry))

one_step : (b : Bool) (stray : Stray) (all rest last : Option Stray) → all ≡ option_or rest last
    → cond b all (Some stray) ≡ option_or (cond b rest (Some stray)) last
one_step true stray all rest last e = e
one_step false stray all rest last e = refl

with_last : (n : ℕ) (entries : List ListEntry) (entry : ListEntry)
    → stray_from n (entries ++ entry ∷ []) ≡ option_or (stray_from n entries) (stray_at (n + length entries) entry)
with_last n [] entry =
    let same : n ≡ n + 0 = omega arith in
    ap (λ (k : ℕ). stray_at k entry) same
with_last n (first ∷ entries) entry =
    let same : n + 1 + length entries ≡ n + length (first ∷ entries) = omega arith in
    one_step (eqb first.register 10) (at n first) (stray_from (n + 1) (entries ++ entry ∷ [])) (stray_from (n + 1) entries)
    (stray_at (n + length (first ∷ entries)) entry)
    (with_last (n + 1) entries entry ∙ ap (λ (k : ℕ). option_or (stray_from (n + 1) entries) (stray_at k entry)) same)

-- The first stray entry with one entry more, which has this number.
one_more : (entries : List ListEntry) (entry : ListEntry) (stray : Option Stray) (n : ℕ) → stray ≡ first_stray entries → n ≡ length entries
    → option_or stray (stray_at n entry) ≡ first_stray (entries ++ entry ∷ [])
one_more entries entry stray n is count =
    let counted : n ≡ 0 + length entries = omega (arith, count) in
    ap (λ (s : Option Stray). option_or s (stray_at n entry)) is
    ∙ ap (λ (k : ℕ). option_or (first_stray entries) (stray_at k entry)) counted
    ∙ sym (with_last 0 entries entry)

pub stray_stays : (entries : List ListEntry) (entry : ListEntry) (stray : Stray) (n : ℕ) → Some stray ≡ first_stray entries → n ≡ length entries
    → Some stray ≡ first_stray (entries ++ entry ∷ [])
stray_stays entries entry stray n is count = one_more entries entry (Some stray) n is count

pub stray_is_here : (entries : List ListEntry) (entry : ListEntry) (n : ℕ) → eqb entry.register 10 ≡ false → None ≡ first_stray entries
    → n ≡ length entries → Some (at n entry) ≡ first_stray (entries ++ entry ∷ [])
stray_is_here entries entry n e is count =
    let here : Some (at n entry) ≡ stray_at n entry = rw e refl in
    here ∙ one_more entries entry None n is count

pub stray_not_here : (entries : List ListEntry) (entry : ListEntry) (n : ℕ) → eqb entry.register 10 ≡ true → None ≡ first_stray entries
    → n ≡ length entries → None ≡ first_stray (entries ++ entry ∷ [])
stray_not_here entries entry n e is count =
    let here : None ≡ stray_at n entry = rw e refl in
    here ∙ one_more entries entry None n is count

-- Whether an entry's register is another, as it was read.
pub not_ten : (entry : ListEntry) (register : ℕ) → register ≡ entry.register → (register ≡ 10 → ⊥) → eqb entry.register 10 ≡ false
not_ten entry register is other = ne_eqb entry.register 10 (λ same. other (is ∙ same))

pub ten : (entry : ListEntry) (register : ℕ) → register ≡ entry.register → register ≡ 10 → eqb entry.register 10 ≡ true
ten entry register is same = eq-eqb entry.register 10 (sym is ∙ same)

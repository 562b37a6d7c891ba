-- Requirements: which registers are missing, and the rows of those that are not.
use Rattle.std.proofs.Common.{◌≡◌, ℕ, suc, ◌<◌, Bool, true, false, List, [], ◌∷◌, length, get_or, Option, Some, None, refl, ap, inl, inr, arith, ◌==◌, ◌&&◌, ◌||◌}
use Rattle.std.specs.Prelude.{is_some, map, nat_le, not}
use Rattle.std.specs.List.{list_all, list_any}
use Rattle.std.proofs.lemmas.Bool.{and_parts, both_ways, cases_Bool, eqb-true, leb-true, or_cases}
use Rattle.std.proofs.lemmas.List.Folds.{list_all_at}
use Rattle.pcr_banks.specs.declared.alg.Alg.{Alg}
use Rattle.pcr_banks.specs.declared.alg.Alg.TheVariants.{Sha1, Sha256, Sha384, Sha512}
use Rattle.pcr_banks.specs.declared.sets.AlgSet.{AlgSet}
use Rattle.pcr_banks.specs.Names.{all_algs, register_count, same_alg}
use Rattle.pcr_banks.proofs.AlgLaws.{every_passes, same_alg_is}
use Rattle.pcr_values.specs.declared.expected.Expected.{Expected}
use Rattle.pcr_values.specs.declared.selection.BankRange.{BankRange}
use Rattle.pcr_values.specs.Names.{AreBankRanges, IsBankRangeText, SpellsRanges, all_registers, are_of_banks, is_bank, is_in, is_within, names, split_at_separators}
use Rattle.pcr_values.proofs.RangeLaws.{range_exists}
use Rattle.pcr_values.proofs.SelectionLaws.{ranges_once}
use Rattle.pcr_values.proofs.RegisterLaws as registers
use Rattle.boot_log.specs.Names.{LogEvent}
use Rattle.ima_list.specs.Names.{ListEntry}
use Rattle.boot_verdict.specs.declared.aggregate_rule.AggregateRule.{AggregateRule}
use Rattle.boot_verdict.specs.declared.report.Row.{Row}
use Rattle.boot_verdict.specs.declared.report.State.{State}
use Rattle.boot_verdict.specs.declared.report.State.TheVariants.{Match, Differ, Absent}
use Rattle.boot_verdict.specs.declared.isolation.Strays.{Strays}
use Rattle.boot_verdict.specs.Names.{HasMatch, IsListApart, IsLogApart, IsRequirementText, are_none, bind_list, expected_of_rows, is_complete, is_complete_in, is_good, is_match, is_missing, is_of, list_matches, list_register, list_verdict_on, matches, required_list_matches, required_matches, state_matches, states, verdict_under}
use Rattle.boot_verdict.proofs.IsolationLaws.{list_is_apart, log_is_apart}

-- ---- what is no requirement

-- Registers of no named bank, or without the list's, are those of no requirement.
pub not_required : (text : List ℕ) (ranges other : List BankRange) → SpellsRanges text ranges → are_of_banks ranges ≡ false
    → IsRequirementText text other → ⊥
not_required text ranges other spells lacks is =
    both_ways (are_of_banks ranges) lacks (rw (ranges_once text ranges other spells is.0) is.1)

pub unbound : (text : List ℕ) (ranges other : List BankRange) → SpellsRanges text ranges → bind_list ranges ≡ false
    → IsRequirementText text other → ⊥
unbound text ranges other spells lacks is = both_ways (bind_list ranges) lacks (rw (ranges_once text ranges other spells is.0) is.2)

-- ---- rows of what is required

pub any_of_map : {X Y : Type 0} (test : Y → Bool) (f : X → Y) (xs : List X) → list_any test (map f xs) ≡ list_any (λ x. test (f x)) xs
any_of_map test f [] = refl
any_of_map test f (x ∷ xs) = ap (λ (b : Bool). test (f x) || b) (any_of_map test f xs)

-- The last register that a part selects exists.
last_exists : (before : Option Alg) (part : List ℕ) (bank : BankRange) → IsBankRangeText before part bank → bank.range.last < register_count
last_exists before part bank is =
    elim is [
      | inl named ↦ range_exists named.registers bank.range named.range_is
      | inr bare ↦ range_exists part bank.range bare.1
    ]

-- A register that a text names exists.
named_exists : (before : Option Alg) (parts : List (List ℕ)) (ranges : List BankRange) (alg : Alg) (register : ℕ)
    → AreBankRanges before parts ranges → names ranges alg register ≡ true → register < register_count
named_exists before parts [] alg register are named = absurd cc
named_exists before [] (bank ∷ ranges) alg register are named = absurd cc
named_exists before (part ∷ parts) (bank ∷ ranges) alg register are named =
    elim (or_cases (is_in bank alg register) (names ranges alg register) named) [
      | inl here ↦
          let within = (and_parts (is_bank bank.alg alg) (is_within bank.range register) here).1 in
          let last = leb-true register bank.range.last (and_parts (nat_le bank.range.first register) (nat_le register bank.range.last) within).1 in
          let exists = last_exists before part bank are.0 in
          omega (arith, last, exists)
      | inr there ↦ named_exists bank.alg parts ranges alg register are.1 there
    ]

-- What holds of all registers holds of each.
passes_at : (test : ℕ → Bool) (register : ℕ) → list_all test all_registers ≡ true → register < register_count → test register ≡ true
passes_at test register all lt =
    elim (cases_Bool (test register)) [
      | inl passes ↦ passes
      | inr fails ↦
          let within : register < length all_registers = omega (arith, registers.register_count) in
          let here : test (get_or all_registers register 0) ≡ false = rw (registers.register_at register lt) fails in
          absurd (both_ways (list_all test all_registers) (list_all_at test all_registers register 0 within here) all)
    ]

-- A register that is named and not missing is among the expected ones.
stated : (named states : Bool) → named ≡ true → not (named && not states) ≡ true → states ≡ true
stated true true e f = refl
stated true false e f = absurd cc
stated false states e f = absurd cc

match_is : (state : State) → state_matches state ≡ true → state ≡ Match
match_is Match e = refl
match_is (Differ value) e = absurd cc
match_is Absent e = absurd cc

matched_among : (rows : List Row) (alg : Alg) (register : ℕ) → list_all is_match rows ≡ true
    → states (expected_of_rows rows) alg register ≡ true → HasMatch rows alg register
matched_among [] alg register all some = absurd cc
matched_among (row ∷ rows) alg register all some =
    let each = and_parts (is_match row) (list_all is_match rows) all in
    elim (or_cases (is_of row.expected alg register) (states (expected_of_rows rows) alg register) some) [
      | inl here ↦
          let both = and_parts (same_alg row.expected.alg alg) (row.expected.register == register) here in
          record {
            row = row;
            contains = (0, omega arith, refl);
            alg_is = same_alg_is row.expected.alg alg both.0;
            register_is = eqb-true row.expected.register register both.1;
            state_is = match_is row.state each.0;
          }
      | inr there ↦
          let other = matched_among rows alg register each.1 there in
          record {
            row = other.row;
            contains = (suc other.contains.0, omega (arith, other.contains.1), other.contains.2);
            alg_is = other.alg_is;
            register_is = other.register_is;
            state_is = other.state_is;
          }
    ]

-- Rows that all match, and lack no register that a requirement names, have a match for each of these.
rows_matched : (rows : List Row) (text : List ℕ) (ranges : List BankRange) (alg : Alg) (register : ℕ) → SpellsRanges text ranges
    → list_all is_match rows ≡ true → is_complete ranges (expected_of_rows rows) ≡ true → names ranges alg register ≡ true
    → HasMatch rows alg register
rows_matched rows text ranges alg register is each complete named =
    let bank = every_passes (is_complete_in ranges (expected_of_rows rows)) complete alg in
    let lt = named_exists None (split_at_separators text) ranges alg register is named in
    let kept = passes_at (λ r. not (is_missing ranges (expected_of_rows rows) alg r)) register bank lt in
    matched_among rows alg register each (stated (names ranges alg register) (states (expected_of_rows rows) alg register) named kept)

-- Each register that a requirement names has a row that is a match, where the verdict meets it.
pub required_matched : (rule : AggregateRule) (algs : AlgSet) (events : List LogEvent) (entries : List ListEntry) (expected : List Expected) (text : List ℕ)
    (ranges : List BankRange) (alg : Alg) (register : ℕ) → SpellsRanges text ranges
    → required_matches ranges (verdict_under rule algs events entries expected) ≡ true → names ranges alg register ≡ true
    → HasMatch (verdict_under rule algs events entries expected).rows alg register
required_matched rule algs events entries expected text ranges alg register is meets named =
    let verdict = verdict_under rule algs events entries expected in
    let both = and_parts _ (is_complete ranges (expected_of_rows verdict.rows)) meets in
    let alike = (and_parts (matches verdict) (are_none verdict.strays) both.0).0 in
    let each = (and_parts (is_good verdict.aggregate) (list_all is_match verdict.rows) alike).1 in
    rows_matched verdict.rows text ranges alg register is each both.1 named

-- Each register that a requirement names has a row that is a match, where the verdict on a list alone meets it.
pub required_list_matched : (entries : List ListEntry) (expected : List Expected) (text : List ℕ) (ranges : List BankRange) (alg : Alg)
    (register : ℕ) → SpellsRanges text ranges → required_list_matches ranges (list_verdict_on entries expected) ≡ true
    → names ranges alg register ≡ true → HasMatch (list_verdict_on entries expected).rows alg register
required_list_matched entries expected text ranges alg register is meets named =
    let verdict = list_verdict_on entries expected in
    let both = and_parts _ (is_complete ranges (expected_of_rows verdict.rows)) meets in
    let alike = (and_parts (list_matches verdict) (are_none verdict.strays) both.0).0 in
    let each = (and_parts _ (list_all is_match verdict.rows) alike).1 in
    rows_matched verdict.rows text ranges alg register is each both.1 named

-- ---- log and list are apart, and register 10 is among what matches

none_is : {A : Type 0} (value : Option A) → not (is_some value) ≡ true → value ≡ None
none_is None e = refl
none_is (Some x) e = absurd cc

none_are : (strays : Strays) → are_none strays ≡ true → (strays.event ≡ None) × (strays.entry ≡ None)
none_are strays none =
    let both = and_parts (not (is_some strays.event)) (not (is_some strays.entry)) none in
    (none_is strays.event both.0, none_is strays.entry both.1)

-- Where a verdict meets a requirement, log and list are apart.
pub required_apart : (rule : AggregateRule) (algs : AlgSet) (events : List LogEvent) (entries : List ListEntry) (expected : List Expected)
    (ranges : List BankRange) → required_matches ranges (verdict_under rule algs events entries expected) ≡ true
    → IsLogApart events × IsListApart entries
required_apart rule algs events entries expected ranges meets =
    let verdict = verdict_under rule algs events entries expected in
    let both = and_parts _ (is_complete ranges (expected_of_rows verdict.rows)) meets in
    let none = none_are verdict.strays (and_parts (matches verdict) (are_none verdict.strays) both.0).1 in
    (log_is_apart 1 events none.0, list_is_apart 0 entries none.1)

pub required_list_apart : (entries : List ListEntry) (expected : List Expected) (ranges : List BankRange)
    → required_list_matches ranges (list_verdict_on entries expected) ≡ true → IsListApart entries
required_list_apart entries expected ranges meets =
    let verdict = list_verdict_on entries expected in
    let both = and_parts _ (is_complete ranges (expected_of_rows verdict.rows)) meets in
    let none = none_are verdict.strays (and_parts (list_matches verdict) (are_none verdict.strays) both.0).1 in
    list_is_apart 0 entries none.1

-- One algorithm passes, if any does.
some_alg : (test : Alg → Bool) → list_any test all_algs ≡ true → (alg : Alg) × (test alg ≡ true)
some_alg test any =
    elim (or_cases (test Sha1) _ any) [
      | inl first ↦ (Sha1, first)
      | inr after ↦
          elim (or_cases (test Sha256) _ after) [
            | inl second ↦ (Sha256, second)
            | inr others ↦
                elim (or_cases (test Sha384) _ others) [
                  | inl third ↦ (Sha384, third)
                  | inr last ↦
                      elim (or_cases (test Sha512) false last) [
                        | inl fourth ↦ (Sha512, fourth)
                        | inr none ↦ absurd cc
                      ]
                ]
          ]
    ]

-- Where a verdict meets what a text requires, the list's register matches in some bank.
pub required_bound : (rule : AggregateRule) (algs : AlgSet) (events : List LogEvent) (entries : List ListEntry) (expected : List Expected) (text : List ℕ)
    (ranges : List BankRange) → IsRequirementText text ranges → required_matches ranges (verdict_under rule algs events entries expected) ≡ true
    → (alg : Alg) × HasMatch (verdict_under rule algs events entries expected).rows alg list_register
required_bound rule algs events entries expected text ranges is meets =
    let bound = some_alg (λ alg. names ranges alg list_register) is.2 in
    (bound.0, required_matched rule algs events entries expected text ranges bound.0 list_register is.0 meets bound.1)

pub required_list_bound : (entries : List ListEntry) (expected : List Expected) (text : List ℕ) (ranges : List BankRange)
    → IsRequirementText text ranges → required_list_matches ranges (list_verdict_on entries expected) ≡ true
    → (alg : Alg) × HasMatch (list_verdict_on entries expected).rows alg list_register
required_list_bound entries expected text ranges is meets =
    let bound = some_alg (λ alg. names ranges alg list_register) is.2 in
    (bound.0, required_list_matched entries expected text ranges bound.0 list_register is.0 meets bound.1)

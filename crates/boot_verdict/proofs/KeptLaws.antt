-- Banks that are kept for expected registers.
use Rattle.std.proofs.Common.{◌≡◌, ℕ, Bool, true, false, cond, List, [], ◌∷◌, Option, None, refl, sym, ap, ◌∙◌, ◌||◌}
use Rattle.std.specs.List.{AllByRecursion, list_any}
use Rattle.pcr_banks.specs.declared.alg.Alg.{Alg}
use Rattle.pcr_banks.specs.declared.banks.Banks.{Banks}
use Rattle.pcr_banks.specs.declared.sets.AlgSet.{AlgSet}
use Rattle.pcr_banks.specs.Names.{IsReset, has_alg, same_alg, value_at}
use Rattle.pcr_banks.proofs.AlgLaws.{same_alg_here}
use Rattle.pcr_banks.proofs.SetLaws.{has_where}
use Rattle.boot_log.specs.Names.{LogEvent, startup_locality}
use Rattle.pcr_values.specs.declared.expected.Expected.{Expected}
use Rattle.boot_verdict.specs.Names.{AreAtReset, HaveSame, algs_of, is_asked}

-- What is so of all of them where the algorithms of each are among these.
or_true : (a b : Bool) → b ≡ true → (a || b) ≡ true
or_true true b is = refl
or_true false b is = is

or_here : (a b : Bool) → a ≡ true → (a || b) ≡ true
or_here true b is = refl
or_here false b is = absurd cc

asked_each : (test : Alg → Bool) (expected : List Expected) → ((alg : Alg) → is_asked expected alg ≡ true → test alg ≡ true)
    → AllByRecursion (λ e. test e.alg ≡ true) expected
asked_each test [] within = tt
asked_each test (e ∷ expected) within = (
  within e.alg (or_here (same_alg e.alg e.alg) (is_asked expected e.alg) (same_alg_here e.alg)),
  asked_each test expected (λ alg is. within alg (or_true (same_alg e.alg alg) (is_asked expected alg) is)),
)

-- Banks with the values of those of which a register is expected, and of no other.
pub kept_values : (expected : List Expected) (first second : Banks)
    → ((a : Alg) (r : ℕ) → value_at first a r ≡ cond (has_alg (algs_of expected) a) (value_at second a r) None)
    → (a : Alg) (r : ℕ) → value_at first a r ≡ cond (is_asked expected a) (value_at second a r) None
kept_values expected first second values a r =
    values a r ∙ ap (λ (b : Bool). cond b (value_at second a r) None) (has_where (is_asked expected) a)

-- So they are where those of other algorithms are kept besides.
pub kept_besides : (expected : List Expected) (more both : AlgSet) (first second : Banks)
    → ((a : Alg) → has_alg both a ≡ (has_alg more a || has_alg (algs_of expected) a))
    → ((a : Alg) (r : ℕ) → value_at first a r ≡ cond (has_alg both a) (value_at second a r) None)
    → (a : Alg) (r : ℕ) → value_at first a r ≡ cond (has_alg more a || is_asked expected a) (value_at second a r) None
kept_besides expected more both first second has values a r =
    values a r
    ∙ ap (λ (b : Bool). cond b (value_at second a r) None) (has a ∙ ap (λ (b : Bool). has_alg more a || b) (has_where (is_asked expected) a))

same_each : (kept : Alg → Bool) (expected : List Expected) (first second : Banks)
    → ((a : Alg) (r : ℕ) → value_at first a r ≡ cond (kept a) (value_at second a r) None)
    → AllByRecursion (λ e. kept e.alg ≡ true) expected → HaveSame expected first second
same_each kept [] first second values has = tt
same_each kept (e ∷ expected) first second values (here, has) = (
  values e.alg e.register ∙ ap (λ (b : Bool). cond b (value_at second e.alg e.register) None) here,
  same_each kept expected first second values has,
)

-- Such banks have the values of the expected registers.
pub kept_same : (expected : List Expected) (first second : Banks)
    → ((a : Alg) (r : ℕ) → value_at first a r ≡ cond (is_asked expected a) (value_at second a r) None) → HaveSame expected first second
kept_same expected first second values =
    same_each (is_asked expected) expected first second values (asked_each (is_asked expected) expected (λ alg is. is))

pub kept_with : (expected : List Expected) (more : AlgSet) (first second : Banks)
    → ((a : Alg) (r : ℕ) → value_at first a r ≡ cond (has_alg more a || is_asked expected a) (value_at second a r) None)
    → HaveSame expected first second
kept_with expected more first second values =
    same_each (λ a. has_alg more a || is_asked expected a) expected first second values
    (asked_each (λ a. has_alg more a || is_asked expected a) expected (λ alg is. or_true (has_alg more alg) (is_asked expected alg) is))

-- Any banks have the same values as themselves.
pub same_all : (expected : List Expected) (banks : Banks) → HaveSame expected banks banks
same_all [] banks = tt
same_all (e ∷ expected) banks = (refl, same_all expected banks)

-- Banks that have the values of those of a log before its first event.
pub at_reset : (algs : AlgSet) (events : List LogEvent) (expected : List Expected) (first second : Banks) → HaveSame expected first second
    → IsReset algs (startup_locality events) second → AreAtReset algs events expected first
at_reset algs events [] first second same reset = tt
at_reset algs events (e ∷ expected) first second (here, same) reset =
    (here ∙ reset.values e.alg e.register, at_reset algs events expected first second same reset)

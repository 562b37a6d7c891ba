-- Whether a command line asks Linux to measure files (Linux, 'The kernel's command-line parameters': ima_tcb, ima_policy=tcb).
--
-- Fewer texts are taken for such than Linux takes: words are divided by spaces alone, nothing counts from a quote or from `--` on, `tcb` is
-- the first value, and `-` is not taken for `_`. So a Linux with IMA whose command line asks so has a policy that measures the files
-- of the trusted computing base. It is not known that the text is Linux's command line.
use Rattle.std.specs.Prelude.{◌≡◌, ◌⊎◌, ℕ, ◌==◌, Bool, true, false, nat_eq, List, [], ◌∷◌, ◌++◌, codes}
use Rattle.std.specs.List.{list_any, starts_with}

-- How options that ask to measure begin, with what ends a word or a value.
abbrev pub measuring_options : List (List ℕ)
measuring_options = codes "ima_tcb " ∷ codes "ima_policy=tcb " ∷ codes "ima_policy=tcb|" ∷ []

-- What nothing is read after: a quote, and `--`.
abbrev pub stopping : List (List ℕ)
stopping = codes "\"" ∷ codes "--" ∷ []

abbrev pub stops : List ℕ → Bool
stops bytes = list_any (starts_with nat_eq bytes) stopping

abbrev pub is_space : ℕ → Bool
is_space byte = byte == 0x20

-- The bytes begin with such an option, or are one.
abbrev pub BeginsMeasuring : List ℕ → Type 0
BeginsMeasuring bytes =
    (list_any (starts_with nat_eq bytes) measuring_options ≡ true) ⊎ ((bytes ≡ codes "ima_tcb") ⊎ (bytes ≡ codes "ima_policy=tcb"))

-- A word of the text is such an option, and nothing up to its start stops.
pub record AsksToMeasure (text : List ℕ) : Type 0 where
  pub before : List ℕ
  pub rest : List ℕ
  pub parts : text ≡ before ++ rest
  pub start : (before ≡ []) ⊎ ((prefix : List ℕ) × (byte : ℕ) × (before ≡ prefix ++ byte ∷ []) × (is_space byte ≡ true))
  pub option : BeginsMeasuring rest
  pub plain : (prefix back : List ℕ) → before ≡ prefix ++ back → stops (back ++ rest) ≡ false

-- What the machine hashed for Secure Boot.
use Rattle.std.specs.Prelude.{◌≡◌, ◌⊎◌, ℕ, List, [], ◌∷◌, ◌++◌, length}
use Rattle.std.specs.List.{AllByRecursion}
use Rattle.pcr_banks.specs.declared.alg.Alg.{Alg}
use Rattle.binding_laws.specs.BankBinding.{Collision}
use Rattle.binding_laws.specs.LogBinding.{LogsBreakHash}
use Rattle.boot_log.specs.Names.{LogEvent}
use Rattle.boot_answers.specs.Extending.{extended_events}
use Rattle.boot_answers.specs.SecureBoot.{IsSecureBootVariable}
use Rattle.answer_laws.specs.Hashed.{IsDataAmong}

-- Data that is neither a separator nor SecureBoot.
pub record IsOther (bytes : List ℕ) : Type 0 where
  pub no_separator : length bytes ≡ 4 → ⊥
  pub no_variable : (value : List ℕ) → IsSecureBootVariable bytes value → ⊥

-- Among what was hashed, SecureBoot with this value came before any other SecureBoot and any separator.
pub record HashedFirst (hashed : List (List ℕ)) (value : ℕ) : Type 0 where
  pub before : List (List ℕ)
  pub bytes : List ℕ
  pub after : List (List ℕ)
  pub parts : hashed ≡ before ++ bytes ∷ after
  pub others : AllByRecursion IsOther before
  pub variable : IsSecureBootVariable bytes (value ∷ [])

-- Among what was hashed is SecureBoot or a separator.
pub record HashedDecision (hashed : List (List ℕ)) : Type 0 where
  pub before : List (List ℕ)
  pub bytes : List ℕ
  pub after : List (List ℕ)
  pub parts : hashed ≡ before ++ bytes ∷ after
  pub decides : IsOther bytes → ⊥

-- Data that the logs show for the register collide, or their extends break the hash.
abbrev pub LogsBreak : Alg → ℕ → List LogEvent → List LogEvent → Type 0
LogsBreak alg register events others =
    Collision alg (IsDataAmong (extended_events register events)) (IsDataAmong (extended_events register others))
    ⊎ LogsBreakHash alg register events others

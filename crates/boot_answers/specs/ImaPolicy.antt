-- Whether a command line may ask for one of IMA's own policies (Linux, 'The kernel's command-line parameters': ima_policy=, ima_tcb,
-- ima_appraise_tcb).
--
-- More is taken for an option than the kernel takes: `-` for `_`, as it does, after a quote, and with any value. So a text that may ask for
-- a policy proves nothing: its policy may measure no file (ima_policy=fail_securely, ima_appraise_tcb) or be none (ima_policy=other); root
-- can append the text to the register, and can pass any text that GRUB measured off as the kernel's command line. That no text may ask for
-- one proves nothing either: no event says which boot loader made it. The kernel may have options from one that measures none into this
-- register, by kexec, by bootconfig, or built in.
use Rattle.std.specs.Prelude.{◌≡◌, ◌⊎◌, ℕ, ◌||◌, ◌&&◌, ◌==◌, Bool, true, nat_eq, nat_le, List, [], ◌∷◌, ◌++◌, codes}
use Rattle.std.specs.List.{list_any, starts_with}

-- How options that ask for a policy begin.
abbrev pub policy_options : List (List ℕ)
policy_options =
    codes "ima_policy=" ∷ codes "ima-policy=" ∷ codes "ima_tcb" ∷ codes "ima-tcb" ∷ codes "ima_appraise_tcb" ∷ codes "ima-appraise-tcb"
    ∷ codes "ima_appraise-tcb" ∷ codes "ima-appraise_tcb" ∷ []

-- Whether the byte stands between words: white space of ASCII, a no-break space, or a quote.
abbrev pub is_between : ℕ → Bool
is_between byte = (nat_le 9 byte && nat_le byte 13) || (byte == 0x20) || (byte == 0xa0) || (byte == 0x22)

-- Whether the bytes begin with such an option.
abbrev pub begins_option : List ℕ → Bool
begins_option bytes = list_any (starts_with nat_eq bytes) policy_options

-- A word may begin after these bytes.
abbrev pub EndsWord : List ℕ → Type 0
EndsWord before = (before ≡ []) ⊎ ((prefix : List ℕ) × (byte : ℕ) × (before ≡ prefix ++ byte ∷ []) × (is_between byte ≡ true))

-- A word of the text may be such an option.
pub record MaySetImaPolicy (text : List ℕ) : Type 0 where
  pub before : List ℕ
  pub rest : List ℕ
  pub parts : text ≡ before ++ rest
  pub start : EndsWord before
  pub option : begins_option rest ≡ true

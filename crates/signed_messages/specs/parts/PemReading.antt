-- What is read of a key's PEM before its PEM is written again.
use Rattle.std.specs.Prelude.{◌≡◌, ℕ, List, Some}
use Rattle.tpm_keys.specs.KeyInfo.{key_info, key_pem}
use Rattle.tpm_keys.specs.Spelling.{KeyNumbers}
use Rattle.signed_messages.specs.Keys.{MessageKey, key_alone}
use Rattle.signed_messages.specs.KeyTexts.{AreBytes}

-- If the first bytes are the PEM of a key, the others are its SubjectPublicKeyInfo.
abbrev pub IsInfoIn : List ℕ → List ℕ → Type 0
IsInfoIn pem info =
    (numbers : KeyNumbers) (key : MessageKey) → AreBytes numbers → key_alone numbers ≡ Some key → pem ≡ key_pem numbers → info ≡ key_info numbers

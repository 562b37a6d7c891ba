-- What a person is told to do where nobody looked at a quote's signature, or key or signature are refused.
use Rattle.std.specs.Prelude.{ℕ, nat_lt, Bool, if◌then◌else◌, List, codes}
use Rattle.signed_messages.specs.declared.refusal.SignatureRefusal.{SignatureRefusal}
use Rattle.signed_messages.specs.declared.refusal.SignatureRefusal.TheVariants.{Bytes, OtherScheme, OtherHash, NotSigned, OtherKey, OtherPem}
use Rattle.tpm_keys.specs.Faults.{key_fault_number}
use Rattle.tpm_keys.specs.declared.fault.KeyFault.{KeyFault}

abbrev pub unsigned_words : List ℕ
unsigned_words = codes "the signature of QUOTE was not checked: add --key and --signature to verify it"

abbrev pub refusal_words : SignatureRefusal → List ℕ
refusal_words (Bytes fault) = codes "SIG must be what tpm2_quote -s wrote with QUOTE, plain or not; KEY must be the key that made it"
refusal_words OtherScheme = codes "KEY does not allow the scheme or the hash of SIG: SIG was made by another key or changed"
refusal_words OtherHash = codes "KEY does not allow the scheme or the hash of SIG: SIG was made by another key or changed"
refusal_words NotSigned = codes "SIG is from another key or another quote, or one of QUOTE, SIG and KEY was changed"
refusal_words OtherKey =
    codes "ima-agent cannot verify signatures by such keys: verify SIG yourself, then give --signature-checked instead of --key and --signature"
refusal_words OtherPem = codes "give the key's public area: NAME.pub from ima-enroll"

-- The bytes are no public area: the faults before 11 are of these, and the others of what an area says.
abbrev pub is_no_area : KeyFault → Bool
is_no_area fault = nat_lt (key_fault_number fault) 11

abbrev pub no_area_words : List ℕ
no_area_words = codes "KEY is not a supported public area: give NAME.pub from ima-enroll, or PEM as ima-agent key --print pem prints it"

abbrev pub key_words : KeyFault → List ℕ
key_words fault = if is_no_area fault then no_area_words else codes "KEY is not an attestation key: give NAME.pub from ima-enroll"

-- Certificates by their bytes. The bytes need not be DER, and nobody reads what they say.
use Rattle.std.specs.Prelude.{ℕ, nat_eq, nat_lt, ◌&&◌, Bool, if◌then◌else◌, List, [], ◌∷◌, bytes_eq, codes, length, map}
use Rattle.std.specs.List.{starts_with}
use Rattle.json.specs.Json.{Json}
use Rattle.pcr_banks.specs.declared.alg.Alg.TheVariants.{Sha256}
use Rattle.pcr_banks.specs.Names.{hash_of}
use Rattle.event_data.specs.Names.{ListData, SignatureData, signatures_of}
use Rattle.cells.specs.Values.{Member, array_of, hex_json, number_json, object_of}

-- The fingerprint of a certificate, which is the SHA-256 of its bytes as they are (FIPS 180-4), and how many they are.
abbrev pub certificate_json : List ℕ → Json
certificate_json bytes = object_of ((codes "sha256", hex_json (hash_of Sha256 bytes)) ∷ (codes "size", number_json (length bytes)) ∷ [])

-- ---- lists of signatures

-- EFI_CERT_X509_GUID, a5c059a1-94e4-4aa7-87b5-ab155c2bf072 (UEFI 2.10, section 32.4.1): each signature of such a list is a certificate.
abbrev pub x509_type : List ℕ
x509_type =
    0xa1 ∷ 0x59 ∷ 0xc0 ∷ 0xa5 ∷ 0xe4 ∷ 0x94 ∷ 0xa7 ∷ 0x4a ∷ 0x87 ∷ 0xb5 ∷ 0xab ∷ 0x15 ∷ 0x5c ∷ 0x2b ∷ 0xf0 ∷ 0x72 ∷ []

abbrev pub certificates_json : List SignatureData → Json
certificates_json signatures = array_of (map (λ signature. certificate_json signature.payload) signatures)

-- The certificates of a list, if it is one of certificates.
abbrev pub certificates_member : ListData → List Member
certificates_member list = if bytes_eq list.kind x509_type then (codes "certificates", certificates_json (signatures_of list)) ∷ [] else []

-- ---- one signature, of no stated type

-- Whether the bytes begin as a certificate does, with the tag of a SEQUENCE (X.690, section 8.9; RFC 5280, section 4.1), and are more than those
-- of SHA-512, the longest hash (UEFI 2.10, section 32.4.1, EFI_CERT_SHA512_GUID).
abbrev pub is_certificate : List ℕ → Bool
is_certificate bytes = nat_lt 64 (length bytes) && starts_with nat_eq bytes (0x30 ∷ [])

-- The certificate that the bytes are, if they are one.
abbrev pub certificate_member : List ℕ → List Member
certificate_member bytes = if is_certificate bytes then (codes "certificate", certificate_json bytes) ∷ [] else []

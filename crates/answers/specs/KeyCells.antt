-- The cells of what is told of a key.
use Rattle.std.specs.Prelude.{List, [], ◌∷◌, codes, ℕ}
use Rattle.std.specs.String.{string_bytes}
use Rattle.pcr_banks.specs.declared.digest.Digest.{Digest}
use Rattle.pcr_banks.specs.Names.{name_of}
use Rattle.tpm_keys.specs.declared.area.Scheme.{Scheme}
use Rattle.tpm_keys.specs.declared.kinds.KeyPart.{KeyPart}
use Rattle.tpm_keys.specs.declared.kinds.KeyPart.TheVariants as parts
use Rattle.tpm_keys.specs.declared.report.KeyKind.{KeyKind}
use Rattle.tpm_keys.specs.declared.report.KeyReport.{KeyReport}
use Rattle.tpm_keys.specs.Kinds.{scheme_name}
use Rattle.tpm_keys.specs.Reports.{kind_bits, kind_name, name_bytes}
use Rattle.cells.specs.Values.{Member}
use Rattle.cells.specs.Cells.{Cell, beside, hex, if_some, in_order, number, text, word}

-- The name as the TPM has it; in text after these words.
abbrev pub name_cell : List ℕ → Digest → Cell Member
name_cell before name = beside (hex before (codes "name") (name_bytes name)) (text (codes "\n"))

-- The kind and the size, as `key rsa 2048`.
abbrev pub kind_cell : KeyKind → Cell Member
kind_cell kind = in_order (
    word (codes "key ") (codes "type") (kind_name kind)
    ∷ number (codes " ") (codes "bits") (kind_bits kind)
    ∷ text (codes "\n")
    ∷ [])

-- The scheme, and its hash, if it has one, as `scheme rsassa sha256`.
abbrev pub scheme_cell : Scheme → Cell Member
scheme_cell scheme = in_order (
    word (codes "scheme ") (codes "scheme") (scheme_name scheme.kind)
    ∷ if_some scheme.hash (λ alg. word (codes " ") (codes "hash") (name_of alg))
    ∷ text (codes "\n")
    ∷ [])

abbrev pub pem_cell : KeyReport → Cell Member
pem_cell report = word [] (codes "pem") (string_bytes report.pem)

abbrev pub key_cell : KeyPart → KeyReport → Cell Member
key_cell parts.All report =
    in_order (name_cell (codes "name ") report.name ∷ kind_cell report.kind ∷ scheme_cell report.scheme ∷ pem_cell report ∷ [])
key_cell parts.Name report = name_cell [] report.name
key_cell parts.Pem report = pem_cell report

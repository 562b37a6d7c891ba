-- What is told of a key is one line, and has no member `fault`.
use Rattle.std.proofs.Common.{◌≡◌, List, [], ◌++◌, Option, Some, None, codes, refl}
use Rattle.json.specs.Find.{get}
use Rattle.pcr_banks.specs.declared.alg.Alg.{Alg}
use Rattle.pcr_banks.specs.Names.{name_of}
use Rattle.tpm_keys.specs.declared.kinds.KeyPart.{KeyPart}
use Rattle.tpm_keys.specs.declared.kinds.KeyPart.TheVariants as parts
use Rattle.tpm_keys.specs.declared.report.KeyReport.{KeyReport}
use Rattle.tpm_keys.specs.Reports.{kind_bits}
use Rattle.cells.specs.Values.{IsCount, IsOneLine, Member, members_of, object_of}
use Rattle.cells.specs.Cells.{beside, if_some, word}
use Rattle.cells.proofs.FaultMemberLaws.{AreOther, lacks}
use Rattle.cells.proofs.LineLaws.{ArePlain, one_line}
use Rattle.answers.specs.KeyCells.{key_cell}

hash_plain : (hash : Option Alg) (after : List Member) → ArePlain after 2
    → ArePlain (((if_some hash (λ alg. word (codes " ") (codes "hash") (name_of alg))).json ++ []) ++ after) 2
hash_plain None after plain = plain
hash_plain (Some alg) after plain = (tt, plain)

pub key_line : (part : KeyPart) (report : KeyReport) → IsCount (kind_bits report.kind) → IsOneLine (object_of (key_cell part report).json)
unfolding beside
key_line parts.All report bits =
    one_line _ (tt, (tt, ((kind_bits report.kind, bits, refl), (tt, hash_plain report.scheme.hash _ (tt, tt)))))
key_line parts.Name report bits = one_line _ (tt, tt)
key_line parts.Pem report bits = one_line _ (tt, tt)

hash_other : (hash : Option Alg) (after : List Member) → AreOther (members_of after)
    → AreOther (members_of (((if_some hash (λ alg. word (codes " ") (codes "hash") (name_of alg))).json ++ []) ++ after))
hash_other None after other = other
hash_other (Some alg) after other = (refl, other)

pub key_lacks : (part : KeyPart) (report : KeyReport) → get (codes "fault") (object_of (key_cell part report).json) ≡ None
unfolding beside
key_lacks parts.All report = lacks (object_of (key_cell parts.All report).json) refl (refl, (refl, (refl, (refl, hash_other report.scheme.hash _ (refl, tt)))))
key_lacks parts.Name report = lacks (object_of (key_cell parts.Name report).json) refl (refl, tt)
key_lacks parts.Pem report = lacks (object_of (key_cell parts.Pem report).json) refl (refl, tt)

-- Certificates nest little, and their sizes are decimal numbers.
use Rattle.std.proofs.Common.{◌≡◌, ℕ, ◌≤◌, Bool, true, false, cond, List, [], ◌∷◌, length, map, refl}
use Rattle.std.specs.Prelude.{bytes_eq, codes}
use Rattle.std.specs.List.{AllByRecursion}
use Rattle.event_data.specs.Names.{ListData, SignatureData, signatures_of}
use Rattle.cells.proofs.LineLaws.{ArePlain, IsPlain, ItemsArePlain}
use Rattle.cells.specs.Values.{IsCount, Member, items_of}
use Rattle.event_lines.specs.Certificates.{certificate_json, certificate_member, certificates_json, certificates_member, is_certificate, x509_type}

certificate_plain : (bytes : List ℕ) → IsCount (length bytes) → IsPlain (certificate_json bytes) 1
certificate_plain bytes fits = (tt, ((length bytes, fits, refl), tt))

each_plain : (signatures : List SignatureData) → AllByRecursion (λ signature. IsCount (length signature.payload)) signatures
    → ItemsArePlain (items_of (map (λ signature. certificate_json signature.payload) signatures)) 1
each_plain [] fit = tt
each_plain (first ∷ signatures) fit = (certificate_plain first.payload fit.0, each_plain signatures fit.1)

list_if_plain : (is : Bool) (signatures : List SignatureData) → AllByRecursion (λ signature. IsCount (length signature.payload)) signatures
    → ArePlain (cond is ((codes "certificates", certificates_json signatures) ∷ []) []) 2
list_if_plain true signatures fit = (each_plain signatures fit, tt)
list_if_plain false signatures fit = tt

pub certificates_plain : (list : ListData) → AllByRecursion (λ signature. IsCount (length signature.payload)) (signatures_of list)
    → ArePlain (certificates_member list) 2
certificates_plain list fit = list_if_plain (bytes_eq list.kind x509_type) (signatures_of list) fit

one_if_plain : (is : Bool) (bytes : List ℕ) → IsCount (length bytes)
    → ArePlain (cond is ((codes "certificate", certificate_json bytes) ∷ []) []) 3
one_if_plain true bytes fits = (((tt, ((length bytes, fits, refl), tt))), tt)
one_if_plain false bytes fits = tt

-- A certificate that is a member of a variable.
pub known_is_plain : (bytes : List ℕ) → IsCount (length bytes) → ArePlain ((codes "certificate", certificate_json bytes) ∷ []) 4
known_is_plain bytes fits = ((tt, ((length bytes, fits, refl), tt)), tt)

pub certificate_is_plain : (bytes : List ℕ) → IsCount (length bytes) → ArePlain (certificate_member bytes) 3
certificate_is_plain bytes fits = one_if_plain (is_certificate bytes) bytes fits

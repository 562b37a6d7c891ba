-- What a text lists is known, and what is known is listed.
use Rattle.std.proofs.Common.{◌≡◌, ◌↔◌, ℕ, Bool, true, false, List, Option, Some, None, refl, ap, ◌∙◌}
use Rattle.std.specs.Prelude.{◌&&◌, ◌==◌, not, bytes_eq}
use Rattle.std.proofs.lemmas.Bool.{and_parts, and_from, eqb-true, eq-eqb, false_from_ne_true}
use Rattle.std.proofs.lemmas.Slice.Eq.{bytes_eq-Decides}
use Rattle.ima_list.specs.Names.{ListEntry, boot_aggregate_path, is_violation}
use Rattle.boot_verdict.specs.Names.{list_register}
use Rattle.known_files.specs.EntryFiles.{FileTold, IsKnown, file_of, is_known, is_known_file}
use Rattle.known_files.specs.Listing.{IsListed, is_listed}
use Rattle.known_files.proofs.ListingLaws.{listed_iff}

not_true : (b : Bool) → not b ≡ true → b ≡ false
not_true false e = refl
not_true true e = absurd cc

pub not_false : (b : Bool) → b ≡ false → not b ≡ true
not_false b e = rw e refl

file_read : (texts : List (List ℕ)) (file : Option FileTold) → is_known_file texts file ≡ true
    → (told : FileTold) × (file ≡ Some told) × IsListed texts told.digest × (told.path ≡ boot_aggregate_path → ⊥)
file_read texts None e = absurd cc
file_read texts (Some file) e =
    let both = and_parts (not (bytes_eq file.path boot_aggregate_path)) (is_listed texts file.digest) e in (
      file,
      refl,
      (listed_iff texts file.digest).0 both.1,
      λ same. absurd (
          let is = (bytes_eq-Decides file.path boot_aggregate_path).1 same in
          let isnt = not_true (bytes_eq file.path boot_aggregate_path) both.0 in cc),
    )

file_again : (texts : List (List ℕ)) (file : FileTold) → IsListed texts file.digest → (file.path ≡ boot_aggregate_path → ⊥)
    → is_known_file texts (Some file) ≡ true
file_again texts file listed other =
    and_from (not (bytes_eq file.path boot_aggregate_path)) (is_listed texts file.digest)
    (not_false (bytes_eq file.path boot_aggregate_path) (false_from_ne_true (bytes_eq file.path boot_aggregate_path)
    (λ e. other ((bytes_eq-Decides file.path boot_aggregate_path).0 e))))
    ((listed_iff texts file.digest).1 listed)

known_read : (texts : List (List ℕ)) (entry : ListEntry) → is_known texts entry ≡ true → IsKnown texts entry
known_read texts entry e =
    let violation = and_parts (not (is_violation entry)) ((entry.register == list_register) && is_known_file texts (file_of entry)) e in
    let register = and_parts (entry.register == list_register) (is_known_file texts (file_of entry)) violation.1 in
    let file = file_read texts (file_of entry) register.1 in
    record {
      file = file.0;
      told = file.1;
      listed = file.2;
      no_violation = not_true (is_violation entry) violation.0;
      register_is = eqb-true entry.register list_register register.0;
      no_aggregate = file.3;
    }

known_again : (texts : List (List ℕ)) (entry : ListEntry) → IsKnown texts entry → is_known texts entry ≡ true
known_again texts entry known =
    and_from (not (is_violation entry)) ((entry.register == list_register) && is_known_file texts (file_of entry))
    (not_false (is_violation entry) known.no_violation)
    (and_from (entry.register == list_register) (is_known_file texts (file_of entry)) (eq-eqb entry.register list_register known.register_is)
    (ap (is_known_file texts) known.told ∙ file_again texts known.file known.listed known.no_aggregate))

pub known_iff : (texts : List (List ℕ)) (entry : ListEntry) → (is_known texts entry ≡ true) ↔ IsKnown texts entry
known_iff texts entry = (known_read texts entry, known_again texts entry)

-- A part is measured where the test says so.
use Rattle.std.proofs.Common.{◌≡◌, List, ℕ, ◌==◌, Bool, not, true, false, Option, Some, None, refl, ap}
use Rattle.std.specs.Prelude.{bytes_eq}
use Rattle.std.specs.Bool.{Decides}
use Rattle.std.specs.Option.{option_map_or}
use Rattle.std.proofs.lemmas.Bool.Decides.{Decides-and, Decides-eqb, Decides-not}
use Rattle.std.proofs.lemmas.Slice.Eq.{bytes_eq-Decides}
use Rattle.pcr_banks.specs.declared.alg.Alg.{Alg}
use Rattle.pcr_banks.specs.Names.{digest_in, hash_of}
use Rattle.boot_log.specs.Names.{LogEvent, no_action}
use Rattle.measured_data.specs.declared.measured.Part.{Part}
use Rattle.measured_data.specs.Measuring.{IsMeasured, has_digest_of, is_measured, part_in}
use Rattle.byte_fields.specs.Spelling.{IsBytes}
use Rattle.measured_data.proofs.PartLaws.{part_told}

digest_told : (digest : Option (List ℕ)) (hash : List ℕ)
    → Decides (option_map_or (λ digest. bytes_eq digest hash) digest false) (digest ≡ Some hash)
digest_told None hash = (λ e. absurd cc, λ e. absurd cc)
digest_told (Some bytes) hash =
    let same = bytes_eq-Decides bytes hash in
    (λ e. ap (λ (b : List ℕ). Some b) (same.0 e), λ e. same.1 cc)

abbrev HasDigestOf : Alg → LogEvent → List ℕ → Type 0
HasDigestOf alg event bytes = (event.kind ≡ no_action → ⊥) × (digest_in event.digests alg ≡ Some (hash_of alg bytes))

digest_of_told : (alg : Alg) (event : LogEvent) (bytes : List ℕ) → Decides (has_digest_of alg event bytes) (HasDigestOf alg event bytes)
digest_of_told alg event bytes =
    Decides-and (not (event.kind == no_action))
    (option_map_or (λ digest. bytes_eq digest (hash_of alg bytes)) (digest_in event.digests alg) false)
    (Decides-not (event.kind == no_action) (Decides-eqb event.kind no_action))
    (digest_told (digest_in event.digests alg) (hash_of alg bytes))

passes : (found : Option (List ℕ)) (test : List ℕ → Bool) → option_map_or test found false ≡ true
    → (bytes : List ℕ) × (found ≡ Some bytes) × (test bytes ≡ true)
passes None test e = absurd cc
passes (Some bytes) test e = (bytes, refl, e)

pub measured_told : (alg : Alg) (event : LogEvent) (part : Part) → IsBytes event.payload
    → Decides (is_measured alg event part) (IsMeasured alg event part)
measured_told alg event part fits = (
  λ e.
      let found = passes (part_in part event) (has_digest_of alg event) e in
      let has = (digest_of_told alg event found.0).0 found.2 in
      record { extended = has.0; bytes = found.0; are = (part_told part event fits found.0).0 found.1; digest = has.1 },
  λ is. rw ((part_told part event fits is.bytes).1 is.are) ((digest_of_told alg event is.bytes).1 (is.extended, is.digest)),
)

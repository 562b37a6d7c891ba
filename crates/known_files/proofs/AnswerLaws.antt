-- What an answer tells.
use Rattle.std.proofs.Common.{◌≡◌, ◌⊎◌, ℕ, zero, suc, ◌+◌, ◌<◌, Bool, true, false, List, [], ◌∷◌, ◌++◌, drop, Some, refl, sym, ap, ◌∙◌, arith, inl, inr}
use Rattle.std.specs.Prelude.{◌&&◌, ◌==◌, if◌then◌else◌, max, not}
use Rattle.std.specs.List.{AllByRecursion}
use Rattle.std.proofs.lemmas.Bool.{ne_eqb}
use Rattle.pcr_banks.specs.declared.alg.Alg.TheVariants as algs
use Rattle.pcr_banks.specs.declared.digest.Digest.{Digest}
use Rattle.pcr_banks.specs.Names.{alg_of}
use Rattle.ima_list.specs.Names.{ListEntry}
use Rattle.known_files.specs.DigestLines.{IsDigestLine}
use Rattle.known_files.specs.EntryFiles.{IsKnown, is_aggregate, is_known}
use Rattle.known_files.specs.Listing.{IsGoodLine, IsGoodText, IsListed, OneSays, lines_of}
use Rattle.known_files.specs.Unknown.{AreUnknown, is_unknown, unknown_at, unknown_in}
use Rattle.known_files.proofs.DigestLineLaws.{says_again}
use Rattle.known_files.proofs.KnownLaws.{known_iff}

-- ---- entries

-- Nothing is told of the first, nor of the others.
both_empty : (first others : List ℕ) → first ++ others ≡ [] → (first ≡ []) × (others ≡ [])
both_empty [] others e = (refl, e)
both_empty (number ∷ first) others e = absurd cc

not_told : (told : Bool) (number : ℕ) → (if told then number ∷ [] else []) ≡ [] → told ≡ false
not_told false number e = refl
not_told true number e = absurd cc

known_here : (texts : List (List ℕ)) (number : ℕ) (entry : ListEntry) → 0 < number → is_unknown texts number entry ≡ false
    → is_known texts entry ≡ true
known_here texts number entry later e =
    let other : (number == 0) ≡ false = ne_eqb number 0 (λ same. omega (arith, same, later)) in
    known_of (is_aggregate entry) (is_known texts entry)
    (ap (λ (b : Bool). not (b && is_aggregate entry) && not (is_known texts entry)) (sym other) ∙ e)
  where
    known_of : (aggregate known : Bool) → (not (false && aggregate) && not known) ≡ false → known ≡ true
    known_of aggregate true e = refl
    known_of aggregate false e = absurd cc

-- Of a first entry that is not told, too.
passed_or_known : (passed known : Bool) → (not passed && not known) ≡ false → (known ≡ true) ⊎ (passed ≡ true)
passed_or_known true known e = inr refl
passed_or_known false true e = inl refl
passed_or_known false false e = absurd cc

pub known_first : (texts : List (List ℕ)) (entry : ListEntry) (entries : List ListEntry) → unknown_in texts 0 (entry ∷ entries) ≡ []
    → IsKnown texts entry ⊎ (is_aggregate entry ≡ true)
known_first texts entry entries e =
    let both = both_empty (unknown_at texts 0 entry) (unknown_in texts 1 entries) e in
    elim (passed_or_known (is_aggregate entry) (is_known texts entry) (not_told (is_unknown texts 0 entry) 0 both.0)) [
      | inl known ↦ inl ((known_iff texts entry).0 known)
      | inr passed ↦ inr passed
    ]

pub known_later : (texts : List (List ℕ)) (first : ℕ) (entries : List ListEntry) → 0 < first → unknown_in texts first entries ≡ []
    → AllByRecursion (IsKnown texts) entries
known_later texts first [] later e = tt
known_later texts first (entry ∷ entries) later e =
    let both = both_empty (unknown_at texts first entry) (unknown_in texts (first + 1) entries) e in
    let here = known_here texts first entry later (not_told (is_unknown texts first entry) first both.0) in
    ((known_iff texts entry).0 here, known_later texts (first + 1) entries (omega (arith, later)) both.1)

pub known_list : (texts : List (List ℕ)) (entries : List ListEntry) → unknown_in texts 0 entries ≡ []
    → AllByRecursion (IsKnown texts) (drop 1 entries)
known_list texts [] e = tt
known_list texts (entry ∷ entries) e =
    let both = both_empty (unknown_at texts 0 entry) (unknown_in texts 1 entries) e in known_later texts 1 entries (omega arith) both.1

pub known_from : (texts : List (List ℕ)) (first : ℕ) (entries : List ListEntry) → AreUnknown texts first entries []
    → AllByRecursion (IsKnown texts) (drop (max 1 first) entries)
known_from texts zero entries are = known_list texts entries (sym are)
known_from texts (suc first) entries are =
    let same : max 1 (suc first) ≡ suc first = omega arith in rw same (known_later texts (suc first) (drop (suc first) entries) (omega arith) (sym are))

-- ---- texts

weak_line : (line : List ℕ) (digest : Digest) → IsGoodLine line → IsDigestLine line digest → alg_of digest ≡ algs.Sha1 → ⊥
weak_line line digest good says weak =
    let same : Some good.digest ≡ Some digest = sym (says_again line good.digest good.says) ∙ says_again line digest says in
    good.strong (some_digest good.digest digest same ∙ weak)
  where
    some_digest : (a b : Digest) → Some a ≡ Some b → alg_of a ≡ alg_of b
    some_digest a b e = cc

weak_lines : (lines : List (List ℕ)) (digest : Digest) → AllByRecursion IsGoodLine lines → OneSays lines digest → alg_of digest ≡ algs.Sha1 → ⊥
weak_lines [] digest good says weak = says
weak_lines (line ∷ lines) digest good (inl here) weak = weak_line line digest good.0 here weak
weak_lines (line ∷ lines) digest good (inr there) weak = weak_lines lines digest good.1 there weak

pub weak_texts : (texts : List (List ℕ)) (digest : Digest) → AllByRecursion IsGoodText texts → IsListed texts digest
    → alg_of digest ≡ algs.Sha1 → ⊥
weak_texts [] digest good listed weak = listed
weak_texts (text ∷ texts) digest good (inl here) weak = weak_lines (lines_of text) digest good.0 here weak
weak_texts (text ∷ texts) digest good (inr there) weak = weak_texts texts digest good.1 there weak

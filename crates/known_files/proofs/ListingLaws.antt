-- What texts list: the test and the relation agree.
use Rattle.std.proofs.Common.{◌≡◌, ◌↔◌, ◌⊎◌, ℕ, Bool, true, false, List, [], ◌∷◌, Option, Some, None, refl, sym, ap, ◌∙◌, inl, inr}
use Rattle.std.specs.Prelude.{bytes_eq, if◌then◌else◌}
use Rattle.std.specs.List.{cons_option, list_any}
use Rattle.std.proofs.lemmas.Bool.{or_cases, or_left, or_right}
use Rattle.std.proofs.lemmas.Slice.Eq.{bytes_eq-Decides}
use Rattle.pcr_banks.specs.declared.alg.Alg.{Alg}
use Rattle.pcr_banks.specs.declared.digest.Digest.{Digest}
use Rattle.pcr_banks.specs.Names.{alg_of, bytes_of, digest_of, same_alg}
use Rattle.pcr_banks.proofs.AlgLaws.{same_alg_here, same_alg_is}
use Rattle.pcr_banks.proofs.SetLaws.{digest_again}
use Rattle.known_files.specs.DigestLines.{IsDigestLine, digest_on}
use Rattle.known_files.specs.Listing.{IsListed, OneSays, bytes_by, is_listed, lines_of, lists, said_by}
use Rattle.known_files.proofs.DigestLineLaws.{says_again, says_read}

same_digest : (digest other : Digest) → alg_of digest ≡ alg_of other → bytes_of digest ≡ bytes_of other → digest ≡ other
same_digest digest other algs bytes =
    sym (digest_again digest) ∙ ap (λ (a : Alg). digest_of a (bytes_of digest)) algs
    ∙ ap (λ (b : List ℕ). digest_of (alg_of other) b) bytes ∙ digest_again other

bytes_same : (bytes : List ℕ) → bytes_eq bytes bytes ≡ true
bytes_same bytes = (bytes_eq-Decides bytes bytes).1 refl

-- Whether the digest is among those of the lines.
abbrev among : Digest → List (List ℕ) → Bool
among digest bytes = list_any (bytes_eq (bytes_of digest)) bytes

-- ---- from the test to the relation

line_by : (line : List ℕ) (digest said : Digest) (more : List (List ℕ)) (same : Bool) → digest_on line ≡ Some said
    → same_alg (alg_of said) (alg_of digest) ≡ same
    → among digest (cons_option (if same then Some (bytes_of said) else None) more) ≡ true
    → IsDigestLine line digest ⊎ (among digest more ≡ true)
line_by line digest said more false is other e = inr e
line_by line digest said more true is algs e =
    elim (or_cases (bytes_eq (bytes_of digest) (bytes_of said)) (among digest more) e) [
      | inl here ↦ inl (says_read line digest (is ∙ ap (λ (d : Digest). Some d)
          (same_digest said digest (same_alg_is (alg_of said) (alg_of digest) algs)
          (sym ((bytes_eq-Decides (bytes_of digest) (bytes_of said)).0 here)))))
      | inr there ↦ inr there
    ]

line_read : (line : List ℕ) (digest : Digest) (more : List (List ℕ)) (said : Option Digest) → digest_on line ≡ said
    → among digest (cons_option (bytes_by (alg_of digest) said) more) ≡ true → IsDigestLine line digest ⊎ (among digest more ≡ true)
line_read line digest more None is e = inr e
line_read line digest more (Some said) is e = line_by line digest said more (same_alg (alg_of said) (alg_of digest)) is refl e

one_says : (lines : List (List ℕ)) (digest : Digest) → among digest (said_by (alg_of digest) lines) ≡ true → OneSays lines digest
one_says [] digest e = absurd cc
one_says (line ∷ lines) digest e =
    elim (line_read line digest (said_by (alg_of digest) lines) (digest_on line) refl e) [
      | inl here ↦ inl here
      | inr there ↦ inr (one_says lines digest there)
    ]

listed : (texts : List (List ℕ)) (digest : Digest) → is_listed texts digest ≡ true → IsListed texts digest
listed [] digest e = absurd cc
listed (text ∷ texts) digest e =
    elim (or_cases (lists text digest) (is_listed texts digest) e) [
      | inl here ↦ inl (one_says (lines_of text) digest here)
      | inr there ↦ inr (listed texts digest there)
    ]

-- ---- and back

line_again : (line : List ℕ) (digest : Digest) (more : List (List ℕ)) → digest_on line ≡ Some digest
    → among digest (cons_option (bytes_by (alg_of digest) (digest_on line)) more) ≡ true
line_again line digest more is =
    rw (is, same_alg_here (alg_of digest)) (or_left (bytes_eq (bytes_of digest) (bytes_of digest)) (among digest more) (bytes_same (bytes_of digest)))

more_among : (digest : Digest) (first : Option (List ℕ)) (more : List (List ℕ)) → among digest more ≡ true
    → among digest (cons_option first more) ≡ true
more_among digest None more e = e
more_among digest (Some bytes) more e = or_right (bytes_eq (bytes_of digest) bytes) (among digest more) e

says_one : (lines : List (List ℕ)) (digest : Digest) → OneSays lines digest → among digest (said_by (alg_of digest) lines) ≡ true
says_one [] digest says = absurd says
says_one (line ∷ lines) digest (inl here) = line_again line digest (said_by (alg_of digest) lines) (says_again line digest here)
says_one (line ∷ lines) digest (inr there) =
    more_among digest (bytes_by (alg_of digest) (digest_on line)) (said_by (alg_of digest) lines) (says_one lines digest there)

listed_again : (texts : List (List ℕ)) (digest : Digest) → IsListed texts digest → is_listed texts digest ≡ true
listed_again [] digest listed = absurd listed
listed_again (text ∷ texts) digest (inl here) = or_left (lists text digest) (is_listed texts digest) (says_one (lines_of text) digest here)
listed_again (text ∷ texts) digest (inr there) = or_right (lists text digest) (is_listed texts digest) (listed_again texts digest there)

pub listed_iff : (texts : List (List ℕ)) (digest : Digest) → (is_listed texts digest ≡ true) ↔ IsListed texts digest
listed_iff texts digest = (listed texts digest, listed_again texts digest)

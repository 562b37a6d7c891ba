-- Quotes: what is read is what was spelled, and what is spelled is read.
use Rattle.std.proofs.Common.{◌≡◌, ℕ, ◌^◌, ◌<◌, Bool, true, false, cond, eqb, not, List, ◌++◌, length, Option, Some, None, Result, Ok, Err, refl, sym, ap, ◌∙◌, append_assoc, arith, inl, inr}
use Rattle.std.specs.Prelude.{flat_map, ok_or, bytes_eq, IfOk, IfErr}
use Rattle.std.specs.Int.{w32, w64, to_be_bytes}
use Rattle.std.specs.Result.{result_err}
use Rattle.std.proofs.lemmas.Bool.{not-false}
use Rattle.std.proofs.lemmas.Bool.Decides.{eqb_tells}
use Rattle.std.proofs.lemmas.Slice.Eq.{bytes_eq-Decides}
use Rattle.byte_fields.specs.Reading.{Reads}
use Rattle.byte_fields.proofs.Steps.{IsBytes, ok_is, ok_or_ok}
use Rattle.byte_fields.proofs.FormatLaws.{Exact, big16_exact, big32_exact, big64_exact, byte_exact, passes, part_exact, sized_by_exact, followed_exact, unless_exact, mapped_exact, viewed_exact, whole_again, whole_takes}
use Rattle.pcr_banks.specs.declared.alg.Alg.TheVariants.{Sha256, Sha384, Sha512}
use Rattle.pcr_banks.specs.declared.digest.Digest.{Digest}
use Rattle.pcr_banks.specs.Names.{bytes_of, digest_of}
use Rattle.tpm_quotes.specs.declared.fault.QuoteFault.{QuoteFault}
use Rattle.tpm_quotes.specs.declared.fault.QuoteFault.TheVariants.{Truncated, NotQuote, BadClock, DigestSize, Trailing}
use Rattle.tpm_quotes.specs.declared.quote.Quote.{Quote}
use Rattle.tpm_quotes.specs.declared.quote.Clock.{Clock}
use Rattle.tpm_quotes.specs.Spelling.{IsClock, IsQuote, TpmQuote, clock_spelling, digest_with, quote_head, quote_of, quote_spelling, selection_spelling, sized16, yes_no}
use Rattle.tpm_quotes.specs.Reading.{clock, digest, flag, flag_with, origin, quote, quote_fault, quote_in, sized, times}
use Rattle.tpm_quotes.proofs.SelectionLaws.{AnyFault, any_refusal, are_selections, selections_are, selections_exact, selections_spelled}

sized_is_exact : Exact AnyFault sized
unfolding sized
sized_is_exact = sized_by_exact Truncated tt (big16_exact {P = AnyFault} Truncated tt)

is_sized : (xs : List ℕ) → length xs < 2 ^ 16 → sized.Is xs
unfolding sized
is_sized xs lt = ((lt, refl), refl)

sized_fits : (xs : List ℕ) → sized.Is xs → length xs < 2 ^ 16
unfolding sized
sized_fits xs is = is.0.0

sized_spelled : (xs : List ℕ) → sized.spell xs ≡ sized16 xs
unfolding sized
sized_spelled xs = refl

-- ---- what it begins with

is_head : (xs : List ℕ) → not (bytes_eq xs quote_head) ≡ false → xs ≡ quote_head
is_head xs e = (bytes_eq-Decides xs quote_head).0 (not-false (bytes_eq xs quote_head) e)

origin_exact : Exact AnyFault origin
unfolding origin
origin_exact =
    mapped_exact (λ x is. ap (λ (xs : List ℕ). (xs, x.1)) (sym (is_head x.0 (passes _ NotQuote x.0 x.0 is.0.1))))
    (followed_exact (unless_exact _ NotQuote tt (part_exact Truncated 6 tt)) (λ h. followed_exact sized_is_exact (λ s. sized_is_exact)))

-- ---- the clock

abbrev the_flag : Bool → Option Bool
the_flag b = Some b

same_flag : (b c : Bool) → the_flag b ≡ the_flag c → b ≡ c
same_flag b c e = cc

no_flag : (b : Bool) → None ≡ the_flag b → ⊥
no_flag b e = cc

told_flag : (n : ℕ) (b : Bool) → flag_with n ≡ Some b → n ≡ yes_no b
told_flag n b e =
    elim (eqb_tells n 1) [
      | inl one ↦ one.1 ∙ ap yes_no (same_flag true b (rw one.0 at e))
      | inr other ↦ elim (eqb_tells n 0) [
        | inl zero_is ↦ zero_is.1 ∙ ap yes_no (same_flag false b (rw (other.0, zero_is.0) at e))
        | inr neither ↦ absurd (no_flag b (rw (other.0, neither.0) at e))
      ]
    ]

flag_exact : Exact AnyFault flag
unfolding flag
flag_exact =
    viewed_exact (λ n b is e. told_flag n b (ok_or_ok (flag_with n) BadClock b e)) (λ n. any_refusal (ok_or (flag_with n) BadClock))
    (byte_exact Truncated tt)

flag_is : (b : Bool) → flag.Is b
unfolding flag
flag_is true = (omega arith, refl)
flag_is false = (omega arith, refl)

clock_exact : Exact AnyFault clock
unfolding clock
clock_exact =
    mapped_exact (λ x is. refl)
    (followed_exact (big64_exact Truncated tt) (λ m. followed_exact (big32_exact Truncated tt) (λ r. followed_exact (big32_exact Truncated tt) (λ s.
    flag_exact))))

clock_is : (c : Clock) → IsClock c → clock.Is c
unfolding clock
clock_is c is = ((is.milliseconds_fit, (is.resets_fit, (is.restarts_fit, flag_is c.is_safe))), refl)

clock_fits : (c : Clock) → clock.Is c → IsClock c
unfolding clock
clock_fits c is = record { milliseconds_fit = is.0.0; resets_fit = is.0.1.0; restarts_fit = is.0.1.1.0 }

clock_spelled : (c : Clock) → clock.spell c ≡ clock_spelling c
unfolding clock flag
clock_spelled c = refl

times_exact : Exact AnyFault times
unfolding times
times_exact = followed_exact clock_exact (λ c. big64_exact Truncated tt)

-- ---- the digest

abbrev the_digest : Digest → Option Digest
the_digest d = Some d

some_is : (c d : Digest) → the_digest c ≡ the_digest d → c ≡ d
some_is c d e = cc

no_digest : (d : Digest) → None ≡ the_digest d → ⊥
no_digest d e = cc

told_choice : (a b c : Bool) (xs : List ℕ) (d : Digest)
    → cond a (Some (digest_of Sha256 xs)) (cond b (Some (digest_of Sha384 xs)) (cond c (Some (digest_of Sha512 xs)) None)) ≡ Some d
    → xs ≡ bytes_of d
told_choice true b c xs d e = ap bytes_of (some_is (digest_of Sha256 xs) d e)
told_choice false true c xs d e = ap bytes_of (some_is (digest_of Sha384 xs) d e)
told_choice false false true xs d e = ap bytes_of (some_is (digest_of Sha512 xs) d e)
told_choice false false false xs d e = absurd cc

pub told_digest : (xs : List ℕ) (d : Digest) → digest_with xs ≡ Some d → xs ≡ bytes_of d
told_digest xs d e = told_choice (eqb (length xs) 32) (eqb (length xs) 48) (eqb (length xs) 64) xs d e

digest_fits : (xs : List ℕ) (d : Digest) → digest_with xs ≡ Some d → length xs < 2 ^ 16
digest_fits xs d e =
    elim (eqb_tells (length xs) 32) [
      | inl same ↦ omega (arith, same.1)
      | inr a ↦ elim (eqb_tells (length xs) 48) [
        | inl same ↦ omega (arith, same.1)
        | inr b ↦ elim (eqb_tells (length xs) 64) [
          | inl same ↦ omega (arith, same.1)
          | inr c ↦ absurd (no_digest d (rw (a.0, b.0, c.0) at e))
        ]
      ]
    ]

digest_exact : Exact AnyFault digest
unfolding digest
digest_exact =
    viewed_exact (λ xs d is e. told_digest xs d (ok_or_ok (digest_with xs) DigestSize d e))
    (λ xs. any_refusal (ok_or (digest_with xs) DigestSize)) sized_is_exact

-- ---- the quote

quote_exact : Exact AnyFault quote
unfolding quote
quote_exact =
    mapped_exact (λ x is. refl) (followed_exact origin_exact (λ o. followed_exact times_exact (λ t.
    followed_exact selections_exact (λ s. digest_exact))))

regrouped : (head signer nonce clock firmware count registers digest : List ℕ)
    → (head ++ (signer ++ nonce)) ++ ((clock ++ firmware) ++ ((count ++ registers) ++ digest))
    ≡ head ++ (signer ++ (nonce ++ (clock ++ (firmware ++ (count ++ (registers ++ digest))))))
regrouped head signer nonce clock firmware count registers digest = simp append_assoc

spelled : (q : TpmQuote) → quote.spell q ≡ quote_spelling q
unfolding quote origin times digest
spelled q =
    rw (selections_spelled q.selections, clock_spelled q.clock, sized_spelled q.signer, sized_spelled q.nonce, sized_spelled (bytes_of q.digest))
    (regrouped quote_head (sized16 q.signer) (sized16 q.nonce) (clock_spelling q.clock) (to_be_bytes w64 q.firmware) (to_be_bytes w32 (length q.selections))
    (flat_map selection_spelling q.selections) (sized16 (bytes_of q.digest)))

pub quote_is : (bytes : List ℕ) (q : TpmQuote) → IsBytes bytes → quote_in bytes ≡ Ok q → IsQuote bytes q
unfolding quote_in quote origin times digest
quote_is bytes q fits e =
    let taken = whole_takes Trailing quote_exact bytes q fits e in
    let is = taken.0.0 in
    record {
      signer_fits = sized_fits q.signer is.0.0.1.0;
      nonce_fits = sized_fits q.nonce is.0.0.1.1;
      clock_fits = clock_fits q.clock is.1.0.0;
      firmware_fits = is.1.0.1;
      selections_are = selections_are q.selections is.1.1.0;
      digest_told = ok_or_ok (digest_with (bytes_of q.digest)) DigestSize q.digest is.1.1.1.1;
      spelled = taken.1 ∙ spelled q;
    }

pub is_quote : (bytes : List ℕ) (q : TpmQuote) → IsQuote bytes q → quote_in bytes ≡ Ok q
unfolding quote_in quote origin times digest
is_quote bytes q is =
    let fits = digest_fits (bytes_of q.digest) q.digest is.digest_told in
    let origin_is : origin.Is (q.signer, q.nonce) = (((refl, refl), (is_sized q.signer is.signer_fits, is_sized q.nonce is.nonce_fits)), refl) in
    let digest_is : digest.Is q.digest = (is_sized (bytes_of q.digest) fits, rw is.digest_told refl) in
    whole_again Trailing quote_exact bytes q
    ((origin_is, ((clock_is q.clock is.clock_fits, is.firmware_fits), (are_selections q.selections is.selections_are, digest_is))), refl)
    (is.spelled ∙ sym (spelled q))

-- A quote has one reading.
pub one_reading : (bytes : List ℕ) (first second : TpmQuote) → IsQuote bytes first → IsQuote bytes second → first ≡ second
one_reading bytes first second is also = ok_is first second (sym (is_quote bytes first is) ∙ is_quote bytes second also)

-- ---- what the reader gives

pub found : (bytes : List ℕ) (r : Result Quote QuoteFault) → IsBytes bytes → Reads quote_of r (quote_in bytes)
    → IfOk r (λ q. IsQuote bytes (quote_of q))
found bytes (Ok q) fits e = quote_is bytes (quote_of q) fits e
found bytes (Err fault) fits e = tt

pub refused : (bytes : List ℕ) (r : Result Quote QuoteFault) → Reads quote_of r (quote_in bytes)
    → IfErr r (λ fault. quote_fault bytes ≡ Some fault)
refused bytes (Ok q) e = tt
refused bytes (Err fault) e = ap result_err e

pub given : (bytes : List ℕ) (r : Result Quote QuoteFault) (q : TpmQuote) → Reads quote_of r (quote_in bytes) → IsQuote bytes q
    → Reads quote_of r (Ok q)
given bytes (Ok x) q e is = sym (is_quote bytes q is) ∙ e
given bytes (Err fault) q e is = sym (is_quote bytes q is) ∙ e

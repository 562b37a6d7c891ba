-- Where the numbers of a key stand in its SubjectPublicKeyInfo.
use Rattle.std.proofs.Common.{◌≡◌, ◌≢◌, ℕ, zero, suc, ◌+◌, ◌-◌, ◌/◌, ◌%◌, ◌^◌, ◌<◌, ◌≤◌, Bool, true, false, cond, eqb, ltb, List, [], ◌∷◌, ◌++◌, length, drop, take, replicate, Option, Some, None, refl, ap, ap₂, sym, subst, ◌∙◌, arith, length-append, lit<, inl, inr, option_map}
use Rattle.std.specs.Prelude.{slice_index}
use Rattle.std.specs.Int.{byte_at, w64, to_be_bytes}
use Rattle.std.specs.List.{list_all}
use Rattle.std.proofs.Math.Nat.{div-eq_of_lt, pow-le-pow_right}
use Rattle.std.proofs.lemmas.Bool.{and_parts, eqb-true, le-ltb, lt-ltb, ltb-false, ltb-true}
use Rattle.std.proofs.lemmas.Bool.Decides.{eqb_tells}
use Rattle.std.proofs.lemmas.List.{take_at}
use Rattle.byte_fields.specs.Spelling.{IsBytes}
use Rattle.tpm_keys.specs.declared.kinds.Curve.{Curve}
use Rattle.tpm_keys.specs.declared.kinds.Curve.TheVariants.{P256, P384, P521}
use Rattle.tpm_keys.specs.Kinds.{coordinate_size}
use Rattle.tpm_keys.specs.KeyInfo.{algorithm_of, bit_string, der, integer, key_bytes, key_info, padded, sequence, without_zeros}
use Rattle.tpm_keys.specs.Spelling.{KeyNumbers, RsaNumbers, EccNumbers}
use Rattle.signed_messages.specs.Keys.{MessageKey, key_alone}
use Rattle.signed_messages.specs.KeyTexts.{AreBytes}

-- ---- lengths in DER

zero_goes : (b : ℕ) (bs : List ℕ) → b ≡ 0 → without_zeros (b ∷ bs) ≡ without_zeros bs
unfolding without_zeros
zero_goes b bs e = rw e refl

other_stays : (b : ℕ) (bs : List ℕ) → 0 < b → without_zeros (b ∷ bs) ≡ b ∷ bs
unfolding without_zeros
other_stays b bs lt = elim (eqb_tells b 0) [
  | inl none ↦ absurd (omega (arith, none.1, lt))
  | inr other ↦ rw other.0 refl
]

no_byte : (k n : ℕ) → n < 65536 → 1 ≤ k → byte_at (suc k) n ≡ 0
no_byte k n lt some =
    let more : 2 ≤ suc k = omega (arith, some) in
    let high : 256 ^ 2 ≤ 256 ^ suc k = pow-le-pow_right (lit< tt) more in
    let none : n / 256 ^ suc k ≡ 0 = div-eq_of_lt (omega (arith, high, lt)) in
    ap (λ (q : ℕ). q % 256) none

-- The two bytes of a number.
pub two_bytes : (n : ℕ) → 256 ≤ n → n < 65536 → without_zeros (to_be_bytes w64 n) ≡ byte_at 1 n ∷ byte_at 0 n ∷ []
two_bytes n low high =
    zero_goes (byte_at 7 n) _ (no_byte 6 n high (lit< tt))
    ∙ zero_goes (byte_at 6 n) _ (no_byte 5 n high (lit< tt))
    ∙ zero_goes (byte_at 5 n) _ (no_byte 4 n high (lit< tt))
    ∙ zero_goes (byte_at 4 n) _ (no_byte 3 n high (lit< tt))
    ∙ zero_goes (byte_at 3 n) _ (no_byte 2 n high (lit< tt))
    ∙ zero_goes (byte_at 2 n) _ (no_byte 1 n high (lit< tt))
    ∙ other_stays (byte_at 1 n) _ (omega (arith, low, high))

-- A value whose content has from 256 to 65,535 bytes.
abbrev framed : ℕ → ℕ → List ℕ → List ℕ
framed tag size content = tag ∷ 0x82 ∷ byte_at 1 size ∷ byte_at 0 size ∷ content

long_der : (tag : ℕ) (content : List ℕ) (size : ℕ) → length content ≡ size → 256 ≤ size → size < 65536 → der tag content ≡ framed tag size content
long_der tag content size e low high =
    rw (e, le-ltb size 0x80 (omega (arith, low)), two_bytes size low high) refl

short_der : (tag : ℕ) (content : List ℕ) (size : ℕ) → length content ≡ size → size < 0x80 → der tag content ≡ tag ∷ size ∷ content
short_der tag content size e low = rw (e, lt-ltb size 0x80 low) refl

-- ---- an RSA key

abbrev exponent : List ℕ
exponent = 0x02 ∷ 3 ∷ 0x01 ∷ 0x00 ∷ 0x01 ∷ []

abbrev rsa_algorithm : List ℕ
rsa_algorithm = algorithm_of (RsaNumbers 65537 [])

-- That of a key whose modulus has so many bytes. The modulus comes behind 33 bytes, before its exponent.
abbrev pub rsa_info : ℕ → List ℕ → List ℕ
rsa_info size modulus =
    framed 0x30 (size + 34) (rsa_algorithm ++ framed 0x03 (size + 15) (0 ∷ framed 0x30 (size + 10)
    (framed 0x02 (size + 1) (0 ∷ modulus) ++ exponent)))

rsa_laid : (e : ℕ) (m : List ℕ) → 128 ≤ slice_index m 0 → 256 ≤ length m → length m ≤ 512 → key_info (RsaNumbers e m) ≡ rsa_info (length m) m
rsa_laid e m first low high =
    let n = length m in
    let sum : length (m ++ exponent) ≡ n + 5 = length-append m exponent in
    let number : integer m ≡ framed 0x02 (n + 1) (0 ∷ m) =
    rw (le-ltb (slice_index m 0) 0x80 first) (long_der 0x02 (0 ∷ m) (n + 1) (omega arith) (omega (arith, low)) (omega (arith, high))) in
    let body = framed 0x02 (n + 1) (0 ∷ m) ++ exponent in
    let bytes : key_bytes (RsaNumbers e m) ≡ framed 0x30 (n + 10) body =
    ap (λ (xs : List ℕ). sequence (xs ++ exponent)) number
    ∙ long_der 0x30 body (n + 10) (omega (arith, sum)) (omega (arith, low)) (omega (arith, high)) in
    let inner = framed 0x30 (n + 10) body in
    let bits : bit_string (key_bytes (RsaNumbers e m)) ≡ framed 0x03 (n + 15) (0 ∷ inner) =
    ap bit_string bytes ∙ long_der 0x03 (0 ∷ inner) (n + 15) (omega (arith, sum)) (omega (arith, low)) (omega (arith, high)) in
    let content = rsa_algorithm ++ framed 0x03 (n + 15) (0 ∷ inner) in
    ap (λ (xs : List ℕ). sequence (rsa_algorithm ++ xs)) bits
    ∙ long_der 0x30 content (n + 34) (omega (arith, sum)) (omega (arith, low)) (omega (arith, high))

-- ---- a key on a curve

pub whole_coordinate : (c : Curve) (x : List ℕ) → length x ≡ coordinate_size c → padded c x ≡ x
whole_coordinate c x e =
    let none : coordinate_size c - length x ≡ 0 = omega (arith, e) in
    ap (λ (k : ℕ). replicate k 0 ++ x) none

abbrev pub p256_info : List ℕ → List ℕ
p256_info point = 0x30 ∷ 89 ∷ (algorithm_of (EccNumbers P256 [] []) ++ (0x03 ∷ 66 ∷ 0 ∷ 0x04 ∷ point))

abbrev pub p384_info : List ℕ → List ℕ
p384_info point = 0x30 ∷ 118 ∷ (algorithm_of (EccNumbers P384 [] []) ++ (0x03 ∷ 98 ∷ 0 ∷ 0x04 ∷ point))

p256_laid : (x y : List ℕ) → length x ≡ 32 → length y ≡ 32 → key_info (EccNumbers P256 x y) ≡ p256_info (x ++ y)
p256_laid x y x_size y_size =
    let sum : length (x ++ y) ≡ 64 = omega (arith, length-append x y, x_size, y_size) in
    let algorithm = algorithm_of (EccNumbers P256 [] []) in
    let bits : bit_string (key_bytes (EccNumbers P256 x y)) ≡ 0x03 ∷ 66 ∷ 0 ∷ 0x04 ∷ (x ++ y) =
    ap₂ (λ (a b : List ℕ). bit_string (0x04 ∷ (a ++ b))) (whole_coordinate P256 x x_size) (whole_coordinate P256 y y_size)
    ∙ short_der 0x03 (0 ∷ 0x04 ∷ (x ++ y)) 66 (omega (arith, sum)) (lit< tt) in
    ap (λ (xs : List ℕ). sequence (algorithm ++ xs)) bits
    ∙ short_der 0x30 (algorithm ++ (0x03 ∷ 66 ∷ 0 ∷ 0x04 ∷ (x ++ y))) 89 (omega (arith, sum)) (lit< tt)

p384_laid : (x y : List ℕ) → length x ≡ 48 → length y ≡ 48 → key_info (EccNumbers P384 x y) ≡ p384_info (x ++ y)
p384_laid x y x_size y_size =
    let sum : length (x ++ y) ≡ 96 = omega (arith, length-append x y, x_size, y_size) in
    let algorithm = algorithm_of (EccNumbers P384 [] []) in
    let bits : bit_string (key_bytes (EccNumbers P384 x y)) ≡ 0x03 ∷ 98 ∷ 0 ∷ 0x04 ∷ (x ++ y) =
    ap₂ (λ (a b : List ℕ). bit_string (0x04 ∷ (a ++ b))) (whole_coordinate P384 x x_size) (whole_coordinate P384 y y_size)
    ∙ short_der 0x03 (0 ∷ 0x04 ∷ (x ++ y)) 98 (omega (arith, sum)) (lit< tt) in
    ap (λ (xs : List ℕ). sequence (algorithm ++ xs)) bits
    ∙ short_der 0x30 (algorithm ++ (0x03 ∷ 98 ∷ 0 ∷ 0x04 ∷ (x ++ y))) 118 (omega (arith, sum)) (lit< tt)

-- ---- a key that is taken

abbrev the_some : {X : Type 0} → X → Option X
the_some x = Some x

map_some : {X Y : Type 0} (f : X → Y) (o : Option X) (y : Y) → option_map f o ≡ the_some y → (x : X) × (o ≡ Some x)
map_some f (Some x) y e = (x, refl)
map_some f None y e = absurd cc

unless_some : {X : Type 0} (b : Bool) (o : Option X) (x : X) → cond b None o ≡ the_some x → (b ≡ false) × (o ≡ Some x)
unless_some true o x e = absurd cc
unless_some false o x e = (refl, e)

where_some : {X : Type 0} (b : Bool) (o : Option X) (x : X) → cond b o None ≡ the_some x → (b ≡ true) × (o ≡ Some x)
where_some true o x e = (refl, e)
where_some false o x e = absurd cc

-- The numbers stand in these bytes.
abbrev pub IsLaidOut : KeyNumbers → List ℕ → Type 0
IsLaidOut (RsaNumbers e m) info = (e ≡ 65537) × (256 ≤ length m) × (length m ≤ 512) × (info ≡ rsa_info (length m) m)
IsLaidOut (EccNumbers P256 x y) info = (length x ≡ 32) × (length y ≡ 32) × (info ≡ p256_info (x ++ y))
IsLaidOut (EccNumbers P384 x y) info = (length x ≡ 48) × (length y ≡ 48) × (info ≡ p384_info (x ++ y))
IsLaidOut (EccNumbers P521 x y) info = ⊥

pub is_laid_out : (numbers : KeyNumbers) (key : MessageKey) → key_alone numbers ≡ Some key → IsLaidOut numbers (key_info numbers)
is_laid_out (RsaNumbers e m) key known =
    let exponent = where_some (eqb e 65537) _ key known in
    let found = map_some _ _ key exponent.1 in
    let first = unless_some (ltb (slice_index m 0) 0x80) _ found.0 found.1 in
    let low = unless_some (ltb (length m) 256) _ found.0 first.1 in
    let high = unless_some (ltb 512 (length m)) _ found.0 low.1 in
    let is_first = ltb-false (slice_index m 0) 0x80 first.0 in
    let is_low = ltb-false (length m) 256 low.0 in
    let is_high = ltb-false 512 (length m) high.0 in
    (eqb-true e 65537 exponent.0, is_low, is_high, rsa_laid e m is_first is_low is_high)
is_laid_out (EccNumbers P256 x y) key known =
    let found = map_some _ _ key known in
    let sizes = where_some _ _ found.0 found.1 in
    let both = and_parts (eqb (length x) 32) (eqb (length y) 32) sizes.0 in
    let x_size = eqb-true (length x) 32 both.0 in
    let y_size = eqb-true (length y) 32 both.1 in
    (x_size, y_size, p256_laid x y x_size y_size)
is_laid_out (EccNumbers P384 x y) key known =
    let found = map_some _ _ key known in
    let sizes = where_some _ _ found.0 found.1 in
    let both = and_parts (eqb (length x) 48) (eqb (length y) 48) sizes.0 in
    let x_size = eqb-true (length x) 48 both.0 in
    let y_size = eqb-true (length y) 48 both.1 in
    (x_size, y_size, p384_laid x y x_size y_size)
is_laid_out (EccNumbers P521 x y) key known = absurd cc

-- What is the SubjectPublicKeyInfo of such a key.
pub laid_out : (numbers : KeyNumbers) (key : MessageKey) (info : List ℕ) → key_alone numbers ≡ Some key → info ≡ key_info numbers
    → IsLaidOut numbers info
laid_out numbers key info known e = subst (λ (xs : List ℕ). IsLaidOut numbers xs) (sym e) (is_laid_out numbers key known)

-- ---- by the number of bytes

-- A key's numbers, and the bytes that are behind so many of its SubjectPublicKeyInfo.
pub record IsPoint (curve : Curve) (size behind : ℕ) (numbers : KeyNumbers) (info : List ℕ) : Type 0 where
  pub x : List ℕ
  pub y : List ℕ
  pub is : EccNumbers curve x y ≡ numbers
  pub place : drop behind info ≡ x ++ y
  pub same_size : length x ≡ length y

rsa_size : (m : List ℕ) → length (rsa_info (length m) m) ≡ length m + 38
rsa_size m = omega (arith, length-append m exponent)

p256_size : (x y : List ℕ) → length x ≡ 32 → length y ≡ 32 → length (p256_info (x ++ y)) ≡ 91
p256_size x y x_size y_size = omega (arith, length-append x y, x_size, y_size)

p384_size : (x y : List ℕ) → length x ≡ 48 → length y ≡ 48 → length (p384_info (x ++ y)) ≡ 120
p384_size x y x_size y_size = omega (arith, length-append x y, x_size, y_size)

abbrev size_of : List ℕ → ℕ
size_of xs = length xs

pub has_91 : (numbers : KeyNumbers) (info : List ℕ) → IsLaidOut numbers info → length info ≡ 91 → IsPoint P256 32 27 numbers info
has_91 (RsaNumbers e m) info is size = absurd (omega (arith, ap size_of is.3, rsa_size m, size, is.1))
has_91 (EccNumbers P256 x y) info is size = record {
  x = x;
  y = y;
  is = refl;
  place = ap (drop 27) is.2;
  same_size = is.0 ∙ sym is.1;
}
has_91 (EccNumbers P384 x y) info is size = absurd (omega (arith, ap size_of is.2, p384_size x y is.0 is.1, size))
has_91 (EccNumbers P521 x y) info is size = absurd is

pub has_120 : (numbers : KeyNumbers) (info : List ℕ) → IsLaidOut numbers info → length info ≡ 120 → IsPoint P384 48 24 numbers info
has_120 (RsaNumbers e m) info is size = absurd (omega (arith, ap size_of is.3, rsa_size m, size, is.1))
has_120 (EccNumbers P256 x y) info is size = absurd (omega (arith, ap size_of is.2, p256_size x y is.0 is.1, size))
has_120 (EccNumbers P384 x y) info is size = record {
  x = x;
  y = y;
  is = refl;
  place = ap (drop 24) is.2;
  same_size = is.0 ∙ sym is.1;
}
has_120 (EccNumbers P521 x y) info is size = absurd is

-- The numbers of an RSA key, as they are taken from its bytes.
pub is_rsa : (numbers : KeyNumbers) (info : List ℕ) → IsLaidOut numbers info → length info ≢ 91 → length info ≢ 120
    → RsaNumbers 65537 (take (length info - 5 - 33) (drop 33 info)) ≡ numbers
is_rsa (RsaNumbers e m) info is not_256 not_384 =
    let size : length info - 5 - 33 ≡ length m = omega (arith, ap size_of is.3, rsa_size m) in
    let place : drop 33 info ≡ m ++ exponent = ap (drop 33) is.3 in
    let taken : take (length info - 5 - 33) (drop 33 info) ≡ m =
    ap (λ (xs : List ℕ). take (length info - 5 - 33) xs) place ∙ take_at m exponent (length info - 5 - 33) (sym size) in
    ap₂ (λ (e : ℕ) (m : List ℕ). RsaNumbers e m) (sym is.0) taken
is_rsa (EccNumbers P256 x y) info is not_256 not_384 = absurd (not_256 (ap size_of is.2 ∙ p256_size x y is.0 is.1))
is_rsa (EccNumbers P384 x y) info is not_256 not_384 = absurd (not_384 (ap size_of is.2 ∙ p384_size x y is.0 is.1))
is_rsa (EccNumbers P521 x y) info is not_256 not_384 = absurd is

pub none_short : (numbers : KeyNumbers) (info : List ℕ) → IsLaidOut numbers info → length info < 38 → ⊥
none_short (RsaNumbers e m) info is short = absurd (omega (arith, ap size_of is.3, rsa_size m, short))
none_short (EccNumbers P256 x y) info is short = absurd (omega (arith, ap size_of is.2, p256_size x y is.0 is.1, short))
none_short (EccNumbers P384 x y) info is short = absurd (omega (arith, ap size_of is.2, p384_size x y is.0 is.1, short))
none_short (EccNumbers P521 x y) info is short = is

-- ---- bytes

abbrev are_bytes : List ℕ → Bool
are_bytes xs = list_all (λ b. ltb b 256) xs

IsBytes-cons : (b : ℕ) (bs : List ℕ) → b < 256 → IsBytes bs → IsBytes (b ∷ bs)
IsBytes-cons b bs lt fits zero = omega (arith, lt)
IsBytes-cons b bs lt fits (suc i) = fits i

IsBytes-append : (xs ys : List ℕ) → are_bytes xs ≡ true → IsBytes ys → IsBytes (xs ++ ys)
IsBytes-append [] ys test fits = fits
IsBytes-append (x ∷ xs) ys test fits =
    let parts = and_parts (ltb x 256) (are_bytes xs) test in
    IsBytes-cons x (xs ++ ys) (ltb-true x 256 parts.0) (IsBytes-append xs ys parts.1 fits)

IsBytes-join : (xs ys : List ℕ) → IsBytes xs → IsBytes ys → IsBytes (xs ++ ys)
IsBytes-join [] ys fits also = also
IsBytes-join (x ∷ xs) ys fits also = IsBytes-cons x (xs ++ ys) (omega (arith, fits 0)) (IsBytes-join xs ys (λ i. fits (suc i)) also)

low_byte : (k n : ℕ) → byte_at k n < 256
low_byte zero n = omega arith
low_byte (suc k) n = omega arith

framed_bytes : (tag size : ℕ) (content : List ℕ) → tag < 256 → IsBytes content → IsBytes (framed tag size content)
framed_bytes tag size content lt fits =
    let low = IsBytes-cons (byte_at 0 size) content (low_byte 0 size) fits in
    let both = IsBytes-cons (byte_at 1 size) (byte_at 0 size ∷ content) (low_byte 1 size) low in
    IsBytes-cons tag (0x82 ∷ byte_at 1 size ∷ byte_at 0 size ∷ content) lt
    (IsBytes-cons 0x82 (byte_at 1 size ∷ byte_at 0 size ∷ content) (lit< tt) both)

rsa_bytes : (size : ℕ) (m : List ℕ) → IsBytes m → IsBytes (rsa_info size m)
rsa_bytes size m fits =
    let number = 0 ∷ (m ++ exponent) in
    let key = framed 0x30 (size + 10) (framed 0x02 (size + 1) number) in
    let info = rsa_algorithm ++ framed 0x03 (size + 15) (0 ∷ key) in
    let number_bytes : IsBytes number =
    IsBytes-cons 0 (m ++ exponent) (lit< tt) (IsBytes-join m exponent fits (IsBytes-append exponent [] refl (λ i. lit< tt))) in
    let key_bytes : IsBytes key =
    framed_bytes 0x30 (size + 10) (framed 0x02 (size + 1) number) (lit< tt) (framed_bytes 0x02 (size + 1) number (lit< tt) number_bytes) in
    let info_bytes : IsBytes info =
    IsBytes-append rsa_algorithm (framed 0x03 (size + 15) (0 ∷ key)) refl
    (framed_bytes 0x03 (size + 15) (0 ∷ key) (lit< tt) (IsBytes-cons 0 key (lit< tt) key_bytes)) in
    framed_bytes 0x30 (size + 34) info (lit< tt) info_bytes

-- The SubjectPublicKeyInfo of a key whose numbers are bytes are bytes.
pub laid_bytes : (numbers : KeyNumbers) (info : List ℕ) → IsLaidOut numbers info → AreBytes numbers → IsBytes info
laid_bytes (RsaNumbers e m) info is fits = subst IsBytes (sym is.3) (rsa_bytes (length m) m fits)
laid_bytes (EccNumbers P256 x y) info is fits =
    subst IsBytes (sym is.2) (IsBytes-append (p256_info []) (x ++ y) refl (IsBytes-join x y fits.0 fits.1))
laid_bytes (EccNumbers P384 x y) info is fits =
    subst IsBytes (sym is.2) (IsBytes-append (p384_info []) (x ++ y) refl (IsBytes-join x y fits.0 fits.1))
laid_bytes (EccNumbers P521 x y) info is fits = absurd is

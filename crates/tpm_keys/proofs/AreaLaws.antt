-- Public areas: what is read is what was spelled, and what is spelled is read.
use Rattle.std.proofs.Common.{◌≡◌, ℕ, ◌^◌, ◌<◌, Bool, true, false, cond, eqb, not, List, [], ◌∷◌, ◌++◌, length, Option, Some, None, Result, Ok, Err, refl, sym, subst, ap, ◌∙◌, append_assoc, inl, inr, lit<}
use Rattle.std.specs.Prelude.{ok_or, is_ok, is_some, IfOk, IfErr}
use Rattle.std.specs.Int.{w16, w32, to_be_bytes}
use Rattle.std.specs.Result.{result_err}
use Rattle.std.proofs.lemmas.Bool.Decides.{eqb_tells}
use Rattle.std.proofs.lemmas.List.{append-nil}
use Rattle.byte_fields.specs.Reading.{◌>>=◌, Reads}
use Rattle.byte_fields.specs.Formats.{Format, IsRead, either, seen, whole}
use Rattle.byte_fields.proofs.Steps.{IsBytes, bind_ok, ok_is, ok_or_ok}
use Rattle.byte_fields.proofs.FormatLaws.{Exact, IsBytes-behind, again, big16_exact, big32_exact, either_exact, followed_exact, mapped_exact, viewed_exact, whole_again, whole_takes}
use Rattle.pcr_banks.specs.declared.alg.Alg.{Alg}
use Rattle.pcr_banks.specs.declared.alg.Alg.TheVariants.{Sha1, Sha256, Sha384, Sha512}
use Rattle.pcr_banks.specs.Names.{all_algs, tpm_id_of}
use Rattle.tpm_quotes.specs.Reading.{alg_with}
use Rattle.tpm_quotes.specs.Spelling.{sized16}
use Rattle.tpm_keys.specs.declared.area.Cipher.{Cipher}
use Rattle.tpm_keys.specs.declared.area.PublicArea.{PublicArea}
use Rattle.tpm_keys.specs.declared.area.Scheme.{Scheme}
use Rattle.tpm_keys.specs.declared.fault.KeyFault.{KeyFault}
use Rattle.tpm_keys.specs.declared.fault.KeyFault.TheVariants.{Truncated, OtherType, UnknownHash, OtherSymmetric, UnknownScheme, Trailing}
use Rattle.tpm_keys.specs.declared.kinds.KeyType.{KeyType}
use Rattle.tpm_keys.specs.declared.kinds.KeyType.TheVariants.{Rsa, Ecc}
use Rattle.tpm_keys.specs.declared.kinds.SchemeKind.{SchemeKind}
use Rattle.tpm_keys.specs.declared.kinds.SchemeKind.TheVariants.{Unset, Rsaes, Rsassa, Rsapss, Oaep, Ecdsa, Ecdh}
use Rattle.tpm_keys.specs.declared.kinds.Purpose.{Purpose}
use Rattle.tpm_keys.specs.Purposes.{lack, sound, sound_by}
use Rattle.tpm_keys.specs.Kinds.{has_hash, scheme_id, scheme_with, schemes_of, type_id, type_with}
use Rattle.tpm_keys.specs.Spelling.{Holds, IsCipher, IsPublicArea, IsScheme, KeyArea, area_of, area_spelling, cipher_spelling, hash_spelling, null_id, numbers_spelling, scheme_spelling, type_of}
use Rattle.tpm_keys.specs.Reading.{aes, aes_id, area, area_fault, area_in, bare_area, cipher, has_type, hash, head, is_aes, is_aes_with, is_bare, is_one_type, key_fault, key_in, key_type, nothing, scheme, scheme_kind, sized, sized_area, some_hash}
use Rattle.tpm_keys.proofs.TableLaws.{found_id}
use Rattle.tpm_keys.proofs.MaterialLaws.{AnyFault, any_refusal, are_numbers, is_sized, numbers_are, numbers_exact, numbers_spelled, sized_fits, sized_is_exact, sized_spelled, type_told}

-- ---- the type, and the hash of the name

told_type : (id : ℕ) (t : KeyType) → type_with id ≡ Some t → id ≡ type_id t
told_type id t e = sym (found_id type_id (Rsa ∷ Ecc ∷ []) id t e)

key_type_exact : Exact AnyFault key_type
unfolding key_type
key_type_exact =
    viewed_exact (λ id t is e. told_type id t (ok_or_ok (type_with id) OtherType t e)) (λ id. any_refusal (ok_or (type_with id) OtherType))
    (big16_exact {P = AnyFault} Truncated tt)

is_key_type : (t : KeyType) → key_type.Is t
unfolding key_type
is_key_type Rsa = (lit< tt, refl)
is_key_type Ecc = (lit< tt, refl)

told_alg : (id : ℕ) (alg : Alg) → alg_with id ≡ Some alg → id ≡ tpm_id_of alg
told_alg id alg e = sym (found_id tpm_id_of all_algs id alg e)

hash_exact : Exact AnyFault hash
unfolding hash
hash_exact =
    viewed_exact (λ id alg is e. told_alg id alg (ok_or_ok (alg_with id) UnknownHash alg e)) (λ id. any_refusal (ok_or (alg_with id) UnknownHash))
    (big16_exact {P = AnyFault} Truncated tt)

is_hash : (alg : Alg) → hash.Is alg
unfolding hash
is_hash Sha1 = (lit< tt, refl)
is_hash Sha256 = (lit< tt, refl)
is_hash Sha384 = (lit< tt, refl)
is_hash Sha512 = (lit< tt, refl)

head_exact : Exact AnyFault head
unfolding head
head_exact = followed_exact hash_exact (λ h. followed_exact (big32_exact Truncated tt) (λ a. sized_is_exact))

-- ---- there is none

nothing_only : {X : Type 0} (bytes : List ℕ) (reading : Result (Option X × List ℕ) KeyFault)
    → IsRead (nothing {X = X}) bytes reading → (nothing {X = X}).at bytes ≡ reading
nothing_only bytes (Ok x) is = rw (is.is, is.parts) refl
nothing_only bytes (Err fault) fail = absurd fail

nothing_exact : {X : Type 0} → Exact AnyFault (nothing {X = X})
nothing_exact {X} = record {
  found = λ bytes fits. record { is = refl; parts = refl };
  only = nothing_only {X = X};
  faults = λ bytes d fail. absurd fail;
}

-- ---- the symmetric algorithm

abbrev the_answer : Bool → Option Bool
the_answer b = Some b

same_answer : (b c : Bool) → the_answer b ≡ the_answer c → b ≡ c
same_answer b c e = cc

no_answer : (b : Bool) → None ≡ the_answer b → ⊥
no_answer b e = cc

told_aes : (n : ℕ) (b : Bool) → is_aes_with n ≡ Some b → n ≡ aes_id b
told_aes n b e =
    elim (eqb_tells n 0x0006) [
      | inl one ↦ one.1 ∙ ap aes_id (same_answer true b (rw one.0 at e))
      | inr other ↦ elim (eqb_tells n null_id) [
        | inl none ↦ none.1 ∙ ap aes_id (same_answer false b (rw (other.0, none.0) at e))
        | inr neither ↦ absurd (no_answer b (rw (other.0, neither.0) at e))
      ]
    ]

is_aes_exact : Exact AnyFault is_aes
unfolding is_aes
is_aes_exact =
    viewed_exact (λ n b is e. told_aes n b (ok_or_ok (is_aes_with n) OtherSymmetric b e)) (λ n. any_refusal (ok_or (is_aes_with n) OtherSymmetric))
    (big16_exact {P = AnyFault} Truncated tt)

is_is_aes : (b : Bool) → is_aes.Is b
unfolding is_aes
is_is_aes true = (lit< tt, refl)
is_is_aes false = (lit< tt, refl)

aes_exact : Exact AnyFault aes
unfolding aes
aes_exact = mapped_exact (λ x is. refl) (followed_exact (big16_exact {P = AnyFault} Truncated tt) (λ b. big16_exact Truncated tt))

abbrev the_cipher : Option Cipher → Result (Option Cipher) KeyFault
the_cipher c = Ok c

no_cipher : (c : Cipher) → the_cipher (Some c) ≡ Ok None → ⊥
no_cipher c e = cc

abbrev cipher_by : Bool → Format (Option Cipher) KeyFault
cipher_by b = either b aes nothing

cipher_kind : (b : Bool) (c : Option Cipher) → (cipher_by b).Is c → is_some c ≡ b
unfolding aes
cipher_kind true (Some c) is = refl
cipher_kind true None is = absurd (no_cipher _ is.1)
cipher_kind false c is = ap is_some is

cipher_exact : Exact AnyFault cipher
unfolding cipher
cipher_exact =
    mapped_exact (λ x is. ap (λ (b : Bool). (b, x.1)) (cipher_kind x.0 x.1 is.1))
    (followed_exact is_aes_exact (λ b. either_exact b aes_exact (nothing_exact {X = Cipher})))

cipher_fits : (c : Option Cipher) → cipher.Is c → IsCipher c
unfolding cipher aes
cipher_fits None is = tt
cipher_fits (Some c) is = is.0.1.0

is_cipher : (c : Option Cipher) → IsCipher c → cipher.Is c
unfolding cipher aes
is_cipher None is = ((is_is_aes false, refl), refl)
is_cipher (Some c) is = ((is_is_aes true, (is, refl)), refl)

cipher_spelled : (c : Option Cipher) → cipher.spell c ≡ cipher_spelling c
unfolding cipher is_aes aes
cipher_spelled None = append-nil (to_be_bytes w16 null_id)
cipher_spelled (Some c) = refl

-- ---- the scheme

told_kind : (t : KeyType) (id : ℕ) (kind : SchemeKind) → scheme_with t id ≡ Some kind → id ≡ scheme_id kind
told_kind t id kind e = sym (found_id scheme_id (schemes_of t) id kind e)

scheme_kind_exact : (t : KeyType) → Exact AnyFault (scheme_kind t)
unfolding scheme_kind
scheme_kind_exact t =
    viewed_exact (λ id kind is e. told_kind t id kind (ok_or_ok (scheme_with t id) UnknownScheme kind e))
    (λ id. any_refusal (ok_or (scheme_with t id) UnknownScheme)) (big16_exact {P = AnyFault} Truncated tt)

scheme_id_fits : (kind : SchemeKind) → scheme_id kind < 2 ^ 16
scheme_id_fits Unset = lit< tt
scheme_id_fits Rsaes = lit< tt
scheme_id_fits Rsassa = lit< tt
scheme_id_fits Rsapss = lit< tt
scheme_id_fits Oaep = lit< tt
scheme_id_fits Ecdsa = lit< tt
scheme_id_fits Ecdh = lit< tt

some_hash_exact : Exact AnyFault some_hash
unfolding some_hash
some_hash_exact = mapped_exact (λ alg is. refl) hash_exact

scheme_exact : (t : KeyType) → Exact AnyFault (scheme t)
unfolding scheme
scheme_exact t =
    mapped_exact (λ x is. refl)
    (followed_exact (scheme_kind_exact t) (λ kind. either_exact (has_hash kind) some_hash_exact (nothing_exact {X = Alg})))

abbrev hash_by : Bool → Format (Option Alg) KeyFault
hash_by b = either b some_hash nothing

abbrev the_hash : Option Alg → Result (Option Alg) KeyFault
the_hash h = Ok h

no_hash : (alg : Alg) → the_hash (Some alg) ≡ Ok None → ⊥
no_hash alg e = cc

hash_told : (b : Bool) (h : Option Alg) → (hash_by b).Is h → is_some h ≡ b
unfolding some_hash
hash_told true (Some alg) is = refl
hash_told true None is = absurd (no_hash _ is.1)
hash_told false h is = ap is_some is

is_hash_by : (b : Bool) (h : Option Alg) → is_some h ≡ b → (hash_by b).Is h
unfolding some_hash
is_hash_by true (Some alg) e = (is_hash alg, refl)
is_hash_by true None e = absurd cc
is_hash_by false (Some alg) e = absurd cc
is_hash_by false None e = refl

hash_spelled : (b : Bool) (h : Option Alg) → is_some h ≡ b → (hash_by b).spell h ≡ hash_spelling h
unfolding some_hash hash
hash_spelled true (Some alg) e = refl
hash_spelled true None e = absurd cc
hash_spelled false (Some alg) e = absurd cc
hash_spelled false None e = refl

scheme_fits : (t : KeyType) (s : Scheme) → (scheme t).Is s → IsScheme t s
unfolding scheme scheme_kind
scheme_fits t s is = record {
  of_type = ok_or_ok (scheme_with t (scheme_id s.kind)) UnknownScheme s.kind is.0.0.1;
  hash_belongs = hash_told (has_hash s.kind) s.hash is.0.1;
}

is_scheme : (t : KeyType) (s : Scheme) → IsScheme t s → (scheme t).Is s
unfolding scheme scheme_kind
is_scheme t s is =
    (((scheme_id_fits s.kind, rw is.of_type refl), is_hash_by (has_hash s.kind) s.hash is.hash_belongs), refl)

scheme_spelled : (t : KeyType) (s : Scheme) → is_some s.hash ≡ has_hash s.kind → (scheme t).spell s ≡ scheme_spelling s
unfolding scheme scheme_kind
scheme_spelled t s e = ap (λ (xs : List ℕ). to_be_bytes w16 (scheme_id s.kind) ++ xs) (hash_spelled (has_hash s.kind) s.hash e)

-- ---- the area

pub area_exact : Exact AnyFault area
unfolding area
area_exact =
    mapped_exact (λ x is. ap (λ (t : KeyType). (t, x.1)) (type_told x.0 x.1.1.1.1 is.1.1.1.1))
    (followed_exact key_type_exact (λ t. followed_exact head_exact (λ h. followed_exact cipher_exact (λ c. followed_exact (scheme_exact t) (λ s.
    numbers_exact t)))))

regrouped : (key name attributes policy rest : List ℕ)
    → key ++ ((name ++ (attributes ++ policy)) ++ rest) ≡ key ++ (name ++ (attributes ++ (policy ++ rest)))
regrouped key name attributes policy rest = simp append_assoc

spelled : (a : KeyArea) → is_some a.scheme.hash ≡ has_hash a.scheme.kind → area.spell a ≡ area_spelling a
unfolding area key_type head hash
spelled a e =
    rw (sized_spelled a.policy, cipher_spelled a.cipher, scheme_spelled (type_of a.numbers) a.scheme e, numbers_spelled a.numbers)
    (regrouped (to_be_bytes w16 (type_id (type_of a.numbers))) (to_be_bytes w16 (tpm_id_of a.name_alg)) (to_be_bytes w32 a.attributes)
    (sized16 a.policy) (cipher_spelling a.cipher ++ (scheme_spelling a.scheme ++ numbers_spelling a.numbers)))

scheme_of : (a : KeyArea) → area.Is a → IsScheme (type_of a.numbers) a.scheme
unfolding area
scheme_of a is = scheme_fits (type_of a.numbers) a.scheme is.0.1.1.1.0

-- What is read from all of the bytes is spelled by them.
pub framed_spelled : (framed : List ℕ) (a : KeyArea) → IsBytes framed → whole Trailing area framed ≡ Ok a → area.Is a × (framed ≡ area_spelling a)
framed_spelled framed a fits e =
    let taken = whole_takes Trailing area_exact framed a fits e in
    (taken.0, taken.1 ∙ spelled a (scheme_of a taken.0).hash_belongs)

framed_fits : (bytes framed : List ℕ) → bytes ≡ sized16 framed → IsBytes bytes → IsBytes framed
framed_fits bytes framed parts fits = IsBytes-behind bytes (to_be_bytes w16 (length framed)) framed parts fits

is_public : (bytes : List ℕ) (a : KeyArea) → area.Is a → Holds bytes (area_spelling a) → IsPublicArea bytes a
unfolding area head
is_public bytes a is held = record {
  attributes_fit = is.0.1.0.1.0;
  policy_fits = sized_fits a.policy is.0.1.0.1.1;
  cipher_is = cipher_fits a.cipher is.0.1.1.0;
  scheme_is = scheme_fits (type_of a.numbers) a.scheme is.0.1.1.1.0;
  numbers_are = numbers_are a.numbers is.0.1.1.1.1;
  spelled = held;
}

bare_is : (bytes : List ℕ) (a : KeyArea) → IsBytes bytes → bare_area bytes ≡ Ok a → IsPublicArea bytes a
bare_is bytes a fits e = let inner = framed_spelled bytes a fits e in is_public bytes a inner.0 (inr inner.1)

sized_is : (bytes : List ℕ) (a : KeyArea) → IsBytes bytes → sized_area bytes ≡ Ok a → IsPublicArea bytes a
unfolding sized_area
sized_is bytes a fits e =
    let step = bind_ok (whole Trailing sized bytes) (λ framed. bare_area framed) a e in
    let framed = step.0 in
    let frame = whole_takes Trailing sized_is_exact bytes framed fits step.1 in
    let parts = frame.1 ∙ sized_spelled framed in
    let inner = framed_spelled framed a (framed_fits bytes framed parts fits) step.2 in
    is_public bytes a inner.0 (inl (
      subst (λ (xs : List ℕ). length xs < 2 ^ 16) inner.1 (sized_fits framed frame.0),
      subst (λ (xs : List ℕ). bytes ≡ sized16 xs) inner.1 parts,
    ))

either_is : (b : Bool) (bytes : List ℕ) (a : KeyArea) → IsBytes bytes → cond b (bare_area bytes) (sized_area bytes) ≡ Ok a → IsPublicArea bytes a
either_is true bytes a fits e = bare_is bytes a fits e
either_is false bytes a fits e = sized_is bytes a fits e

pub area_is : (bytes : List ℕ) (a : KeyArea) → IsBytes bytes → area_in bytes ≡ Ok a → IsPublicArea bytes a
unfolding area_in
area_is bytes a fits e = either_is (is_bare bytes) bytes a fits e

area_is_spelled : (a : KeyArea) (bytes : List ℕ) → IsPublicArea bytes a → area.Is a
unfolding area head
area_is_spelled a bytes is = (
  (
    is_key_type (type_of a.numbers),
    (
      (is_hash a.name_alg, (is.attributes_fit, is_sized a.policy is.policy_fits)),
      (is_cipher a.cipher is.cipher_is, (is_scheme (type_of a.numbers) a.scheme is.scheme_is, are_numbers a.numbers is.numbers_are)),
    ),
  ),
  refl,
)

-- ---- behind a size, or bare

-- What is read of a type is what its number gives.
number_read : (id : ℕ) (rest : List ℕ) → id < 2 ^ 16
    → key_type.at (to_be_bytes w16 id ++ rest) ≡ (ok_or (type_with id) OtherType >>= λ t. Ok (t, rest))
unfolding key_type
number_read id rest lt =
    ap (λ (r : Result (ℕ × List ℕ) KeyFault). seen (λ (n : ℕ). ok_or (type_with n) OtherType) r)
    (again (big16_exact {P = AnyFault} Truncated tt) id rest lt)

type_read : (t : KeyType) (rest : List ℕ) → key_type.at (to_be_bytes w16 (type_id t) ++ rest) ≡ Ok (t, rest)
unfolding key_type
type_read t rest = again key_type_exact t rest (is_key_type t)

told_by : (o : Option KeyType) (rest : List ℕ) → is_ok {T = KeyType × List ℕ} (ok_or o OtherType >>= λ t. Ok (t, rest)) ≡ is_some o
told_by (Some t) rest = refl
told_by None rest = refl

-- The number of a hash is no type's.
hash_fits : (alg : Alg) → tpm_id_of alg < 2 ^ 16
hash_fits Sha1 = lit< tt
hash_fits Sha256 = lit< tt
hash_fits Sha384 = lit< tt
hash_fits Sha512 = lit< tt

hash_of_none : (alg : Alg) → is_some (type_with (tpm_id_of alg)) ≡ false
hash_of_none Sha1 = refl
hash_of_none Sha256 = refl
hash_of_none Sha384 = refl
hash_of_none Sha512 = refl

no_type : (alg : Alg) (rest : List ℕ) → has_type (to_be_bytes w16 (tpm_id_of alg) ++ rest) ≡ false
no_type alg rest =
    ap (λ (r : Result (KeyType × List ℕ) KeyFault). is_ok r) (number_read (tpm_id_of alg) rest (hash_fits alg))
    ∙ told_by (type_with (tpm_id_of alg)) rest ∙ hash_of_none alg

-- What an area has after its type, and after the hash of its name.
abbrev after_hash : KeyArea → List ℕ
after_hash a =
    to_be_bytes w32 a.attributes ++ (sized16 a.policy ++ (cipher_spelling a.cipher ++ (scheme_spelling a.scheme ++ numbers_spelling a.numbers)))

abbrev after_type : KeyArea → List ℕ
after_type a = to_be_bytes w16 (tpm_id_of a.name_alg) ++ after_hash a

area_has_type : (a : KeyArea) → has_type (area_spelling a) ≡ true
area_has_type a = ap (λ (r : Result (KeyType × List ℕ) KeyFault). is_ok r) (type_read (type_of a.numbers) (after_type a))

bare_is_bare : (a : KeyArea) → is_bare (area_spelling a) ≡ true
bare_is_bare a =
    ap (λ (r : Result (KeyType × List ℕ) KeyFault). is_one_type r) (type_read (type_of a.numbers) (after_type a))
    ∙ ap not (no_type a.name_alg (after_hash a))

one_after : (o : Option KeyType) (rest : List ℕ) → has_type rest ≡ true → is_one_type (ok_or o OtherType >>= λ t. Ok (t, rest)) ≡ false
one_after (Some t) rest e = ap not e
one_after None rest e = refl

sized_is_not_bare : (spelling : List ℕ) → length spelling < 2 ^ 16 → has_type spelling ≡ true → is_bare (sized16 spelling) ≡ false
sized_is_not_bare spelling lt e =
    ap (λ (r : Result (KeyType × List ℕ) KeyFault). is_one_type r) (number_read (length spelling) spelling lt)
    ∙ one_after (type_with (length spelling)) spelling e

is_bare_area : (bytes : List ℕ) (a : KeyArea) → IsPublicArea bytes a → bytes ≡ area_spelling a → bare_area bytes ≡ Ok a
is_bare_area bytes a is parts =
    whole_again Trailing area_exact bytes a (area_is_spelled a bytes is) (parts ∙ sym (spelled a is.scheme_is.hash_belongs))

is_sized_area : (bytes : List ℕ) (a : KeyArea) → IsPublicArea bytes a → length (area_spelling a) < 2 ^ 16 → bytes ≡ sized16 (area_spelling a)
    → sized_area bytes ≡ Ok a
unfolding sized_area
is_sized_area bytes a is lt parts =
    let framed = area_spelling a in
    let frame = whole_again Trailing sized_is_exact bytes framed (is_sized framed lt) (parts ∙ sym (sized_spelled framed)) in
    let inner = whole_again Trailing area_exact framed a (area_is_spelled a bytes is) (sym (spelled a is.scheme_is.hash_belongs)) in
    rw (frame, inner) refl

is_held : (bytes : List ℕ) (a : KeyArea) → IsPublicArea bytes a → Holds bytes (area_spelling a) → area_in bytes ≡ Ok a
unfolding area_in
is_held bytes a is (inl (lt, parts)) =
    let other = ap (λ (xs : List ℕ). is_bare xs) parts ∙ sized_is_not_bare (area_spelling a) lt (area_has_type a) in
    ap (λ (b : Bool). cond b (bare_area bytes) (sized_area bytes)) other ∙ is_sized_area bytes a is lt parts
is_held bytes a is (inr parts) =
    let bare = ap (λ (xs : List ℕ). is_bare xs) parts ∙ bare_is_bare a in
    ap (λ (b : Bool). cond b (bare_area bytes) (sized_area bytes)) bare ∙ is_bare_area bytes a is parts

pub is_area : (bytes : List ℕ) (a : KeyArea) → IsPublicArea bytes a → area_in bytes ≡ Ok a
is_area bytes a is = is_held bytes a is is.spelled

-- A public area has one reading.
pub one_reading : (bytes : List ℕ) (first second : KeyArea) → IsPublicArea bytes first → IsPublicArea bytes second → first ≡ second
one_reading bytes first second is also = ok_is first second (sym (is_area bytes first is) ∙ is_area bytes second also)

-- ---- what the reader gives

-- The bytes of a bare area are those that spell it.
pub spelled_so : (framed : List ℕ) (r : Result PublicArea KeyFault) → IsBytes framed → Reads area_of r (bare_area framed)
    → IfOk r (λ a. a.spelled.now ≡ framed) → IfOk r (λ a. a.spelled.now ≡ area_spelling (area_of a))
spelled_so framed (Ok a) fits e same = same ∙ (framed_spelled framed (area_of a) fits e).1
spelled_so framed (Err fault) fits e same = tt

-- The bytes in the frame are those that spell the area.
pub framed_so : (bytes framed after : List ℕ) (r : Result PublicArea KeyFault) → IsBytes bytes → sized.at bytes ≡ Ok (framed, after)
    → eqb (length after) 0 ≡ true → Reads area_of r (bare_area framed) → IfOk r (λ a. a.spelled.now ≡ framed)
    → IfOk r (λ a. a.spelled.now ≡ area_spelling (area_of a))
framed_so bytes framed after r fits e empty =
    let frame = whole_takes Trailing sized_is_exact bytes framed fits (rw (e, empty) refl) in
    spelled_so framed r (framed_fits bytes framed (frame.1 ∙ sized_spelled framed) fits)

pub found : (bytes : List ℕ) (r : Result PublicArea KeyFault) → IsBytes bytes → Reads area_of r (area_in bytes)
    → IfOk r (λ a. IsPublicArea bytes (area_of a))
found bytes (Ok a) fits e = area_is bytes (area_of a) fits e
found bytes (Err fault) fits e = tt

pub refused : (bytes : List ℕ) (r : Result PublicArea KeyFault) → Reads area_of r (area_in bytes)
    → IfErr r (λ fault. area_fault bytes ≡ Some fault)
refused bytes (Ok a) e = tt
refused bytes (Err fault) e = ap result_err e

pub given : (bytes : List ℕ) (r : Result PublicArea KeyFault) (a : KeyArea) → Reads area_of r (area_in bytes) → IsPublicArea bytes a
    → Reads area_of r (Ok a)
given bytes (Ok x) a e is = sym (is_area bytes a is) ∙ e
given bytes (Err fault) a e is = sym (is_area bytes a is) ∙ e

-- ---- what the reader of a key gives

abbrev the_area : KeyArea → Result KeyArea KeyFault
the_area a = Ok a

no_fault : (a : KeyArea) (fault : KeyFault) → result_err (the_area a) ≡ Some fault → ⊥
no_fault a fault e = cc

same_err : (r : Result KeyArea KeyFault) (next : KeyArea → Result KeyArea KeyFault) (fault : KeyFault) → result_err r ≡ Some fault
    → result_err (r >>= next) ≡ Some fault
same_err (Ok a) next fault e = absurd (no_fault a fault e)
same_err (Err d) next fault e = e

-- What is wrong with the bytes is wrong with the key.
pub area_fault_first : (purpose : Purpose) (bytes : List ℕ) (fault : KeyFault) → area_fault bytes ≡ Some fault → key_fault purpose bytes ≡ Some fault
unfolding key_in
area_fault_first purpose bytes fault e = same_err (area_in bytes) (λ a. sound purpose a) fault e

-- Else what it lacks is.
pub lack_is_fault : (purpose : Purpose) (bytes : List ℕ) (a : KeyArea) (fault : KeyFault) → IsPublicArea bytes a → lack purpose a ≡ Some fault
    → key_fault purpose bytes ≡ Some fault
unfolding key_in
lack_is_fault purpose bytes a fault is e =
    let told : sound purpose a ≡ Err fault = ap (λ (o : Option KeyFault). sound_by o a) e in
    rw (is_area bytes a is, told) refl

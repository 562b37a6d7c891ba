-- Extends that end in the same value are the same, or break the hash. This is shown from the last extend back, so that a preimage
-- is always one of a value at the start, never of a value between two extends.
use Rattle.std.proofs.Common.{rules, subst, ◌≡◌, ℕ, ◌+◌, ◌-◌, ◌&&◌, Bool, true, false, cond, eqb, List, [], ◌∷◌, ◌++◌, length, replicate, refl, sym, ap, ◌∙◌, arith, inl, inr, append_assoc, length-append}
use Rattle.std.specs.Prelude.{◌⊎◌, bytes_eq, nat_le}
use Rattle.std.proofs.lemmas.Bool.{cases_Bool, both_ways}
use Rattle.std.proofs.lemmas.Bool.Decides.{not_from_Decides}
use Rattle.std.proofs.lemmas.List.{append-nil, length-replicate}
use Rattle.std.proofs.lemmas.List.Sums.{fold-append}
use Rattle.std.proofs.lemmas.Slice.Eq.{bytes_eq-Decides}
use Rattle.std.proofs.Math.Seq.{append_snoc}
use Rattle.pcr_banks.specs.declared.alg.Alg.{Alg}
use Rattle.pcr_banks.specs.Names.{extended_by_all, extended_value, hash_of, reset_value, size_of}
use Rattle.binding_laws.specs.BankBinding.{Collision, Preimage, IsExtendInput, ExtendsBreakHash}
use Rattle.pcr_banks.proofs.AlgLaws.{every_alg}
use Rattle.pcr_banks.proofs.HashLaws.{hash_size}

-- ---- lists from their end

grown : {A : Type 0} (P : List A → Type 0) → ((before : List A) (last : A) → P before → P (before ++ last ∷ []))
    → (before after : List A) → P before → P (before ++ after)
grown P more before [] here = subst P (sym (append-nil before)) here
grown P more before (x ∷ after) here =
    subst P (append_snoc before x after) (grown P more (before ++ x ∷ []) after (more before x here))

-- What holds of the empty list, and of every list with one more item at its end, holds of every list.
pub from_the_end : {A : Type 0} (P : List A → Type 0) → P [] → ((before : List A) (last : A) → P before → P (before ++ last ∷ []))
    → (xs : List A) → P xs
from_the_end P none more xs = grown P more [] xs none

-- ---- bytes of another kind

-- A collision of bytes of two kinds is one of any two kinds that include these; likewise a preimage.
pub collision_of : (alg : Alg) (P Q R S : List ℕ → Type 0) → ((bytes : List ℕ) → P bytes → R bytes)
    → ((bytes : List ℕ) → Q bytes → S bytes) → Collision alg P Q → Collision alg R S
collision_of alg P Q R S first second hit = record {
  first = hit.first;
  second = hit.second;
  first_kind = first hit.first hit.first_kind;
  second_kind = second hit.second hit.second_kind;
  different = hit.different;
  one_hash = hit.one_hash;
}

pub preimage_of : (alg : Alg) (P R : List ℕ → Type 0) (value : List ℕ) → ((bytes : List ℕ) → P bytes → R bytes)
    → Preimage alg P value → Preimage alg R value
preimage_of alg P R value kind hit = record { bytes = hit.bytes; kind = kind hit.bytes hit.kind; hash_is = hit.hash_is }

-- Bytes of one hash are the same, or collide.
pub same_or_collide : (alg : Alg) (IsFirst IsSecond : List ℕ → Type 0) (first second : List ℕ) → IsFirst first → IsSecond second
    → hash_of alg first ≡ hash_of alg second → (first ≡ second) ⊎ Collision alg IsFirst IsSecond
same_or_collide alg IsFirst IsSecond first second is is_too one =
    let decides = bytes_eq-Decides first second in
    elim (cases_Bool (bytes_eq first second)) [
      | inl same ↦ inl (decides.0 same)
      | inr apart ↦ inr (record {
        first = first;
        second = second;
        first_kind = is;
        second_kind = is_too;
        different = not_from_Decides (bytes_eq first second) decides apart;
        one_hash = one;
      })
    ]

-- ---- the value of a register at the start

chosen_size : (size : ℕ) (b c : Bool) (first second third : List ℕ) → length first ≡ size → length second ≡ size → length third ≡ size
    → length (cond b first (cond c second third)) ≡ size
chosen_size size true c first second third one two three = one
chosen_size size false true first second third one two three = two
chosen_size size false false first second third one two three = three

located_size : (alg : Alg) (locality : ℕ) → length (replicate (size_of alg - 1) 0 ++ locality ∷ []) ≡ size_of alg
located_size = every_alg _ (search rules)

pub reset_size : (alg : Alg) (register locality : ℕ) → length (reset_value alg register locality) ≡ size_of alg
reset_size alg register locality =
    chosen_size (size_of alg) (eqb register 0) (nat_le 17 register && nat_le register 22) (replicate (size_of alg - 1) 0 ++ locality ∷ [])
    (replicate (size_of alg) 255) (replicate (size_of alg) 0) (located_size alg locality) (length-replicate (size_of alg) 255)
    (length-replicate (size_of alg) 0)

-- ---- the extends of a register

pub value_size : (alg : Alg) (value : List ℕ) (digests : List (List ℕ)) → length value ≡ size_of alg
    → length (extended_by_all alg value digests) ≡ size_of alg
value_size alg value [] sized = sized
value_size alg value (digest ∷ digests) sized = value_size alg (hash_of alg (value ++ digest)) digests (hash_size alg (value ++ digest))

-- What the last extend hashes.
last_extend : (alg : Alg) (value : List ℕ) (digests : List (List ℕ)) (digest : List ℕ)
    → extended_by_all alg value (digests ++ digest ∷ []) ≡ hash_of alg (extended_by_all alg value digests ++ digest)
last_extend alg value digests digest = fold-append (extended_value alg) value digests (digest ∷ [])

last_input : (alg : Alg) (value : List ℕ) (digests : List (List ℕ)) (digest : List ℕ)
    → IsExtendInput alg value (digests ++ digest ∷ []) (extended_by_all alg value digests ++ digest)
last_input alg value digests digest = record { before = digests; digest = digest; after = []; parts = refl; joined = refl }

earlier_input : (alg : Alg) (value : List ℕ) (digests : List (List ℕ)) (digest bytes : List ℕ)
    → IsExtendInput alg value digests bytes → IsExtendInput alg value (digests ++ digest ∷ []) bytes
earlier_input alg value digests digest bytes input = record {
  before = input.before;
  digest = input.digest;
  after = input.after ++ digest ∷ [];
  parts = ap (λ (ds : List (List ℕ)). ds ++ digest ∷ []) input.parts ∙ append_assoc input.before (input.digest ∷ input.after) (digest ∷ []);
  joined = input.joined;
}

-- A preimage of the value at the start, where one list of digests has a last digest and the other is empty.
start_is_hash : (alg : Alg) (value other : List ℕ) (digests : List (List ℕ)) (digest : List ℕ)
    → extended_by_all alg value (digests ++ digest ∷ []) ≡ other
    → Preimage alg (IsExtendInput alg value (digests ++ digest ∷ [])) other
start_is_hash alg value other digests digest same = record {
  bytes = extended_by_all alg value digests ++ digest;
  kind = last_input alg value digests digest;
  hash_is = sym (last_extend alg value digests digest) ∙ same;
}

one_more : (digests : List (List ℕ)) (digest : List ℕ) → length (digests ++ digest ∷ []) ≡ length digests + 1
one_more digests digest = length-append digests (digest ∷ [])

-- ---- the same value

-- Extends from one value by digests and from another by others are the same, or break the hash.
abbrev AreSameOrBreakHash : Alg → List ℕ → List (List ℕ) → List ℕ → List (List ℕ) → Type 0
AreSameOrBreakHash alg value digests other others =
    ((value ≡ other) × (digests ≡ others)) ⊎ ExtendsBreakHash alg value digests other others

-- What breaks the hash in all extends but the last of each breaks it in all.
earlier_break : (alg : Alg) (value other : List ℕ) (digests others : List (List ℕ)) (digest last : List ℕ)
    → ExtendsBreakHash alg value digests other others
    → ExtendsBreakHash alg value (digests ++ digest ∷ []) other (others ++ last ∷ [])
earlier_break alg value other digests others digest last breaks =
    let first = earlier_input alg value digests digest in
    let second = earlier_input alg other others last in
    elim breaks [
      | inl hit ↦ inl (collision_of alg (IsExtendInput alg value digests) (IsExtendInput alg other others) (IsExtendInput alg value
          (digests ++ digest ∷ [])) (IsExtendInput alg other (others ++ last ∷ [])) first second hit)
      | inr start ↦ elim start [
        | inl longer ↦ inr (inl (
          omega (arith, longer.0, one_more digests digest, one_more others last),
          preimage_of alg (IsExtendInput alg value digests) (IsExtendInput alg value (digests ++ digest ∷ [])) other first longer.1,
        ))
        | inr shorter ↦ inr (inr (
          omega (arith, shorter.0, one_more digests digest, one_more others last),
          preimage_of alg (IsExtendInput alg other others) (IsExtendInput alg other (others ++ last ∷ [])) value second shorter.1,
        ))
      ]
    ]

-- Equal byte strings whose prefixes have the same length have the same prefix and the same rest.
parts_of_joined : (first second rest other : List ℕ) → length first ≡ length second → first ++ rest ≡ second ++ other
    → (first ≡ second) × (rest ≡ other)
parts_of_joined [] [] rest other sized same = (refl, same)
parts_of_joined [] (byte ∷ second) rest other sized same = absurd (omega arith)
parts_of_joined (byte ∷ first) [] rest other sized same = absurd (omega arith)
parts_of_joined (byte ∷ first) (other_byte ∷ second) rest other sized same =
    let further = parts_of_joined first second rest other (omega arith) cc in
    let here : byte ≡ other_byte = cc in
    (cc, further.1)

module _ (alg : Alg) (value other : List ℕ) (value_sized : length value ≡ size_of alg) (other_sized : length other ≡ size_of alg) where
  -- Extends by these digests and by others that end in the same value are the same, or break the hash.
  abbrev Tells : List (List ℕ) → List (List ℕ) → Type 0
  Tells digests others =
      extended_by_all alg value digests ≡ extended_by_all alg other others → AreSameOrBreakHash alg value digests other others

  told_by_none : (others : List (List ℕ)) → Tells [] others
  told_by_none = from_the_end (Tells []) (λ same. inl (same, refl)) (λ before last known same.
      inr (inr (inr (omega (arith, one_more before last), start_is_hash alg other value before last (sym same)))))

  -- The last extends hash the same bytes.
  told_by_same : (digests others : List (List ℕ)) (digest last : List ℕ) → Tells digests others
      → extended_by_all alg value digests ++ digest ≡ extended_by_all alg other others ++ last
      → AreSameOrBreakHash alg value (digests ++ digest ∷ []) other (others ++ last ∷ [])
  told_by_same digests others digest last earlier same =
      let so-far = extended_by_all alg value digests in
      let other-so-far = extended_by_all alg other others in
      let parts = parts_of_joined so-far other-so-far digest last
      (value_size alg value digests value_sized ∙ sym (value_size alg other others other_sized)) same in
      elim (earlier parts.0) [
        | inl all ↦ inl (all.0, cc)
        | inr breaks ↦ inr (earlier_break alg value other digests others digest last breaks)
      ]

  told_by_last : (digests others : List (List ℕ)) (digest last : List ℕ) → Tells digests others
      → Tells (digests ++ digest ∷ []) (others ++ last ∷ [])
  told_by_last digests others digest last earlier same =
      let first = extended_by_all alg value digests ++ digest in
      let second = extended_by_all alg other others ++ last in
      let decides = bytes_eq-Decides first second in
      let one : hash_of alg first ≡ hash_of alg second =
      sym (last_extend alg value digests digest) ∙ same ∙ last_extend alg other others last in
      elim (cases_Bool (bytes_eq first second)) [
        | inl equal ↦ told_by_same digests others digest last earlier (decides.0 equal)
        | inr differ ↦ inr (inl (record {
          first = first;
          second = second;
          first_kind = last_input alg value digests digest;
          second_kind = last_input alg other others last;
          different = λ e. both_ways (bytes_eq first second) differ (decides.1 e);
          one_hash = one;
        }))
      ]

  told_by_more : (digests : List (List ℕ)) (digest : List ℕ) → ((others : List (List ℕ)) → Tells digests others)
      → (others : List (List ℕ)) → Tells (digests ++ digest ∷ []) others
  told_by_more digests digest earlier =
      from_the_end (Tells (digests ++ digest ∷ []))
      (λ same. inr (inr (inl (omega (arith, one_more digests digest), start_is_hash alg value other digests digest same))))
      (λ others last known. told_by_last digests others digest last (earlier others))

  told_by_all : (digests others : List (List ℕ)) → Tells digests others
  told_by_all = from_the_end (λ digests. (others : List (List ℕ)) → Tells digests others) told_by_none told_by_more

-- Extends that end in the same value are the same, or break the hash.
pub same_or_broken : (alg : Alg) (value other : List ℕ) (digests others : List (List ℕ)) → length value ≡ size_of alg
    → length other ≡ size_of alg → extended_by_all alg value digests ≡ extended_by_all alg other others
    → ((value ≡ other) × (digests ≡ others)) ⊎ ExtendsBreakHash alg value digests other others
same_or_broken alg value other digests others value_sized other_sized = told_by_all alg value other value_sized other_sized digests others

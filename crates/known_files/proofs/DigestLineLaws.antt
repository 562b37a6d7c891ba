-- The digest that a line says: what is read from it is what it says, and it says one.
use Rattle.std.proofs.Common.{◌≡◌, ◌↔◌, ℕ, ◌-◌, ◌*◌, ◌<◌, true, false, cond, List, [], ◌∷◌, ◌++◌, length, take, drop, Option, Some, None, Ok, refl, sym, ap, subst, ◌∙◌, arith, inl, inr}
use Rattle.std.specs.Prelude.{◌==◌, ◌||◌, option_map, IsSome, IfSome}
use Rattle.std.specs.List.{AllByRecursion, AllPass}
use Rattle.std.specs.Result.{result_ok}
use Rattle.std.proofs.lemmas.Bool.{and_parts, or_cases, eqb-true, false_from_ne_true, cases_Bool}
use Rattle.std.proofs.lemmas.List.{length-drop, length-take-le, take-append-drop, take_at, drop_at}
use Rattle.std.proofs.lemmas.List.Elements.{recursion_from_All}
use Rattle.hex.specs.Hex.{decode_of, is_hex_digit}
use Rattle.hex.proofs.HexLemmas.{decode_of-ok, decode_of-same}
use Rattle.pcr_banks.specs.declared.alg.Alg.{Alg}
use Rattle.pcr_banks.specs.declared.digest.Digest.{Digest}
use Rattle.pcr_banks.specs.Names.{alg_of, all_algs, bytes_of, digest_of, size_of}
use Rattle.pcr_banks.proofs.SetLaws.{digest_again}
use Rattle.known_files.specs.DigestLines.{IsDigestLine, IsEscape, IsMark, begins_with_mark, digest_by, digest_on, without_escape}
use Rattle.pcr_values.proofs.ExpectedLaws.{Lacks, one_cut}
use Rattle.known_files.proofs.DigestLaws.{the_some, chosen, mapped, same_size_is, some_bytes, alg_made, bytes_made, hex_not, digits_lack, hex_digest, found_by, first_is}

-- ---- a line without its escape

-- The bytes are a digest, a mark and a name.
pub record IsPlain (bytes : List ℕ) (digest : Digest) : Type 0 where
  pub digits : List ℕ
  pub mark : List ℕ
  pub name : List ℕ
  pub value_is : decode_of digits ≡ Ok (bytes_of digest)
  pub value_size : length (bytes_of digest) ≡ size_of (alg_of digest)
  pub mark_is : IsMark mark
  pub spelled : bytes ≡ digits ++ (mark ++ name)

-- A mark at the start of bytes, and what follows it.
abbrev Marked : List ℕ → Type 0
Marked bytes = (mark : List ℕ) × (name : List ℕ) × IsMark mark × (bytes ≡ mark ++ name)

mark_here : (bytes : List ℕ) → begins_with_mark bytes ≡ true → Marked bytes
mark_here [] e = absurd cc
mark_here (first ∷ []) e = absurd cc
mark_here (first ∷ second ∷ name) e =
    let both = and_parts (first == 32) ((second == 32) || (second == 42)) e in
    let one : first ≡ 32 = eqb-true first 32 both.0 in
    elim (or_cases (second == 32) (second == 42) both.1) [
      | inl space ↦ (32 ∷ 32 ∷ [], name, inl refl, rw (one, eqb-true second 32 space) refl)
      | inr star ↦ (32 ∷ 42 ∷ [], name, inr refl, rw (one, eqb-true second 42 star) refl)
    ]

mark_again : (mark name : List ℕ) → IsMark mark → begins_with_mark (mark ++ name) ≡ true
mark_again mark name (inl is) = rw is refl
mark_again mark name (inr is) = rw is refl

-- A mark has a space first.
mark_space : (mark name : List ℕ) → IsMark mark → (rest : List ℕ) × (mark ++ name ≡ 32 ∷ rest)
mark_space mark name (inl is) = (32 ∷ name, rw is refl)
mark_space mark name (inr is) = (42 ∷ name, rw is refl)

some_after : (bytes : List ℕ) → begins_with_mark bytes ≡ true → 0 < length bytes
some_after [] e = absurd cc
some_after (first ∷ bytes) e = omega arith

by_is : (alg : Alg) (bytes : List ℕ) (digest : Digest) → digest_by alg bytes ≡ Some digest → IsPlain bytes digest
unfolding digest_by
by_is alg bytes digest e =
    let n = 2 * size_of alg in
    let test = chosen (begins_with_mark (drop n bytes)) (option_map (digest_of alg) (result_ok (decode_of (take n bytes)))) digest e in
    let value = mapped (digest_of alg) (decode_of (take n bytes)) digest test.1 in
    let cut = mark_here (drop n bytes) test.0 in
    let long : 0 < length bytes - n = omega (arith, some_after (drop n bytes) test.0, length-drop n bytes) in
    let taken : length (take n bytes) ≡ n = length-take-le n bytes (omega (arith, long)) in
    let size : length value.0 ≡ size_of alg = omega (arith, (decode_of-ok (take n bytes) value.0 value.1).2, taken) in
    subst (IsPlain bytes) value.2 record {
      digits = take n bytes;
      mark = cut.0;
      name = cut.1;
      value_is = value.1 ∙ ap (λ b. Ok b) (sym (bytes_made alg value.0));
      value_size = ap length (bytes_made alg value.0) ∙ size ∙ ap size_of (sym (alg_made alg value.0));
      mark_is = cut.2;
      spelled = sym (take-append-drop n bytes) ∙ ap (λ (l : List ℕ). take n bytes ++ l) cut.3;
    }

-- A plain line says one digest.
plain_once : (bytes : List ℕ) (first second : Digest) → IsPlain bytes first → IsPlain bytes second → first ≡ second
plain_once bytes first second p q =
    let a = mark_space p.mark p.name p.mark_is in
    let b = mark_space q.mark q.name q.mark_is in
    let whole : p.digits ++ 32 ∷ a.0 ≡ q.digits ++ 32 ∷ b.0 =
    ap (λ (l : List ℕ). p.digits ++ l) (sym a.1) ∙ sym p.spelled ∙ q.spelled ∙ ap (λ (l : List ℕ). q.digits ++ l) b.1 in
    let digits = (one_cut 32 p.digits q.digits a.0 b.0 (plain_lacks bytes first p) (plain_lacks bytes second q) whole).0 in
    let bytes_are = decode_of-same p.digits (bytes_of first) (bytes_of second) p.value_is (ap decode_of digits ∙ q.value_is) in
    let algs = same_size_is (alg_of first) (alg_of second) (sym p.value_size ∙ ap length bytes_are ∙ q.value_size) in
    sym (digest_again first) ∙ ap (λ (a : Alg). digest_of a (bytes_of first)) algs
    ∙ ap (λ (b : List ℕ). digest_of (alg_of second) b) bytes_are ∙ digest_again second
  where
    plain_lacks : (bytes : List ℕ) (digest : Digest) (p : IsPlain bytes digest) → Lacks 32 p.digits
    plain_lacks bytes digest p =
        digits_lack p.digits (recursion_from_All _ p.digits (decode_of-ok p.digits (bytes_of digest) p.value_is).1)

digits_count : (digits : List ℕ) (digest : Digest) → decode_of digits ≡ Ok (bytes_of digest)
    → length (bytes_of digest) ≡ size_of (alg_of digest) → 2 * size_of (alg_of digest) ≡ length digits
digits_count digits digest value size = omega (arith, (decode_of-ok digits (bytes_of digest) value).2, size)

by_again : (bytes : List ℕ) (digest : Digest) → IsPlain bytes digest → digest_by (alg_of digest) bytes ≡ Some digest
unfolding digest_by
by_again bytes digest p =
    let n = digits_count p.digits digest p.value_is p.value_size in
    let back : drop (2 * size_of (alg_of digest)) bytes ≡ p.mark ++ p.name =
    ap (λ k. drop k bytes) n ∙ ap (drop (length p.digits)) p.spelled ∙ drop_at p.digits (p.mark ++ p.name) (length p.digits) refl in
    let prefix : take (2 * size_of (alg_of digest)) bytes ≡ p.digits =
    ap (λ k. take k bytes) n ∙ ap (take (length p.digits)) p.spelled ∙ take_at p.digits (p.mark ++ p.name) (length p.digits) refl in
    rw (back, prefix, p.value_is, mark_again p.mark p.name p.mark_is) (ap (λ d. the_some d) (digest_again digest))

-- ---- a line

escape_in : (line : List ℕ) → (escape : List ℕ) × IsEscape escape × (line ≡ escape ++ without_escape line)
escape_in [] = ([], inl refl, refl)
escape_in (byte ∷ line) =
    elim (cases_Bool (byte == 92)) [
      | inl is ↦ (92 ∷ [], inr refl, rw is (rw (eqb-true byte 92 is) refl))
      | inr isnt ↦ ([], inl refl, rw isnt refl)
    ]

pub says_read : (line : List ℕ) (digest : Digest) → digest_on line ≡ Some digest → IsDigestLine line digest
says_read line digest e =
    let by = found_by (λ alg. digest_by alg (without_escape line)) all_algs digest e in
    let p = by_is by.0 (without_escape line) digest by.1 in
    let cut = escape_in line in
    record {
      escape = cut.0;
      digits = p.digits;
      mark = p.mark;
      name = p.name;
      escape_is = cut.1;
      value_is = p.value_is;
      value_size = p.value_size;
      mark_is = p.mark_is;
      spelled = cut.2 ∙ ap (λ (l : List ℕ). cut.0 ++ l) p.spelled;
    }

no_escape : (digits rest : List ℕ) → 0 < length digits → AllByRecursion (λ x. is_hex_digit x ≡ true) digits
    → without_escape (digits ++ rest) ≡ digits ++ rest
no_escape [] rest some all = absurd (omega (arith, some))
no_escape (first ∷ digits) rest some all =
    let isnt : (first == 92) ≡ false = false_from_ne_true (first == 92) (λ e. (hex_not first all.0).1 (eqb-true first 92 e)) in rw isnt refl

unescaped : (escape digits rest : List ℕ) → IsEscape escape → 0 < length digits → AllByRecursion (λ x. is_hex_digit x ≡ true) digits
    → without_escape (escape ++ (digits ++ rest)) ≡ digits ++ rest
unescaped escape digits rest (inl is) some all = ap (λ (l : List ℕ). without_escape (l ++ (digits ++ rest))) is ∙ no_escape digits rest some all
unescaped escape digits rest (inr is) some all = rw is refl

plain_in : (line : List ℕ) (digest : Digest) → IsDigestLine line digest → IsPlain (without_escape line) digest
plain_in line digest says =
    let digits_are = decode_of-ok says.digits (bytes_of digest) says.value_is in
    let some : 0 < length says.digits = omega (arith, digits_count says.digits digest says.value_is says.value_size, some_bytes (alg_of digest)) in
    record {
      digits = says.digits;
      mark = says.mark;
      name = says.name;
      value_is = says.value_is;
      value_size = says.value_size;
      mark_is = says.mark_is;
      spelled = ap without_escape says.spelled
          ∙ unescaped says.escape says.digits (says.mark ++ says.name) says.escape_is some (recursion_from_All _ says.digits digits_are.1);
    }

pub says_again : (line : List ℕ) (digest : Digest) → IsDigestLine line digest → digest_on line ≡ Some digest
says_again line digest says =
    let p = plain_in line digest says in
    first_is (λ alg. digest_by alg (without_escape line))
    (λ a b x y first second. plain_once (without_escape line) x y (by_is a (without_escape line) x first) (by_is b (without_escape line) y second))
    (alg_of digest) digest (by_again (without_escape line) digest p) (digest_on line) refl

pub says_iff : (line : List ℕ) (digest : Digest) → (digest_on line ≡ Some digest) ↔ IsDigestLine line digest
says_iff line digest = (says_read line digest, says_again line digest)

-- ---- what `digest_by` returns

pub digest_here : (alg : Alg) (bytes digits after : List ℕ) (result : Option Digest) → digits ≡ take (2 * size_of alg) bytes
    → after ≡ drop (2 * size_of alg) bytes → begins_with_mark after ≡ true
    → IsSome result ↔ ((length digits ≡ 2 * size_of alg) × AllPass is_hex_digit digits)
    → IfSome result (λ digest. (alg_of digest ≡ alg) × (decode_of digits ≡ Ok (bytes_of digest)))
    → result ≡ digest_by alg bytes
unfolding digest_by
digest_here alg bytes digits after result prefix back mark found value =
    let n = 2 * size_of alg in
    let test : begins_with_mark (drop n bytes) ≡ true = ap begins_with_mark (sym back) ∙ mark in
    let long : 0 < length bytes - n = omega (arith, some_after (drop n bytes) test, length-drop n bytes) in
    let size : length digits ≡ n = ap length prefix ∙ length-take-le n bytes (omega (arith, long)) in
    hex_digest alg digits result size found value
    ∙ ap (λ (l : List ℕ). option_map (digest_of alg) (result_ok (decode_of l))) prefix
    ∙ sym (ap (λ b. cond b (option_map (digest_of alg) (result_ok (decode_of (take n bytes)))) None) test)

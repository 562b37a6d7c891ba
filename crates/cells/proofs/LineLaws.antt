-- Values whose numbers are decimal and that nest little are one line each.
use Rattle.std.proofs.Common.{◌≡◌, ℕ, suc, zero, ◌+◌, ◌%◌, ◌^◌, ◌<◌, ◌≤◌, Bool, true, false, cond, ◌&&◌, List, [], ◌∷◌, ◌++◌, Some, refl, sym, ap, subst, ◌∙◌, arith, decimal, inl, inr}
use Rattle.std.specs.Prelude.{⊤, nat_le}
use Rattle.std.specs.List.{AllByRecursion}
use Rattle.std.proofs.ByRecursion.{All-append}
use Rattle.std.proofs.lemmas.Bool.{and_from, and_parts, cases_eq, cases_lt, le-leb}
use Rattle.std.proofs.lemmas.Fmt.{decimal_by_steps}
use Rattle.std.proofs.lemmas.List.{append_cancel_right}
use Rattle.std.proofs.lemmas.List.Folds.{list_all-append}
use Rattle.json.specs.Token.{Token}
use Rattle.json.specs.Json.{Json, null, boolean, number, string, array, object, Items, no_items, item, Members, no_members, member, document}
use Rattle.json.specs.Print.{begins, ends, escape, escape_byte, print, print_from, quoted, separator, token_text}
use Rattle.json.specs.Tree.{HasNumbers, ItemsHaveNumbers, MembersHaveNumbers, depth, items_depth, items_tokens, json_tokens, members_depth, members_tokens}
use Rattle.json.proofs.Printed.Decimals.{IsNumber-decimal}
use Rattle.json.proofs.Printed.Strings.{escape_byte_plain}
use Rattle.json.proofs.Printed.Trees.{document-print}
use Rattle.cells.specs.Values.{IsOneLine, Member, has_no_control, items_of, line_of, members_of}

joined : (xs ys : List ℕ) → has_no_control xs ≡ true → has_no_control ys ≡ true → has_no_control (xs ++ ys) ≡ true
joined xs ys first second = rw (list_all-append (λ byte. nat_le 32 byte) xs ys, first) second

one : (x : ℕ) → 32 ≤ x → has_no_control (x ∷ []) ≡ true
one x fits = and_from _ _ (le-leb 32 x fits) refl

-- ---- strings

below : ℕ → Bool
below zero = true
below (suc n) = has_no_control (escape_byte n) && below n

each_below : (n x : ℕ) → below n ≡ true → x < n → has_no_control (escape_byte x) ≡ true
unfolding below
each_below zero x all within = absurd (omega (arith, within))
each_below (suc n) x all within =
    let parts = and_parts (has_no_control (escape_byte n)) (below n) all in
    elim (cases_eq x n) [
      | inl same ↦ subst (λ (k : ℕ). has_no_control (escape_byte k) ≡ true) (sym same) parts.0
      | inr other ↦ each_below n x parts.1 (omega (arith, within, other))
    ]

first_in_line : below 93 ≡ true
unfolding below escape_byte
first_in_line = refl

byte_in_line : (x : ℕ) → has_no_control (escape_byte x) ≡ true
byte_in_line x =
    elim (cases_lt x 93) [
      | inl low ↦ each_below 93 x first_in_line low
      | inr high ↦
          let plain = escape_byte_plain x (λ e. omega (arith, e, high)) (λ e. omega (arith, e, high)) (omega (arith, high)) in
          rw plain (one x (omega (arith, high)))
    ]

escape_in_line : (s : List ℕ) → has_no_control (escape s) ≡ true
escape_in_line [] = refl
escape_in_line (x ∷ s) = joined (escape_byte x) (escape s) (byte_in_line x) (escape_in_line s)

quoted_in_line : (s : List ℕ) → has_no_control (quoted s) ≡ true
quoted_in_line s = joined (34 ∷ []) (escape s ++ 34 ∷ []) refl (joined (escape s) (34 ∷ []) (escape_in_line s) refl)

-- ---- tokens

InLine : Token → Type 0
InLine t = has_no_control (token_text t) ≡ true

comma_in_line : (b : Bool) → has_no_control (cond b (44 ∷ []) []) ≡ true
comma_in_line true = refl
comma_in_line false = refl

printed : (after : Bool) (ts : List Token) → AllByRecursion InLine ts → has_no_control (print_from after ts) ≡ true
unfolding InLine print_from
printed after [] are = refl
printed after (t ∷ ts) are =
    joined (separator after t) (token_text t ++ print_from (ends t) ts) (comma_in_line (after && begins t))
    (joined (token_text t) (print_from (ends t) ts) are.0 (printed (ends t) ts are.1))

decimal_in_line : (n : ℕ) → n < 2 ^ 64 → has_no_control (decimal n) ≡ true
decimal_in_line n fits =
    decimal_by_steps (λ k ds. has_no_control ds ≡ true) (λ k few. one (48 + k) (omega arith))
    (λ k ds many so_far. joined ds ((48 + k % 10) ∷ []) so_far (one (48 + k % 10) (omega arith))) n fits

flag_in_line : (b : Bool) → has_no_control (token_text (Token.boolean b)) ≡ true
flag_in_line true = refl
flag_in_line false = refl

-- ---- values

-- Each number is a decimal one, and arrays and objects nest at most so deep.
abbrev mutual
  pub IsPlain : Json → ℕ → Type 0
  IsPlain null most = ⊤
  IsPlain (boolean b) most = ⊤
  IsPlain (number s) most = (n : ℕ) × (n < 2 ^ 64) × (s ≡ decimal n)
  IsPlain (string s) most = ⊤
  IsPlain (array js) zero = ⊥
  IsPlain (array js) (suc most) = ItemsArePlain js most
  IsPlain (object ms) zero = ⊥
  IsPlain (object ms) (suc most) = MembersArePlain ms most

  pub ItemsArePlain : Items → ℕ → Type 0
  ItemsArePlain no_items most = ⊤
  ItemsArePlain (item j js) most = IsPlain j most × ItemsArePlain js most

  pub MembersArePlain : Members → ℕ → Type 0
  MembersArePlain no_members most = ⊤
  MembersArePlain (member k j ms) most = IsPlain j most × MembersArePlain ms most

abbrev pub ArePlain : List Member → ℕ → Type 0
ArePlain ms most = MembersArePlain (members_of ms) most

pub members_joined : (most : ℕ) (ms ns : List Member) → ArePlain ms most → ArePlain ns most → ArePlain (ms ++ ns) most
members_joined most [] ns first second = second
members_joined most (m ∷ ms) ns first second = (first.0, members_joined most ms ns first.1 second)

pub values_joined : (most : ℕ) (js ks : List Json) → ItemsArePlain (items_of js) most → ItemsArePlain (items_of ks) most
    → ItemsArePlain (items_of (js ++ ks)) most
values_joined most [] ks first second = second
values_joined most (j ∷ js) ks first second = (first.0, values_joined most js ks first.1 second)

-- What nests little nests no deeper than one more.
mutual
  deeper : (j : Json) (most : ℕ) → IsPlain j most → IsPlain j (suc most)
  deeper null most is = tt
  deeper (boolean b) most is = tt
  deeper (number s) most is = is
  deeper (string s) most is = tt
  deeper (array js) zero is = absurd is
  deeper (array js) (suc most) is = items_deeper js most is
  deeper (object ms) zero is = absurd is
  deeper (object ms) (suc most) is = members_deeper ms most is

  items_deeper : (js : Items) (most : ℕ) → ItemsArePlain js most → ItemsArePlain js (suc most)
  items_deeper no_items most is = tt
  items_deeper (item j js) most is = (deeper j most is.0, items_deeper js most is.1)

  pub members_deeper : (ms : Members) (most : ℕ) → MembersArePlain ms most → MembersArePlain ms (suc most)
  members_deeper no_members most is = tt
  members_deeper (member k j ms) most is = (deeper j most is.0, members_deeper ms most is.1)

mutual
  unfolding InLine

  tokens : (j : Json) (most : ℕ) → IsPlain j most → HasNumbers j × (depth j ≤ most) × AllByRecursion InLine (json_tokens j)
  tokens null most is = (tt, omega arith, (refl, tt))
  tokens (boolean b) most is = (tt, omega arith, (flag_in_line b, tt))
  tokens (number s) most is = (rw is.2 (IsNumber-decimal is.0 is.1), omega arith, (rw is.2 (decimal_in_line is.0 is.1), tt))
  tokens (string s) most is = (tt, omega arith, (quoted_in_line s, tt))
  tokens (array js) zero is = absurd is
  tokens (array js) (suc most) is =
      let items = tokens_of_items js most is in
      (items.0, omega (arith, items.1), (refl, items.2))
  tokens (object ms) zero is = absurd is
  tokens (object ms) (suc most) is =
      let members = tokens_of_members ms most is in
      (members.0, omega (arith, members.1), (refl, members.2))

  tokens_of_items : (js : Items) (most : ℕ) → ItemsArePlain js most
      → ItemsHaveNumbers js × (items_depth js ≤ most) × AllByRecursion InLine (items_tokens js)
  tokens_of_items no_items most is = (tt, omega arith, (refl, tt))
  tokens_of_items (item j js) most is =
      let first = tokens j most is.0 in
      let rest = tokens_of_items js most is.1 in
      ((first.0, rest.0), omega (arith, first.1, rest.1), All-append InLine (json_tokens j) (items_tokens js) first.2 rest.2)

  tokens_of_members : (ms : Members) (most : ℕ) → MembersArePlain ms most
      → MembersHaveNumbers ms × (members_depth ms ≤ most) × AllByRecursion InLine (members_tokens ms)
  tokens_of_members no_members most is = (tt, omega arith, (refl, tt))
  tokens_of_members (member k j ms) most is =
      let first = tokens j most is.0 in
      let rest = tokens_of_members ms most is.1 in (
        (first.0, rest.0),
        omega (arith, first.1, rest.1),
        (joined (quoted k) (58 ∷ []) (quoted_in_line k) refl, All-append InLine (json_tokens j) (members_tokens ms) first.2 rest.2),
      )

pub line_within : (most : ℕ) (j : Json) → most ≤ 8 → IsPlain j most → IsOneLine j
line_within most j few is =
    let parts = tokens j most is in
    record { reads_back = document-print j parts.0 (omega (arith, parts.1, few)); in_line = printed false (json_tokens j) parts.2 }

pub one_line : (j : Json) → IsPlain j 3 → IsOneLine j
one_line j is = line_within 3 j (omega arith) is

-- ---- two lines

pub same_line : (j k : Json) → IsOneLine j → IsOneLine k → line_of j ≡ line_of k → j ≡ k
same_line j k first second same =
    let text = append_cancel_right (print (json_tokens j)) (print (json_tokens k)) (10 ∷ []) same in
    let both : Some j ≡ Some k = sym first.reads_back ∙ ap document text ∙ second.reads_back in
    cc both

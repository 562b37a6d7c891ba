-- Cells that are shown one after another.
use Rattle.std.proofs.Common.{◌≡◌, zero, suc, arith, ℕ, ◌+◌, ◌<◌, List, [], ◌∷◌, ◌++◌, Result, Ok, Err, length, get_or, take, refl, sym, ap, subst, ◌∙◌, append_assoc, append-nil, codes, map}
use Rattle.std.specs.Prelude.{flat_map}
use Rattle.std.proofs.lemmas.List.{flat_map_more, take_more}
use Rattle.std.proofs.lemmas.List.Concat.{flat_map-append}
use Rattle.std.proofs.lemmas.List.Folds.{flat_map-map}
use Rattle.std.proofs.Math.Seq.{take-length}
use Rattle.json.specs.Token.{Token}
use Rattle.json.specs.Json.{Json}
use Rattle.json.specs.Tree.{items_tokens, json_tokens, members_tokens}
use Rattle.cells.specs.declared.writer.CellWriter.{CellWriter}
use Rattle.cells.specs.declared.writer.Form.{Form}
use Rattle.cells.specs.Values.{Member, array_of, items_of, member_tokens, members_of, object_of}
use Rattle.cells.specs.Cells.{Cell, HasShown, Shows, ShowsItems, ShowsMembers, ShowsTokens, bare, beside, each, list_at, nothing, object, object_at, one_token, printed, rendered}
use Rattle.cells.specs.declared.writer.Form.TheVariants as forms
use Rattle.std.specs.Prelude.{IfOk}
use Rattle.std.specs.Str.{IsAscii, IsUtf8}
use Rattle.std.proofs.lemmas.Str.{IsUtf8-append, IsUtf8-from_ascii}
use Rattle.std.specs.declared.alloc.AllocError.{AllocError}
use Rattle.json.specs.Print.{print}

-- Two cells that are the same as text and as tokens.
like : (form : Form) (out : CellWriter) (first second : Cell Token) → first.text ≡ second.text → first.json ≡ second.json
    → HasShown form out first → HasShown form out second
like form out first second texts jsons has =
    subst (λ t. HasShown form out (record { text = t; json = second.json })) texts
    (subst (λ j. HasShown form out (record { text = first.text; json = j })) jsons has)

module _ {A : Type 0} {E : Type 0} {tokens_of : A → List Token} {old new : CellWriter} where
  pub none_shown : old ≡ new → Shows {E = E} tokens_of (Ok tt) old new nothing
  none_shown same = record {
    shown = λ form shown has.
        like form new shown _ (sym (append-nil shown.text)) (sym (append-nil shown.json)) (subst (λ o. HasShown form o shown) same has);
  }

module _ {A : Type 0} {E F : Type 0} {tokens_of : A → List Token} {old mid new : CellWriter} where
  pub joined : {first second : Cell A} {result : Result (Unit {0}) F} → Shows {E = E} tokens_of (Ok tt) old mid first
      → Shows tokens_of result mid new second → Shows tokens_of result old new (beside first second)
  unfolding beside
  joined {first = first} {second = second} {result = Ok x} p q = record {
    shown = λ form shown has.
        like form new _ _ (append_assoc shown.text first.text second.text)
        (append_assoc shown.json (flat_map tokens_of first.json) (flat_map tokens_of second.json)
        ∙ ap (λ (ts : List Token). shown.json ++ ts) (sym (flat_map-append tokens_of first.json second.json)))
        (q.shown form _ (p.shown form shown has));
  }
  joined {result = Err e} p q = record { shown = tt }

-- The tokens of an object's members, and its end.
pub members_and_end : (ms : List Member) → members_tokens (members_of ms) ≡ flat_map member_tokens ms ++ Token.end_object ∷ []
members_and_end [] = refl
members_and_end (m ∷ ms) =
    ap (λ (ts : List Token). Token.key m.0 ∷ (json_tokens m.1 ++ ts)) (members_and_end ms)
    ∙ sym (append_assoc (member_tokens m) (flat_map member_tokens ms) (Token.end_object ∷ []))

-- The tokens of an array's items, and its end.
pub items_and_end : (js : List Json) → items_tokens (items_of js) ≡ flat_map json_tokens js ++ Token.end_array ∷ []
items_and_end [] = refl
items_and_end (j ∷ js) =
    ap (λ (ts : List Token). json_tokens j ++ ts) (items_and_end js)
    ∙ sym (append_assoc (json_tokens j) (flat_map json_tokens js) (Token.end_array ∷ []))

-- Tokens between two others.
between : (start opening inner closing whole : List Token) → whole ≡ opening ++ (inner ++ closing)
    → ((start ++ opening) ++ inner) ++ closing ≡ start ++ whole
between start opening inner closing whole is =
    append_assoc (start ++ opening) inner closing ∙ append_assoc start opening (inner ++ closing) ∙ ap (λ (ts : List Token). start ++ ts) (sym is)

-- Each token is itself.
same_tokens : (ts : List Token) → flat_map one_token ts ≡ ts
same_tokens [] = refl
same_tokens (t ∷ ts) = ap (λ (us : List Token). t ∷ us) (same_tokens ts)

module _ {E F : Type 0} {old opened closed new : CellWriter} where
  -- What stands between brackets.
  bracketed : {A B : Type 0} {of_a : A → List Token} {of_b : B → List Token} (opening closing : List Token) (inner : Cell A) (whole : Cell B)
      (result : Result (Unit {0}) F) → whole.text ≡ inner.text → flat_map of_b whole.json ≡ opening ++ (flat_map of_a inner.json ++ closing)
      → ShowsTokens {E = E} (Ok tt) old opened (bare opening) → Shows {E = E} of_a (Ok tt) opened closed inner
      → ShowsTokens result closed new (bare closing) → Shows of_b result old new whole
  bracketed {of_a = of_a} {of_b = of_b} opening closing inner whole (Ok x) texts tokens first p last = record {
    shown = λ form shown has.
        like form new _ _
        (append-nil ((shown.text ++ []) ++ inner.text) ∙ ap (λ (t : List ℕ). t ++ inner.text) (append-nil shown.text)
        ∙ ap (λ (t : List ℕ). shown.text ++ t) (sym texts))
        (ap (λ (ts : List Token). ((shown.json ++ flat_map one_token opening) ++ flat_map of_a inner.json) ++ ts) (same_tokens closing)
        ∙ ap (λ (ts : List Token). ((shown.json ++ ts) ++ flat_map of_a inner.json) ++ closing) (same_tokens opening)
        ∙ between shown.json opening (flat_map of_a inner.json) closing (flat_map of_b whole.json) tokens)
        (last.shown form _ (p.shown form _ (first.shown form shown has)));
  }
  bracketed opening closing inner whole (Err e) texts tokens first p last = record { shown = tt }

  pub in_object : {cell : Cell Member} {result : Result (Unit {0}) F} → ShowsTokens {E = E} (Ok tt) old opened (bare (Token.begin_object ∷ []))
      → ShowsMembers {E = E} (Ok tt) opened closed cell → ShowsTokens result closed new (bare (Token.end_object ∷ []))
      → ShowsItems result old new (object cell)
  unfolding object
  in_object {cell = cell} {result = result} first p last =
      bracketed (Token.begin_object ∷ []) (Token.end_object ∷ []) cell (object cell) result refl
      (append-nil (json_tokens (object_of cell.json)) ∙ ap (λ (ts : List Token). Token.begin_object ∷ ts) (members_and_end cell.json))
      first p last

  pub in_object_at : {name : List ℕ} {cell : Cell Member} {result : Result (Unit {0}) F}
      → ShowsTokens {E = E} (Ok tt) old opened (bare (Token.key name ∷ Token.begin_object ∷ []))
      → ShowsMembers {E = E} (Ok tt) opened closed cell → ShowsTokens result closed new (bare (Token.end_object ∷ []))
      → ShowsMembers result old new (object_at name cell)
  unfolding object_at
  in_object_at {name = name} {cell = cell} {result = result} first p last =
      bracketed (Token.key name ∷ Token.begin_object ∷ []) (Token.end_object ∷ []) cell (object_at name cell) result refl
      (append-nil (member_tokens (name, object_of cell.json))
      ∙ ap (λ (ts : List Token). Token.key name ∷ Token.begin_object ∷ ts) (members_and_end cell.json))
      first p last

  pub in_list : {name : List ℕ} {cell : Cell Json} {result : Result (Unit {0}) F}
      → ShowsTokens {E = E} (Ok tt) old opened (bare (Token.key name ∷ Token.begin_array ∷ []))
      → ShowsItems {E = E} (Ok tt) opened closed cell → ShowsTokens result closed new (bare (Token.end_array ∷ []))
      → ShowsMembers result old new (list_at name cell)
  unfolding list_at
  in_list {name = name} {cell = cell} {result = result} first p last =
      bracketed (Token.key name ∷ Token.begin_array ∷ []) (Token.end_array ∷ []) cell (list_at name cell) result refl
      (append-nil (member_tokens (name, array_of cell.json))
      ∙ ap (λ (ts : List Token). Token.key name ∷ Token.begin_array ∷ ts) (items_and_end cell.json))
      first p last

-- ---- loops

-- What a loop has shown, in which nothing was refused.
abbrev pub HasEach : {X A : Type 0} → (A → List Token) → CellWriter → CellWriter → (X → Cell A) → List X → Type 0
HasEach tokens_of old now cell_of xs = Shows {E = AllocError} tokens_of (Ok tt) old now (each cell_of xs)

-- Before the first.
pub no_rows : {X A E : Type 0} {tokens_of : A → List Token} (cell_of : X → Cell A) (out : CellWriter)
    → Shows {E = E} tokens_of (Ok tt) out out (each cell_of [])
unfolding each
no_rows cell_of out = none_shown refl

-- One more.
pub one_more : {X A E : Type 0} {tokens_of : A → List Token} {start now next : CellWriter} (cell_of : X → Cell A) (xs : List X) (i : ℕ) (d : X)
    → i < length xs → Shows {E = E} tokens_of (Ok tt) start now (each cell_of (take i xs))
    → Shows {E = E} tokens_of (Ok tt) now next (cell_of (get_or xs i d)) → Shows {E = E} tokens_of (Ok tt) start next (each cell_of (take (i + 1) xs))
unfolding each beside
one_more {X = X} {A = A} {E = E} {tokens_of = tokens_of} {start = start} {now = now} {next = next} cell_of xs i d lt before more =
    let x = get_or xs i d in
    let text = flat_map_more (λ x. (cell_of x).text) [] (take i xs) x ∙ ap (λ (ys : List X). flat_map (λ x. (cell_of x).text) ys) (sym (take_more xs i d lt)) in
    let json = flat_map_more (λ x. (cell_of x).json) [] (take i xs) x ∙ ap (λ (ys : List X). flat_map (λ x. (cell_of x).json) ys) (sym (take_more xs i d lt)) in
    subst (λ t. Shows {E = E} tokens_of (Ok tt) start next (record { text = t; json = flat_map (λ x. (cell_of x).json) (take (i + 1) xs) })) text
    (subst (λ j. Shows {E = E} tokens_of (Ok tt) start next
    (record { text = flat_map (λ x. (cell_of x).text) (take i xs) ++ (cell_of x).text; json = j })) json (joined before more))

-- All of them.
pub all_shown : {X A E : Type 0} {tokens_of : A → List Token} {old now : CellWriter} (cell_of : X → Cell A) (xs : List X) (i : ℕ) → i ≡ length xs
    → Shows {E = E} tokens_of (Ok tt) old now (each cell_of (take i xs)) → Shows {E = E} tokens_of (Ok tt) old now (each cell_of xs)
all_shown {X = X} {A = A} {E = E} {tokens_of = tokens_of} {old = old} {now = now} cell_of xs i all shown =
    subst (λ (ys : List X). Shows {E = E} tokens_of (Ok tt) old now (each cell_of ys)) (ap (λ (n : ℕ). take n xs) all ∙ take-length xs) shown

-- All of them, of what each item is seen as.
pub all_mapped : {X Y A E : Type 0} {tokens_of : A → List Token} {old now : CellWriter} (cell_of : Y → Cell A) (seen : X → Y) (xs : List X) (i : ℕ)
    → i ≡ length xs → Shows {E = E} tokens_of (Ok tt) old now (each (λ x. cell_of (seen x)) (take i xs))
    → Shows {E = E} tokens_of (Ok tt) old now (each cell_of (map seen xs))
unfolding each
all_mapped cell_of seen xs i all shown =
    rw (flat_map-map (λ y. (cell_of y).text) seen xs, flat_map-map (λ y. (cell_of y).json) seen xs)
    (all_shown (λ x. cell_of (seen x)) xs i all shown)

-- ---- the whole

-- An object from nothing is the result in its form.
pub whole_shown : {E : Type 0} (form : Form) (start out : CellWriter) (cell : Cell Member) (bytes : List ℕ) → HasShown form start nothing
    → ShowsItems {E = E} (Ok tt) start out (object cell)
    → ((form : Form) (shown : Cell Token) → HasShown form out shown → bytes ≡ printed form shown) → bytes ≡ rendered form cell
unfolding object
whole_shown forms.Text start out cell bytes empty shows gives = gives forms.Text _ (shows.shown forms.Text nothing empty)
whole_shown forms.Json start out cell bytes empty shows gives =
    gives forms.Json _ (shows.shown forms.Json nothing empty)
    ∙ ap (λ (ts : List Token). print ts ++ codes "\n") (append-nil (json_tokens (object_of cell.json)))

-- What was not refused is the result in its form.
pub all_rendered : {B E F : Type 0} (items : B → List ℕ) (form : Form) (start out : CellWriter) (cell : Cell Member) (result : Result B F)
    → HasShown form start nothing → ShowsItems {E = E} (Ok tt) start out (object cell)
    → IfOk result (λ bytes. (form : Form) (shown : Cell Token) → HasShown form out shown → items bytes ≡ printed form shown)
    → IfOk result (λ bytes. items bytes ≡ rendered form cell)
all_rendered items form start out cell (Ok bytes) empty shows gives = whole_shown form start out cell (items bytes) empty shows gives
all_rendered items form start out cell (Err e) empty shows gives = tt

-- JSON that was not refused is UTF-8.
pub all_utf8 : {B E F : Type 0} (items : B → List ℕ) (form : Form) (start out : CellWriter) (cell : Cell Member) (result : Result B F)
    → HasShown form start nothing → ShowsItems {E = E} (Ok tt) start out (object cell)
    → IfOk result (λ bytes. (shown : Cell Token) → HasShown forms.Json out shown → IsUtf8 (items bytes))
    → IfOk result (λ bytes. form ≡ forms.Json → IsUtf8 (items bytes))
all_utf8 {E = E} items form start out cell (Ok bytes) empty shows gives =
    let all : Cell Token = record { text = (object cell).text; json = flat_map json_tokens (object cell).json } in
    λ is. gives all (subst (λ (f : Form). HasShown f out all) is (shows.shown form nothing empty))
all_utf8 items form start out cell (Err e) empty shows gives = tt

line_feed : IsAscii (10 ∷ [])
line_feed zero = omega arith
line_feed (suc i) = omega arith

-- A text and a line feed.
pub line_utf8 : (before text items : List ℕ) → items ≡ (before ++ text) ++ 10 ∷ [] → before ≡ [] → IsUtf8 text → IsUtf8 items
line_utf8 before text items is empty utf8 =
    subst IsUtf8 (sym (is ∙ ap (λ (b : List ℕ). (b ++ text) ++ 10 ∷ []) empty))
    (IsUtf8-append text (10 ∷ []) utf8 (IsUtf8-from_ascii (10 ∷ []) line_feed))

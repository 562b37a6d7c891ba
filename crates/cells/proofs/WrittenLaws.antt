-- Tokens of members and of items that are written one after another.
use Rattle.std.proofs.Common.{◌≡◌, false, zero, suc, arith, ℕ, ◌+◌, ◌<◌, List, [], ◌∷◌, ◌++◌, Ok, length, get_or, take, map, sym, ap, subst, ◌∙◌, append_assoc, append-nil}
use Rattle.std.specs.Prelude.{flat_map}
use Rattle.std.proofs.lemmas.List.{flat_map_more, take_more}
use Rattle.std.proofs.lemmas.List.Concat.{flat_map-append}
use Rattle.std.proofs.lemmas.List.Folds.{flat_map-map}
use Rattle.std.proofs.Math.Seq.{take-length}
use Rattle.std.specs.Str.{IsAscii, IsUtf8, is_utf8}
use Rattle.std.specs.declared.alloc.AllocError.{AllocError}
use Rattle.std.proofs.lemmas.Str.{IsUtf8-append, IsUtf8-from_ascii, IsUtf8-from_is_utf8}
use Rattle.std.proofs.lemmas.Bool.{false_from_ne_true}
use Rattle.cells.proofs.CellLaws.{items_and_end, members_and_end}
use Rattle.json.specs.Token.{Token}
use Rattle.json.specs.Json.{Json}
use Rattle.json.specs.Tree.{json_tokens}
use Rattle.json.specs.Written.{Writes, Written}
use Rattle.cells.specs.Values.{Member, array_of, object_of, member_tokens}
use Rattle.cells.specs.Writing.{WritesItems, WritesMembers, WritesValue, items_written, members_written}

-- Bytes that are no text.
pub not_utf8 : (bytes : List ℕ) → (IsUtf8 bytes → ⊥) → is_utf8 bytes ≡ false
not_utf8 bytes other = false_from_ne_true (is_utf8 bytes) (λ is. other (IsUtf8-from_is_utf8 bytes is))

-- Two runs of tokens, one after another.
one_run : (start first second : List Token) {mid last : List Token} → mid ≡ start ++ first → last ≡ mid ++ second
    → last ≡ start ++ (first ++ second)
one_run start first second before after =
    after ∙ ap (λ (ts : List Token). ts ++ second) before ∙ append_assoc start first second

module _ {E : Type 0} {old mid new : Written} where
  pub joined : {ms ns : List Member} → WritesMembers {E = E} (Ok tt) old mid ms → WritesMembers {E = E} (Ok tt) mid new ns
      → WritesMembers {E = E} (Ok tt) old new (ms ++ ns)
  joined {ms} {ns} first second = record {
    before = second.before ∙ first.before;
    tokens = one_run old.tokens (members_written ms) (members_written ns) first.tokens second.tokens
        ∙ ap (λ (ts : List Token). old.tokens ++ ts) (sym (flat_map-append member_tokens ms ns));
  }

  pub items_joined : {js ks : List Json} → WritesItems {E = E} (Ok tt) old mid js → WritesItems {E = E} (Ok tt) mid new ks
      → WritesItems {E = E} (Ok tt) old new (js ++ ks)
  items_joined {js} {ks} first second = record {
    before = second.before ∙ first.before;
    tokens = one_run old.tokens (items_written js) (items_written ks) first.tokens second.tokens
        ∙ ap (λ (ts : List Token). old.tokens ++ ts) (sym (flat_map-append json_tokens js ks));
  }

  -- A key and a value are a member.
  pub named : {name : List ℕ} {value : Json} → Writes {E = E} (Ok tt) old mid (Token.key name) → WritesValue {E = E} (Ok tt) mid new value
      → WritesMembers {E = E} (Ok tt) old new ((name, value) ∷ [])
  named {name} {value} key written = record {
    before = written.before ∙ key.room.0;
    tokens = one_run old.tokens (Token.key name ∷ []) (json_tokens value) key.ok written.tokens
        ∙ ap (λ (ts : List Token). old.tokens ++ ts) (sym (append-nil (Token.key name ∷ json_tokens value)));
  }

  -- A key and a value of one token.
  pub single : {name : List ℕ} {value : Json} {token : Token} → Writes {E = E} (Ok tt) old mid (Token.key name)
      → Writes {E = E} (Ok tt) mid new token → json_tokens value ≡ token ∷ [] → WritesMembers {E = E} (Ok tt) old new ((name, value) ∷ [])
  single {value} key written same =
      named key (record { before = written.room.0; tokens = written.ok ∙ ap (λ (ts : List Token). mid.tokens ++ ts) (sym same) })

module _ {E : Type 0} {old opened closed new : Written} where
  pub in_object : {ms : List Member} → Writes {E = E} (Ok tt) old opened Token.begin_object → WritesMembers {E = E} (Ok tt) opened closed ms
      → Writes {E = E} (Ok tt) closed new Token.end_object → WritesValue {E = E} (Ok tt) old new (object_of ms)
  in_object {ms} first members last = record {
    before = last.room.0 ∙ members.before ∙ first.room.0;
    tokens = one_run old.tokens (Token.begin_object ∷ []) (members_written ms ++ Token.end_object ∷ []) first.ok
        (one_run opened.tokens (members_written ms) (Token.end_object ∷ []) members.tokens last.ok)
        ∙ ap (λ (ts : List Token). old.tokens ++ Token.begin_object ∷ ts) (sym (members_and_end ms));
  }

  pub in_array : {js : List Json} → Writes {E = E} (Ok tt) old opened Token.begin_array → WritesItems {E = E} (Ok tt) opened closed js
      → Writes {E = E} (Ok tt) closed new Token.end_array → WritesValue {E = E} (Ok tt) old new (array_of js)
  in_array {js} first items last = record {
    before = last.room.0 ∙ items.before ∙ first.room.0;
    tokens = one_run old.tokens (Token.begin_array ∷ []) (items_written js ++ Token.end_array ∷ []) first.ok
        (one_run opened.tokens (items_written js) (Token.end_array ∷ []) items.tokens last.ok)
        ∙ ap (λ (ts : List Token). old.tokens ++ Token.begin_array ∷ ts) (sym (items_and_end js));
  }

-- A value is an item.
pub one_item : {E : Type 0} {old new : Written} {value : Json} → WritesValue {E = E} (Ok tt) old new value → WritesItems {E = E} (Ok tt) old new (value ∷ [])
one_item {old = old} {value = value} written = record {
  before = written.before;
  tokens = written.tokens ∙ ap (λ (ts : List Token). old.tokens ++ ts) (sym (append-nil (json_tokens value)));
}

-- The tokens of what one thing more gives.
more_written : {X Y : Type 0} (g : Y → List Token) (f : X → List Y) (xs : List X) (i : ℕ) (d : X) (start now next : List Token) → i < length xs
    → now ≡ start ++ flat_map g (flat_map f (take i xs)) → next ≡ now ++ flat_map g (f (get_or xs i d))
    → next ≡ start ++ flat_map g (flat_map f (take (i + 1) xs))
more_written {X} {Y} g f xs i d start now next lt before more =
    let x = get_or xs i d in
    let so-far = flat_map f (take i xs) in
    one_run start (flat_map g so-far) (flat_map g (f x)) before more
    ∙ ap (λ (ts : List Token). start ++ ts)
    (sym (flat_map-append g so-far (f x))
    ∙ ap (λ (ys : List Y). flat_map g ys) (flat_map_more f [] (take i xs) x ∙ ap (λ (ys : List X). flat_map f ys) (sym (take_more xs i d lt))))

module _ {E X : Type 0} {start now next : Written} (xs : List X) (i : ℕ) (d : X) (within : i < length xs) where
  -- What one thing more gives, in an array or in an object.
  pub more_items : (f : X → List Json) → WritesItems {E = E} (Ok tt) start now (flat_map f (take i xs))
      → WritesItems {E = E} (Ok tt) now next (f (get_or xs i d)) → WritesItems {E = E} (Ok tt) start next (flat_map f (take (i + 1) xs))
  more_items f before more = record {
    before = more.before ∙ before.before;
    tokens = more_written json_tokens f xs i d start.tokens now.tokens next.tokens within before.tokens more.tokens;
  }

  pub more_members : (f : X → List Member) → WritesMembers {E = E} (Ok tt) start now (flat_map f (take i xs))
      → WritesMembers {E = E} (Ok tt) now next (f (get_or xs i d)) → WritesMembers {E = E} (Ok tt) start next (flat_map f (take (i + 1) xs))
  more_members f before more = record {
    before = more.before ∙ before.before;
    tokens = more_written member_tokens f xs i d start.tokens now.tokens next.tokens within before.tokens more.tokens;
  }

  pub more_mapped : (f : X → Json) → WritesItems {E = E} (Ok tt) start now (map f (take i xs))
      → WritesValue {E = E} (Ok tt) now next (f (get_or xs i d)) → WritesItems {E = E} (Ok tt) start next (map f (take (i + 1) xs))
  more_mapped f before more =
      let tokens = λ (x : X). json_tokens (f x) in
      let same = λ (ys : List X). ap (λ (ts : List Token). start.tokens ++ ts) (flat_map-map json_tokens f ys) in
      record {
        before = more.before ∙ before.before;
        tokens =
            more.tokens ∙ ap (λ (ts : List Token). ts ++ tokens (get_or xs i d)) (before.tokens ∙ same (take i xs))
            ∙ flat_map_more tokens start.tokens (take i xs) (get_or xs i d)
            ∙ ap (λ (ys : List X). start.tokens ++ flat_map tokens ys) (sym (take_more xs i d within)) ∙ sym (same (take (i + 1) xs));
      }

-- What a loop has written, in which nothing was refused.
abbrev pub HasItems : Written → Written → List Json → Type 0
HasItems old new values = WritesItems {E = AllocError} (Ok tt) old new values

-- All of them are taken.
pub all_items : {E X : Type 0} {old now : Written} (f : List X → List Json) (xs : List X) (i : ℕ) → i ≡ length xs
    → WritesItems {E = E} (Ok tt) old now (f (take i xs)) → WritesItems {E = E} (Ok tt) old now (f xs)
all_items {E} {old = old} {now = now} f xs i all written =
    subst (λ ys. WritesItems {E = E} (Ok tt) old now (f ys)) (ap (λ (n : ℕ). take n xs) all ∙ take-length xs) written

pub all_members : {E X : Type 0} {old now : Written} (f : List X → List Member) (xs : List X) (i : ℕ) → i ≡ length xs
    → WritesMembers {E = E} (Ok tt) old now (f (take i xs)) → WritesMembers {E = E} (Ok tt) old now (f xs)
all_members {E} {old = old} {now = now} f xs i all written =
    subst (λ ys. WritesMembers {E = E} (Ok tt) old now (f ys)) (ap (λ (n : ℕ). take n xs) all ∙ take-length xs) written

-- Of all items some are written, and these are left.
pub record HasLeft (old now : Written) (left all : List Json) : Type 0 where
  pub before : now.before ≡ old.before
  pub tokens : now.tokens ++ items_written left ≡ old.tokens ++ items_written all

-- Some of those that were left are written.
pub some_written : {E : Type 0} {old mid new : Written} {left all js ks : List Json} → left ≡ js ++ ks → HasLeft old mid left all
    → WritesItems {E = E} (Ok tt) mid new js → HasLeft old new ks all
some_written {mid = mid} {js = js} {ks = ks} are has more = record {
  before = more.before ∙ has.before;
  tokens = ap (λ (ts : List Token). ts ++ items_written ks) more.tokens ∙ append_assoc mid.tokens (items_written js) (items_written ks)
      ∙ ap (λ (ts : List Token). mid.tokens ++ ts) (sym (flat_map-append json_tokens js ks) ∙ ap (λ (is : List Json). items_written is) (sym are))
      ∙ has.tokens;
}

-- None is left.
pub none_left : {E : Type 0} {old now : Written} {left all : List Json} → left ≡ [] → HasLeft old now left all
    → WritesItems {E = E} (Ok tt) old now all
none_left {now = now} are has = record {
  before = has.before;
  tokens = sym (append-nil now.tokens) ∙ ap (λ (is : List Json). now.tokens ++ items_written is) (sym are) ∙ has.tokens;
}

line_feed : IsAscii (10 ∷ [])
line_feed zero = omega arith
line_feed (suc i) = omega arith

-- A text and a line feed.
pub with_line_feed : (text : List ℕ) → IsUtf8 text → IsUtf8 (text ++ 10 ∷ [])
with_line_feed text is = IsUtf8-append text (10 ∷ []) is (IsUtf8-from_ascii (10 ∷ []) line_feed)

-- Registers that the lines of a text state, whatever the form of the lines: what is known of them as they are read one after another.
use Rattle.std.proofs.Common.{◌≡◌, ℕ, ◌+◌, ◌<◌, ◌≤◌, Bool, true, false, List, [], ◌∷◌, ◌++◌, length, Option, None, Some, option_map, Bor, refl, sym, ap, subst, ◌∙◌, arith, append_assoc, append-nil}
use Rattle.std.specs.Prelude.{IfSome, ◌||◌, option_to_list, Ok}
use Rattle.std.specs.List.{AllByRecursion, IsDistinct, list_any}
use Rattle.std.proofs.lemmas.List.{length-append}
use Rattle.pcr_banks.specs.declared.alg.Alg.{Alg}
use Rattle.pcr_banks.specs.declared.digest.Digest.{Digest}
use Rattle.pcr_banks.specs.Names.{alg_of, bytes_of, digest_of}
use Rattle.pcr_banks.proofs.SetLaws.{digest_again}
use Rattle.hex.specs.Hex.{decode_of}
use Rattle.hex.proofs.HexLemmas.{decode_of-same}
use Rattle.pcr_values.specs.declared.expected.Expected.{Expected}
use Rattle.pcr_values.specs.declared.expected.ExpectFault.{ExpectFault}
use Rattle.pcr_values.specs.declared.expected.ExpectFault.TheVariants.{BadLine, DoubleLine, Memory, NoRegister, NotChecked, NotSigned}
use Rattle.pcr_values.specs.Names.{AddsStated, AreStated, BeginsWithStated, HasFaultOfFirst, IsAdded, IsFaultOfLine, SayAll, Saying, SaysOnce, States, StatesAnother, lines_left, lines_of, same_register}

-- ---- one register

pub same_digest : (digest other : Digest) → alg_of digest ≡ alg_of other → bytes_of digest ≡ bytes_of other → digest ≡ other
same_digest digest other algs bytes =
    sym (digest_again digest) ∙ ap (λ (a : Alg). digest_of a (bytes_of digest)) algs
    ∙ ap (λ (b : List ℕ). digest_of (alg_of other) b) bytes ∙ digest_again other

-- Registers of the same bank, the same number and the same digits are the same.
pub same_expected : (e other : Expected) (digits more : List ℕ) → e.alg ≡ other.alg → e.register ≡ other.register → digits ≡ more
    → alg_of e.value ≡ e.alg → alg_of other.value ≡ other.alg → decode_of digits ≡ Ok (bytes_of e.value)
    → decode_of more ≡ Ok (bytes_of other.value) → e ≡ other
same_expected e other digits more algs registers same e_alg other_alg e_is other_is =
    let bytes = decode_of-same digits (bytes_of e.value) (bytes_of other.value) e_is (ap decode_of same ∙ other_is) in
    let values = same_digest e.value other.value (e_alg ∙ algs ∙ sym other_alg) bytes in
    ap (λ (a : Alg). let x : Expected = record { alg = a; register = e.register; value = e.value } in x) algs
    ∙ ap (λ (r : ℕ). let x : Expected = record { alg = other.alg; register = r; value = e.value } in x) registers
    ∙ ap (λ (v : Digest). let x : Expected = record { alg = other.alg; register = other.register; value = v } in x) values

-- ---- no register twice

both_false : (a b : Bool) → (a || b) ≡ false → (a ≡ false) × (b ≡ false)
both_false false b e = (refl, e)
both_false true b e = absurd cc

all_more : (x e : Expected) (expected : List Expected) → AllByRecursion (λ y. same_register x y ≡ false) expected → same_register x e ≡ false
    → AllByRecursion (λ y. same_register x y ≡ false) (expected ++ e ∷ [])
all_more x e [] all one = (one, tt)
all_more x e (y ∷ expected) all one = (all.0, all_more x e expected all.1 one)

distinct_more : (expected : List Expected) (e : Expected) → IsDistinct same_register expected
    → list_any (λ x. same_register x e) expected ≡ false → IsDistinct same_register (expected ++ e ∷ [])
unfolding IsDistinct
distinct_more [] e distinct none = (tt, tt)
distinct_more (x ∷ expected) e distinct none =
    let both = both_false (same_register x e) (list_any (λ y. same_register y e) expected) none in
    (all_more x e expected distinct.0 both.0, distinct_more expected e distinct.1 both.1)

all_at : (x e : Expected) (prefix back : List Expected) → AllByRecursion (λ y. same_register x y ≡ false) (prefix ++ e ∷ back)
    → same_register x e ≡ false
all_at x e [] back all = all.0
all_at x e (y ∷ prefix) back all = all_at x e prefix back all.1

distinct_apart : (prefix : List Expected) (e : Expected) (back : List Expected) → IsDistinct same_register (prefix ++ e ∷ back)
    → list_any (λ x. same_register x e) prefix ≡ false
unfolding IsDistinct
distinct_apart [] e back distinct = refl
distinct_apart (x ∷ prefix) e back distinct =
    ap (λ (b : Bool). b || list_any (λ y. same_register y e) prefix) (all_at x e prefix back distinct.0)
    ∙ distinct_apart prefix e back distinct.1

-- ---- one more line

added : (before after : List Expected) (stated : Option Expected) → IsAdded before stated after
    → after ≡ before ++ option_to_list stated
added before after None is = is ∙ sym (append-nil before)
added before after (Some e) is = is.1

added_distinct : (before after : List Expected) (stated : Option Expected) → IsDistinct same_register before → IsAdded before stated after
    → IsDistinct same_register after
added_distinct before after None distinct is = rw is distinct
added_distinct before after (Some e) distinct is = rw is.1 (distinct_more before e distinct is.0)

module _ {Position : Type 0} (Says : Saying Position) where
  -- One more line after others.
  say_more : (before : List (List ℕ)) (start position next : Position) (line : List ℕ) (expected : List Expected) (stated : Option Expected)
      → SayAll Says start before position expected → Says position line next stated
      → SayAll Says start (before ++ line ∷ []) next (expected ++ option_to_list stated)
  say_more [] start position next line expected stated all says = (
    next,
    stated,
    [],
    subst (λ (p : Position). Says p line next stated) all.0 says,
    (refl, refl),
    ap (λ (l : List Expected). l ++ option_to_list stated) all.1 ∙ sym (append-nil (option_to_list stated)),
  )
  say_more (first ∷ before) start position next line expected stated all says = (
    all.0,
    all.1,
    all.2 ++ option_to_list stated,
    all.3,
    say_more before all.0 position next line all.2 stated all.4 says,
    ap (λ (l : List Expected). l ++ option_to_list stated) all.5
        ∙ append_assoc (option_to_list all.1) all.2 (option_to_list stated),
  )

  -- What the others say, where the first lines lead to this position and state these registers.
  say_parted : SaysOnce Says → (before rest : List (List ℕ)) (start position end : Position) (expected prefix : List Expected)
      → SayAll Says start (before ++ rest) end expected → SayAll Says start before position prefix
      → (back : List Expected) × (expected ≡ prefix ++ back) × SayAll Says position rest end back
  say_parted one [] rest start position end expected prefix all some = (
    expected,
    ap (λ (l : List Expected). l ++ expected) (sym some.1),
    subst (λ (p : Position). SayAll Says p rest end expected) (sym some.0) all,
  )
  say_parted one (line ∷ before) rest start position end expected prefix all some =
      let same = one.once start all.0 some.0 line all.1 some.1 all.3 some.3 in
      let others = say_parted one before rest some.0 position end all.2 some.2
      (subst (λ (p : Position). SayAll Says p (before ++ rest) end all.2) same.0 all.4) some.4 in (
        others.0,
        all.5 ∙ ap (λ (o : Option Expected). option_to_list o ++ all.2) same.1
            ∙ ap (λ (l : List Expected). option_to_list some.1 ++ l) others.1
            ∙ sym (append_assoc (option_to_list some.1) some.2 others.0)
            ∙ ap (λ (l : List Expected). l ++ others.0) (sym some.5),
        others.2,
      )

  stated_more : (before : List (List ℕ)) (start position next : Position) (line : List ℕ) (expected after : List Expected)
      → AreStated Says start before position expected → AddsStated Says position line next expected after
      → AreStated Says start (before ++ line ∷ []) next after
  stated_more before start position next line expected after are adds = record {
    say = subst (λ (l : List Expected). SayAll Says start (before ++ line ∷ []) next l) (sym (added expected after adds.0 adds.2))
        (say_more before start position next line expected adds.0 are.say adds.1);
    distinct = added_distinct expected after adds.0 are.distinct adds.2;
  }

  -- A line of a text that states registers is not wrong.
  not_wrong : SaysOnce Says → (position end : Position) (line : List ℕ) (more : List (List ℕ)) (earlier back : List Expected) (number : ℕ)
      (fault : ExpectFault)
      → SayAll Says position (line ∷ more) end back → IsDistinct same_register (earlier ++ back)
      → IsFaultOfLine Says earlier position line number fault → ⊥
  not_wrong one position end line more earlier back number Memory all distinct wrong = wrong
  not_wrong one position end line more earlier back number NotChecked all distinct wrong = wrong
  not_wrong one position end line more earlier back number NotSigned all distinct wrong = wrong
  not_wrong one position end line more earlier back number NoRegister all distinct wrong = wrong
  not_wrong one position end line more earlier back number (BadLine at) all distinct wrong = wrong.1 all.0 all.1 all.3
  not_wrong one position end line more earlier back number (DoubleLine at) all distinct wrong =
      let e = wrong.1.1 in
      let same = one.once position all.0 wrong.1.0 line all.1 (Some e) all.3 wrong.1.2 in
      let back_is : back ≡ e ∷ all.2 = all.5 ∙ ap (λ (o : Option Expected). option_to_list o ++ all.2) same.1 in
      let apart = distinct_apart earlier e all.2 (subst (λ (l : List Expected). IsDistinct same_register (earlier ++ l)) back_is distinct) in
      let bad : false ≡ true = sym apart ∙ wrong.1.3 in
      absurd cc

  -- Lines lead to one end, and state one list of registers.
  pub ends_once : SaysOnce Says → (start end other : Position) (lines : List (List ℕ)) (first second : List Expected)
      → AreStated Says start lines end first → AreStated Says start lines other second → (end ≡ other) × (first ≡ second)
  ends_once one start end other lines first second p q =
      let all = subst (λ (l : List (List ℕ)). SayAll Says start l end first) (sym (append-nil lines)) p.say in
      let two = say_parted one lines [] start other end first second all q.say in
      (two.2.0, two.1 ∙ ap (λ (l : List Expected). second ++ l) two.2.1 ∙ append-nil second)

  -- A text has one reading.
  pub states_once : SaysOnce Says → (start : Position) (text : List ℕ) (first second : List Expected) → States Says start text first
      → States Says start text second → first ≡ second
  states_once one start text first second p q =
      (ends_once one start p.end q.end (lines_of text) first second p.stated q.stated).1

-- ---- line by line

-- How much of a text is left: its bytes and one, or nothing after the last line.
abbrev pub left_count : Option (Bor (List ℕ)) → ℕ
left_count None = 0
left_count (Some text) = length text.now + 1

-- The lines before `rest` are read: their number, what they state, and the position after them.
pub record ReadsSome {Position : Type 0} (Says : Saying Position) (start : Position) (text : List ℕ) (expected : List Expected) (number : ℕ)
    (position : Position) (rest : Option (Bor (List ℕ))) : Type 0 where
  pub before : List (List ℕ)
  pub parts : lines_of text ≡ before ++ lines_left (option_map (λ left. left.now) rest)
  pub stated : AreStated Says start before position expected
  pub count : length before ≡ number
  pub within : number + left_count rest ≤ length text + 1

-- Nothing is read yet.
pub reads_none : {Position : Type 0} (Says : Saying Position) (start : Position) (text : Bor (List ℕ))
    → ReadsSome Says start text.now [] 0 start (Some text)
unfolding IsDistinct
reads_none Says start text = record {
  before = [];
  parts = refl;
  stated = record { say = (refl, refl); distinct = tt };
  count = refl;
  within = omega arith;
}

left_within : (left : List ℕ) (rest : Option (Bor (List ℕ))) → IfSome rest (λ r. length r.now < length left) → left_count rest ≤ length left
left_within left None shorter = omega arith
left_within left (Some rest) shorter = omega (arith, shorter)

-- The line after those that were read.
module _ {Position : Type 0} {Says : Saying Position} {start position : Position} {text line : List ℕ} {expected : List Expected} {number : ℕ}
    {some : Option (Bor (List ℕ))} {left : Bor (List ℕ)} (rest : Option (Bor (List ℕ)))
    (on : ReadsSome Says start text expected number position some) (is : some ≡ Some left)
    (first : lines_of left.now ≡ line ∷ lines_left (option_map (λ r. r.now) rest)) where
  abbrev others : List (List ℕ)
  others = lines_left (option_map (λ r. r.now) rest)

  parts_at : lines_of text ≡ on.before ++ line ∷ others
  parts_at =
      on.parts ∙ ap (λ (left : Option (Bor (List ℕ))). on.before ++ lines_left (option_map (λ l. l.now) left)) is
      ∙ ap (λ (lines : List (List ℕ)). on.before ++ lines) first

  parts_after : lines_of text ≡ (on.before ++ line ∷ []) ++ others
  parts_after = parts_at ∙ sym (append_assoc on.before (line ∷ []) others)

  number_at : length (on.before ++ line ∷ []) ≡ number + 1
  number_at = length-append on.before (line ∷ []) ∙ ap (λ (n : ℕ). n + 1) on.count

  -- One more line is read.
  pub reads_more : {next : Position} {after : List Expected} → IfSome rest (λ r. length r.now < length left.now)
      → AddsStated Says position line next expected after → ReadsSome Says start text after (number + 1) next rest
  reads_more {next} {after} shorter adds = record {
    before = on.before ++ line ∷ [];
    parts = parts_after;
    stated = stated_more Says on.before start position next line expected after on.stated adds;
    count = number_at;
    within = omega (arith, on.within, ap left_count is, left_within left.now rest shorter);
  }

  -- The line states a register.
  pub begins_here : StatesAnother Says position line expected → BeginsWithStated Says start text
  begins_here another = record {
    lines = on.before ++ line ∷ [];
    after = others;
    position = another.0;
    expected = expected ++ another.1 ∷ [];
    parts = parts_after;
    stated = stated_more Says on.before start position another.0 line expected (expected ++ another.1 ∷ []) on.stated
        (Some another.1, another.2, (another.3, refl));
    some = omega (arith, length-append expected (another.1 ∷ []));
  }

  -- The line is the first wrong one.
  pub fault_here : (fault : ExpectFault) → IsFaultOfLine Says expected position line (number + 1) fault → HasFaultOfFirst Says start text fault
  fault_here fault wrong = record {
    before = on.before;
    line = line;
    after = others;
    position = position;
    earlier = expected;
    parts = parts_at;
    stated = on.stated;
    fault_is = subst (λ (n : ℕ). IsFaultOfLine Says expected position line n fault) (sym number_at) wrong;
  }

  -- No line of a text that states registers is wrong.
  pub no_fault : SaysOnce Says → (all : List Expected) → States Says start text all → (fault : ExpectFault)
      → IsFaultOfLine Says expected position line (number + 1) fault → ⊥
  no_fault one all states fault wrong =
      let two = say_parted Says one on.before (line ∷ others) start position states.end all expected
      (subst (λ (l : List (List ℕ)). SayAll Says start l states.end all) parts_at states.stated.say) on.stated.say in
      not_wrong Says one position states.end line others expected two.0 (number + 1) fault two.2 (rw two.1 at states.stated.distinct) wrong

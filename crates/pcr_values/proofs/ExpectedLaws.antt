-- Expected registers: where a text is split, and what a line spells.
use Rattle.std.proofs.Common.{rules, ◌≡◌, ℕ, suc, ◌^◌, ◌<◌, ◌*◌, List, [], ◌∷◌, ◌++◌, length, drop, slice_index, decimal, codes, Option, None, Some, refl, sym, ap, ◌∙◌, arith}
use Rattle.std.specs.Prelude.{map}
use Rattle.std.specs.List.{AllPass, AllByRecursion}
use Rattle.std.specs.Str.Iter.{LacksByte}
use Rattle.std.specs.Str.Parse.{AllDigits}
use Rattle.std.proofs.lemmas.Fmt.{decimal_is_IsNumeral, decimal_injective}
use Rattle.std.proofs.lemmas.Str.Parse.{digit_from_value}
use Rattle.pcr_banks.specs.declared.alg.Alg.{Alg}
use Rattle.pcr_banks.specs.Names.{bytes_of, name_of, register_count, size_of}
use Rattle.pcr_banks.proofs.AlgLaws.{every_alg, same_name_is}
use Rattle.hex.specs.Hex.{is_hex_digit}
use Rattle.hex.proofs.HexLemmas.{decode_of-ok}
use Rattle.pcr_values.specs.declared.expected.Expected.{Expected}
use Rattle.pcr_values.specs.Names.{IsRegisterLine, IsSplitOnce, SaysOnce, Spells, lines_of, split_at_feeds, without_return}
use Rattle.pcr_values.proofs.StatedLaws.{same_expected}

-- ---- a byte that a text lacks

abbrev pub Lacks : ℕ → List ℕ → Type 0
Lacks byte [] = Unit {0}
Lacks byte (first ∷ bytes) = (first ≡ byte → ⊥) × Lacks byte bytes

pub lacks_from : (byte : ℕ) (bytes : List ℕ) → LacksByte byte bytes → Lacks byte bytes
lacks_from byte [] lacks = tt
lacks_from byte (first ∷ bytes) lacks = (lacks 0 (omega arith), lacks_from byte bytes (λ k lt. lacks (suc k) (omega (arith, lt))))

-- A text with the byte in the middle does not lack it.
pub not_lacked : (byte : ℕ) (prefix rest : List ℕ) → Lacks byte (prefix ++ byte ∷ rest) → ⊥
not_lacked byte [] rest lacks = lacks.0 refl
not_lacked byte (first ∷ prefix) rest lacks = not_lacked byte prefix rest lacks.1

-- A byte has one first position in a text.
pub one_cut : (byte : ℕ) (prefix other rest more : List ℕ) → Lacks byte prefix → Lacks byte other
    → prefix ++ byte ∷ rest ≡ other ++ byte ∷ more → (prefix ≡ other) × (rest ≡ more)
one_cut byte [] [] rest more p q e = (refl, ap (λ (l : List ℕ). drop 1 l) e)
one_cut byte [] (second ∷ other) rest more p q e = absurd (q.0 (sym (ap (λ (l : List ℕ). slice_index l 0) e)))
one_cut byte (first ∷ prefix) [] rest more p q e = absurd (p.0 (ap (λ (l : List ℕ). slice_index l 0) e))
one_cut byte (first ∷ prefix) (second ∷ other) rest more p q e =
    let same = one_cut byte prefix other rest more p.1 q.1 (ap (λ (l : List ℕ). drop 1 l) e) in
    let head : first ≡ second = ap (λ (l : List ℕ). slice_index l 0) e in
    (rw (head, same.0) refl, same.1)

-- ---- spaces

pub digits_lack : (digits : List ℕ) → AllDigits 10 digits → Lacks 32 digits
digits_lack [] all = tt
digits_lack (first ∷ digits) all =
    let within = digit_from_value first all.0 in
    (λ e. absurd (omega (arith, within, e)), digits_lack digits all.1)

pub decimal_lacks : (n : ℕ) → n < 2 ^ 64 → Lacks 32 (decimal n)
decimal_lacks n small = digits_lack (decimal n) ((decimal_is_IsNumeral n small).0.1)

-- Bytes above a space.
abbrev pub AllAbove : List ℕ → Type 0
AllAbove bytes = AllByRecursion (λ byte. 32 < byte) bytes

lacks_above : (bytes : List ℕ) → AllAbove bytes → Lacks 32 bytes
lacks_above [] all = tt
lacks_above (first ∷ bytes) all = (λ e. absurd (omega (arith, e, all.0)), lacks_above bytes all.1)

pub name_above : (alg : Alg) → AllAbove (name_of alg)
name_above = every_alg _ (search rules)

pub name_lacks : (alg : Alg) → Lacks 32 (name_of alg)
name_lacks alg = lacks_above (name_of alg) (name_above alg)

-- ---- lines

pub feed_cuts : (prefix rest : List ℕ) → Lacks 10 prefix → split_at_feeds (prefix ++ 10 ∷ rest) ≡ prefix ∷ split_at_feeds rest
feed_cuts [] rest lacks = refl
feed_cuts (first ∷ prefix) rest lacks = search (rules, feed_cuts prefix rest lacks.1, lacks.0)

no_feed : (text : List ℕ) → Lacks 10 text → split_at_feeds text ≡ text ∷ []
no_feed [] lacks = refl
no_feed (first ∷ text) lacks = search (rules, no_feed text lacks.1, lacks.0)

-- The lines of a text are its first line and the lines after its line feed.
pub first_line : (text line rest : List ℕ) → IsSplitOnce 10 text line rest → lines_of text ≡ without_return line ∷ lines_of rest
first_line text line rest cut = ap (map without_return) (ap split_at_feeds cut.parts ∙ feed_cuts line rest (lacks_from 10 line cut.lacks))

pub only_line : (text : List ℕ) → LacksByte 10 text → lines_of text ≡ without_return text ∷ []
only_line text lacks = ap (map without_return) (no_feed text (lacks_from 10 text lacks))

-- ---- what a line spells

-- A line that spells a register has a space after the name.
pub line_has_space : (line : List ℕ) (e : Expected) → LacksByte 32 line → IsRegisterLine line e → ⊥
line_has_space line e lacks is =
    let after = decimal e.register ++ (codes " " ++ is.digits) in
    let whole : Lacks 32 (name_of e.alg ++ 32 ∷ after) = rw is.spelled at (lacks_from 32 line lacks) in
    not_lacked 32 (name_of e.alg) after whole

-- Its first word is the algorithm's name, and the rest is the register and the digits.
pub name_first : (line name rest : List ℕ) (e : Expected) → IsSplitOnce 32 line name rest → (is : IsRegisterLine line e)
    → (name ≡ name_of e.alg) × (rest ≡ decimal e.register ++ (codes " " ++ is.digits))
name_first line name rest e cut is =
    one_cut 32 name (name_of e.alg) rest (decimal e.register ++ (codes " " ++ is.digits)) (lacks_from 32 name cut.lacks) (name_lacks e.alg)
    (sym cut.parts ∙ is.spelled)

pub rest_has_space : (rest digits : List ℕ) (n : ℕ) → LacksByte 32 rest → rest ≡ decimal n ++ (codes " " ++ digits) → ⊥
rest_has_space rest digits n lacks is =
    let whole : Lacks 32 (decimal n ++ 32 ∷ digits) = rw is at (lacks_from 32 rest lacks) in
    not_lacked 32 (decimal n) digits whole

pub number_first : (rest number left digits : List ℕ) (n : ℕ) → n < 2 ^ 64 → IsSplitOnce 32 rest number left
    → rest ≡ decimal n ++ (codes " " ++ digits) → (number ≡ decimal n) × (left ≡ digits)
number_first rest number left digits n small cut is =
    one_cut 32 number (decimal n) left digits (lacks_from 32 number cut.lacks) (decimal_lacks n small) (sym cut.parts ∙ is)

-- ---- why a line spells no register

-- A line with one space alone spells no register.
pub no_number : (line name rest : List ℕ) (e : Expected) → IsSplitOnce 32 line name rest → LacksByte 32 rest → IsRegisterLine line e → ⊥
no_number line name rest e cut lacks is = rest_has_space rest is.digits e.register lacks (name_first line name rest e cut is).1

pub no_alg : (line name rest : List ℕ) (e : Expected) → IsSplitOnce 32 line name rest → ((alg : Alg) → name_of alg ≡ name → ⊥)
    → IsRegisterLine line e → ⊥
no_alg line name rest e cut unknown is = unknown e.alg (sym (name_first line name rest e cut is).0)

-- The words of a line that spells a register.
pub words : (line name rest number digits : List ℕ) (e : Expected) → IsSplitOnce 32 line name rest → IsSplitOnce 32 rest number digits
    → (is : IsRegisterLine line e) → (name ≡ name_of e.alg) × (number ≡ decimal e.register) × (digits ≡ is.digits)
words line name rest number digits e cut next is =
    let first = name_first line name rest e cut is in
    let second = number_first rest number digits is.digits e.register (omega (arith, is.exists)) next first.1 in
    (first.0, second.0, second.1)

pub no_register : (line name rest number digits : List ℕ) (e : Expected) → IsSplitOnce 32 line name rest → IsSplitOnce 32 rest number digits
    → ((register : ℕ) → register < register_count → number ≡ decimal register → ⊥) → IsRegisterLine line e → ⊥
no_register line name rest number digits e cut next none is =
    none e.register is.exists (words line name rest number digits e cut next is).1

pub no_value : (line name rest number digits : List ℕ) (alg : Alg) (e : Expected)
    → IsSplitOnce 32 line name rest → IsSplitOnce 32 rest number digits → name_of alg ≡ name
    → ((length digits ≡ 2 * size_of alg) × AllPass is_hex_digit digits → ⊥) → IsRegisterLine line e → ⊥
no_value line name rest number digits alg e cut next named none is =
    let three = words line name rest number digits e cut next is in
    let same : alg ≡ e.alg = same_name_is alg e.alg (named ∙ three.0) in
    let spelled = decode_of-ok is.digits (bytes_of e.value) is.value_is in
    let size : length is.digits ≡ 2 * size_of e.alg = spelled.2 ∙ ap (λ (n : ℕ). 2 * n) is.value_size in
    none (rw (same, three.2) (size, spelled.1))

-- ---- a line says one thing

pub one_line : (line : List ℕ) (e other : Expected) → IsRegisterLine line e → IsRegisterLine line other → e ≡ other
one_line line e other is another =
    let name = one_cut 32 (name_of e.alg) (name_of other.alg) (decimal e.register ++ (codes " " ++ is.digits))
    (decimal other.register ++ (codes " " ++ another.digits)) (name_lacks e.alg) (name_lacks other.alg) (sym is.spelled ∙ another.spelled) in
    let number = one_cut 32 (decimal e.register) (decimal other.register) is.digits another.digits
    (decimal_lacks e.register (omega (arith, is.exists))) (decimal_lacks other.register (omega (arith, another.exists))) name.1 in
    same_expected e other is.digits another.digits (same_name_is e.alg other.alg name.0)
    (decimal_injective e.register other.register (omega (arith, is.exists)) (omega (arith, another.exists)) number.0) number.1
    is.alg_is another.alg_is is.value_is another.value_is

empty_spells_none : (line : List ℕ) (e : Expected) → line ≡ [] → IsRegisterLine line e → ⊥
empty_spells_none line e empty is = line_has_space line e (rw empty (λ k lt. absurd (omega (arith, lt)))) is

spell_once : (position next other : Unit {0}) (line : List ℕ) (first second : Option Expected) → Spells position line next first
    → Spells position line other second → (next ≡ other) × (first ≡ second)
spell_once position next other line None None p q = (refl, refl)
spell_once position next other line None (Some e) p q = absurd (empty_spells_none line e p q)
spell_once position next other line (Some e) None p q = absurd (empty_spells_none line e q p)
spell_once position next other line (Some e) (Some second) p q = (refl, ap (λ (x : Expected). Some x) (one_line line e second p q))

pub spells_once : SaysOnce Spells
spells_once = record { once = spell_once }

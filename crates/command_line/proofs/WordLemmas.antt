-- Words that are collected from an iterator, and where one is among others.
use Rattle.std.proofs.Common.{◌≡◌, ◌≤◌, ℕ, Bool, true, false, cond, ltb, Option, None, Some, List, [], ◌∷◌, String, string_bytes, Vec, Result, IfOk, Ok, Err, length, drop, map, refl, sym, ap, ◌∙◌, vec_len, arith, rules}
use Rattle.std.specs.Prelude.{⊤, insert, position}
use Rattle.std.specs.List.{position_or_len}
use Rattle.std.specs.Global.{Global}
use Rattle.std.specs.declared.iter.Skip.{Skip}
use Rattle.std.specs.declared.vec.IntoIter.{IntoIter}
use Rattle.std.specs.Vec.Iter.{into_iter_items, into_iter_len, into_iter_steps}
use Rattle.std.specs.Iterator.{DrainsIf}
use Rattle.std.specs.Iterator.Adapters.{skip_source, skip_count, skip_steps}
use Rattle.std.proofs.lemmas.Bool.{ltb-false}
use Rattle.std.proofs.lemmas.List.{drop_all}
use Rattle.command_line.specs.Arguments.{takes_terminal}
use Rattle.std.proofs.lemmas.Iterator.Adapters.{YieldsList-from_skip, YieldsList-from_vec, fact_from_collect}

vec_of : {E : Type 0} (arguments : List (String Global)) (r : Result (Vec (String Global) Global) E)
    → IfOk r (λ v. (v.items ≡ arguments) × (vec_len v ≡ length arguments)) → IfOk r (λ v. v.items ≡ arguments)
vec_of arguments (Ok v) made = made.0
vec_of arguments (Err e) made = tt

pub collected_after : {E : Type 0} (arguments : IntoIter (String Global) Global) (skipped : Skip (IntoIter (String Global) Global)) (n : ℕ)
    (r : Result (Vec (String Global) Global) E) → skip_source skipped ≡ arguments → skip_count skipped ≡ n
    → IfOk r (λ v. (xs : List (String Global)) × DrainsIf (skip_steps into_iter_steps) ⊤ skipped xs × ((v.items ≡ xs) × (vec_len v ≡ length xs)))
    → IfOk r (λ v. v.items ≡ drop n (into_iter_items arguments))
collected_after arguments skipped n r source count ran =
    let counted : into_iter_len arguments ≡ length (into_iter_items arguments) = search rules in
    let given = YieldsList-from_vec (into_iter_items arguments) (ap into_iter_items source) (ap into_iter_len source ∙ counted) in
    vec_of (drop n (into_iter_items arguments)) r (fact_from_collect (λ xs v. (v.items ≡ xs) × (vec_len v ≡ length xs)) r ran (YieldsList-from_skip n given count))

-- One argument more, after the first.
pub inserted : (arguments : List (String Global)) (word : String Global) (text : List ℕ) → string_bytes word ≡ text
    → map string_bytes (insert arguments 1 word) ≡ insert (map string_bytes arguments) 1 text
inserted [] word text is = ap (λ (t : List ℕ). t ∷ []) is
inserted (first ∷ rest) word text is = ap (λ (t : List ℕ). string_bytes first ∷ t ∷ map string_bytes rest) is

-- Arguments that take the flag are not none.
pub some_argument : (arguments : List (String Global)) → takes_terminal arguments ≡ true → 1 ≤ length arguments
some_argument [] takes = cc
some_argument (first ∷ rest) takes = omega arith

pub no_words : (words : List (String Global)) → length words ≡ 0 → words ≡ []
no_words [] none = refl
no_words (word ∷ words) none = absurd (omega arith)

-- A place is chosen if the test passes there, and only then.
chosen_some : (passes : Bool) (first place : ℕ) → cond passes (Some first) None ≡ Some place → first ≡ place
chosen_some true first place is = cc
chosen_some false first place is = absurd cc

chosen_none : (passes : Bool) (first : ℕ) → cond passes (Some first) None ≡ None → passes ≡ false
chosen_none true first is = absurd cc
chosen_none false first is = refl

-- From the first word that passes on.
pub words_from : (test : String Global → Bool) (words : List (String Global)) (place : ℕ) → Some place ≡ position test words
    → drop (position_or_len test words) words ≡ drop place words
words_from test words place is =
    let first = position_or_len test words in
    ap (λ (n : ℕ). drop n words) (chosen_some (ltb first (length words)) first place (sym is))

pub words_from_none : (test : String Global → Bool) (words : List (String Global)) → None ≡ position test words
    → drop (position_or_len test words) words ≡ []
words_from_none test words is =
    let first = position_or_len test words in
    drop_all first words (ltb-false first (length words) (chosen_none (ltb first (length words)) first (sym is)))

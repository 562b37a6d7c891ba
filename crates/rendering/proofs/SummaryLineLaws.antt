-- What a line of a verdict begins with.
use Rattle.std.proofs.Common.{◌≡◌, ℕ, List, ◌++◌, codes, get_or, refl, ap, arith}
use Rattle.cells.specs.Cells.{beside}
use Rattle.rendering.specs.declared.summary.Outcome.{Outcome}
use Rattle.rendering.specs.declared.summary.Outcome.TheVariants.{NoVerdict, Match, Differ}
use Rattle.rendering.specs.declared.summary.Summary.{Summary}
use Rattle.rendering.specs.SummaryLines.{outcome_word, summary_line}

pub begins_with_word : (summary : Summary) → (rest : List ℕ) × (summary_line summary ≡ outcome_word summary.verdict ++ (codes ": " ++ rest))
unfolding beside
begins_with_word summary = (_, refl)

-- Only the word of a match begins as it does.
word_of_match : (verdict : Outcome) (said rest : List ℕ) → outcome_word verdict ++ said ≡ codes "match" ++ rest → verdict ≡ Match
word_of_match Match said rest same = refl
word_of_match Differ said rest same =
    let first : 100 ≡ 109 = ap (λ (t : List ℕ). get_or t 0 0) same in
    absurd (omega (arith, first))
word_of_match NoVerdict said rest same =
    let first : 110 ≡ 109 = ap (λ (t : List ℕ). get_or t 0 0) same in
    absurd (omega (arith, first))

pub match_alone : (summary : Summary) (rest : List ℕ) → summary_line summary ≡ codes "match" ++ rest → summary.verdict ≡ Match
unfolding beside
match_alone summary rest same = word_of_match summary.verdict _ rest same

-- Where a text is cut, and its lines.
use Rattle.std.proofs.Common.{rules, ◌≡◌, ℕ, List, [], ◌∷◌, ◌++◌, refl, ap, ◌∙◌, arith}
use Rattle.std.specs.Str.Iter.{LacksByte}
use Rattle.pcr_values.specs.Names.{IsSplitOnce}
use Rattle.pcr_values.proofs.ExpectedLaws.{Lacks, lacks_from}
use Rattle.known_files.specs.Listing.{lines_of}

pub feed_cuts : (prefix rest : List ℕ) → Lacks 10 prefix → lines_of (prefix ++ 10 ∷ rest) ≡ prefix ∷ lines_of rest
feed_cuts [] rest lacks = refl
feed_cuts (first ∷ prefix) rest lacks = search (rules, feed_cuts prefix rest lacks.1, lacks.0)

-- The first line of a text, and the lines after its line feed.
pub first_line : (text line rest : List ℕ) → IsSplitOnce 10 text line rest → lines_of text ≡ line ∷ lines_of rest
first_line text line rest cut = ap lines_of cut.parts ∙ feed_cuts line rest (lacks_from 10 line cut.lacks)

no_feed : (first : ℕ) (text : List ℕ) → Lacks 10 (first ∷ text) → lines_of (first ∷ text) ≡ (first ∷ text) ∷ []
no_feed first [] lacks = search (rules, lacks.0)
no_feed first (second ∷ text) lacks = search (rules, no_feed second text lacks.1, lacks.0)

-- A text without a line feed is its only line, unless it is empty.
pub only_line : (text : List ℕ) → (text ≡ [] → ⊥) → LacksByte 10 text → lines_of text ≡ text ∷ []
only_line [] some lacks = absurd (some refl)
only_line (first ∷ text) some lacks = no_feed first text (lacks_from 10 (first ∷ text) lacks)

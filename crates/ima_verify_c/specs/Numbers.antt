-- The numbers of a verdict, which a caller in C reads without the text.
use Rattle.std.specs.Prelude.{ℕ, ◌-◌, if◌then◌else◌, Bool, List, [], ◌∷◌, ◌++◌, length, take, replicate, Option, None, Some}
use Rattle.pcr_banks.specs.declared.alg.Alg.{Alg}
use Rattle.pcr_banks.specs.declared.alg.Alg.TheVariants.{Sha1, Sha256, Sha384, Sha512}
use Rattle.rendering.specs.Summaries.{no_summary}
use Rattle.rendering.specs.declared.summary.Summary.{Summary}
use Rattle.rendering.specs.declared.summary.Outcome.{Outcome}
use Rattle.rendering.specs.declared.summary.Outcome.TheVariants.{NoVerdict, Match, Differ}
use Rattle.rendering.specs.declared.summary.Reason.{Reason}
use Rattle.rendering.specs.declared.summary.Reason.TheVariants.{SignatureNotChecked, OtherValue, NotExpected, OtherQuote, BootAggregate, NotApart, UnknownFile, NothingCompared}

abbrev pub outcome_number : Outcome → ℕ
outcome_number NoVerdict = 0
outcome_number Match = 1
outcome_number Differ = 2

abbrev pub reason_number : Option Reason → ℕ
reason_number None = 0
reason_number (Some SignatureNotChecked) = 1
reason_number (Some OtherValue) = 2
reason_number (Some NotExpected) = 3
reason_number (Some OtherQuote) = 4
reason_number (Some BootAggregate) = 5
reason_number (Some NotApart) = 6
reason_number (Some UnknownFile) = 7
reason_number (Some NothingCompared) = 8

abbrev pub alg_number : Alg → ℕ
alg_number Sha1 = 1
alg_number Sha256 = 2
alg_number Sha384 = 3
alg_number Sha512 = 4

-- The bank of a PCR, and the PCR; 0 and 2^64 - 1 without one.
abbrev pub bank_number : Option (Alg × ℕ) → ℕ
bank_number None = 0
bank_number (Some pcr) = alg_number pcr.0

abbrev pub pcr_number : Option (Alg × ℕ) → ℕ
pcr_number None = 18446744073709551615
pcr_number (Some pcr) = pcr.1

abbrev pub numbers_of : Summary → List ℕ
numbers_of summary =
    outcome_number summary.verdict
    ∷ reason_number summary.reason
    ∷ summary.compared
    ∷ summary.matching
    ∷ bank_number summary.first
    ∷ pcr_number summary.first
    ∷ summary.missing
    ∷ summary.entries
    ∷ summary.judged
    ∷ summary.unknown
    ∷ []

-- The caller's numbers once these are given: the first, which says how many there are, is as it was; then come as many of these as there is
-- capacity for; and 0 in each number beyond them.
abbrev pub filled : List ℕ → List ℕ → List ℕ
filled numbers old = take 1 old ++ (take (length old - 1) numbers ++ replicate (length old - 1 - length numbers) 0)

-- They are those of the summary where the texts fit, otherwise those of no verdict.
abbrev pub numbers_if : Bool → Summary → List ℕ → List ℕ
numbers_if fits summary old = filled (numbers_of (if fits then summary else no_summary)) old

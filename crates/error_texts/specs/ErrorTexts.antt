-- The text of an error: where it is, what is wrong, and what to do.
use Rattle.std.specs.Prelude.{ℕ, List, [], ◌++◌, codes, decimal, Option, Some, None, option_map}
use Rattle.agent_inputs.specs.declared.fault.FaultKind.{FaultKind}
use Rattle.agent_inputs.specs.declared.fault.FaultKind.TheVariants as kinds
use Rattle.error_texts.specs.Sentences.{SentenceData, sentence_of}

-- The place, if errors of this kind name one: an event, an entry, a line, or of a file that cannot be measured its number.
abbrev pub named_place : FaultKind → Option ℕ → Option ℕ
named_place kinds.Log place = place
named_place kinds.List place = place
named_place kinds.ListText place = place
named_place kinds.LogForm place = place
named_place kinds.Replay place = place
named_place kinds.Expect place = place
named_place kinds.Known place = place
named_place kinds.Outcome place = place
named_place kind place = None

-- The words before the number of a place; without a number those before what is wrong.
abbrev pub words_before : FaultKind → Option ℕ → List ℕ
words_before kinds.Log (Some event) = codes "The firmware event log is damaged at event "
words_before kinds.Log None = codes "The firmware event log cannot be used: "
words_before kinds.List (Some entry) = codes "The measurement list is damaged at entry "
words_before kinds.List None = codes "The measurement list cannot be used: "
words_before kinds.ListText (Some line) = codes "The list as text is wrong at line "
words_before kinds.ListText None = codes "The list as text cannot be used: "
words_before kinds.LogForm (Some event) = codes "The firmware event log is damaged at event "
words_before kinds.LogForm None = codes "The firmware event log cannot be used: "
words_before kinds.Replay (Some entry) = codes "The measurement list is damaged at entry "
words_before kinds.Replay None = codes "The measurement list cannot be used: "
words_before kinds.Expect (Some line) = codes "The PCR values are wrong at line "
words_before kinds.Expect None = codes "The PCR values cannot be used: "
words_before kinds.Known (Some line) = codes "The known files are wrong at line "
words_before kinds.Known None = codes "The known files cannot be used: "
words_before kinds.Outcome (Some file) = codes "The measurement fails at file "
words_before kinds.Outcome None = codes "The measurement fails: "
words_before kinds.Gather None = codes "The measurement fails: "
words_before kinds.Book None = codes "Nothing can be measured: "
words_before kind place = []

abbrev pub digits_of : Option ℕ → List ℕ
digits_of None = []
digits_of (Some place) = decimal place

abbrev pub words_after : Option ℕ → List ℕ
words_after None = []
words_after (Some place) = codes ": "

abbrev pub text_of : FaultKind → Option ℕ → SentenceData → List ℕ
text_of kind place sentence =
    words_before kind place ++ (digits_of place ++ (words_after place ++ (sentence.wrong ++ (codes ". " ++ sentence.action))))

-- The text of an error of this kind, with this number and this place; nothing if it has no sentence.
abbrev pub error_text : FaultKind → ℕ → Option ℕ → Option (List ℕ)
error_text kind number place = option_map (text_of kind (named_place kind place)) (sentence_of kind number)

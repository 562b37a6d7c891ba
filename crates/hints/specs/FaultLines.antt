-- An error in the words of the table: its line, and the line of what to do.
use Rattle.std.specs.Prelude.{ℕ, ◌≡◌, ◌++◌, ◌∷◌, List, [], codes, decimal, Option, None, Some, MatchOption, unwrap_or, ⊤}
use Rattle.agent_inputs.specs.declared.fault.FaultHead.{FaultHead}
use Rattle.agent_inputs.specs.declared.fault.FaultKind.{FaultKind}
use Rattle.agent_inputs.specs.declared.fault.FaultKind.TheVariants as kinds
use Rattle.agent_inputs.specs.declared.fault.RunFault.{RunFault}
use Rattle.agent_inputs.specs.Faults.{fault_head}
use Rattle.error_texts.specs.Sentences.{SentenceData, sentence_of}
use Rattle.hints.specs.Escaping.{escape}
use Rattle.run_progress.specs.declared.progress.Failure.{Failure}
use Rattle.run_progress.specs.declared.progress.Failure.TheVariants as failures

-- What the place of an error is: an event, an entry, a line, or a file that cannot be measured.
abbrev pub place_word : FaultKind → List ℕ
place_word kinds.Log = codes "event "
place_word kinds.LogForm = codes "event "
place_word kinds.List = codes "entry "
place_word kinds.Replay = codes "entry "
place_word kinds.ListText = codes "line "
place_word kinds.Expect = codes "line "
place_word kinds.Known = codes "line "
place_word kinds.Outcome = codes "file "
place_word kind = []

-- The words before what is wrong: of a measurement without a place, that it fails.
abbrev pub words_before : FaultKind → Option ℕ → List ℕ
words_before kind (Some place) = place_word kind
words_before kinds.Gather None = codes "the measurement fails: "
words_before kind None = []

abbrev pub digits_of : Option ℕ → List ℕ
digits_of None = []
digits_of (Some place) = decimal place

abbrev pub name_in : Option (List ℕ) → List ℕ
name_in None = []
name_in (Some name) = name

abbrev pub colon_after : {A : Type 0} → Option A → List ℕ
colon_after None = []
colon_after (Some it) = codes ": "

-- The input, the place in it, and what the table says is wrong.
abbrev pub fault_words : Option (List ℕ) → FaultHead → SentenceData → List ℕ
fault_words input head sentence =
    name_in input
    ++ (colon_after input ++ (words_before head.kind head.place ++ (digits_of head.place ++ (colon_after head.place ++ sentence.wrong))))

-- The row of an error in the table. What is wrong with arguments is said more closely.
abbrev pub row_of_kind : FaultKind → ℕ → Option SentenceData
row_of_kind kinds.Usage number = None
row_of_kind kind number = sentence_of kind number

abbrev pub row_of : FaultHead → Option SentenceData
row_of head = row_of_kind head.kind (unwrap_or head.number 0)

-- The line of an error that the table has.
abbrev pub IsFaultLine : RunFault → List ℕ → Type 0
IsFaultLine fault text =
    MatchOption (row_of (fault_head fault)) ⊤
    (λ sentence. (input : Option (List ℕ)) × (text ≡ escape (fault_words input (fault_head fault) sentence) ++ 10 ∷ []))

-- What is said of a failure. Where the arguments or an output are refused, other words are.
abbrev pub Explains : Failure → List ℕ → Type 0
Explains (failures.Fault fault task) text = IsFaultLine fault.now text
Explains failure text = ⊤

-- What to do about an error that the table does not have. Why an input cannot be read is said instead.
abbrev pub other_advice : FaultKind → List ℕ
other_advice kinds.NotHex = escape (codes "Give the log in hexadecimal as xxd -p prints it, or give its file to ima-agent registers.") ++ 10 ∷ []
other_advice kinds.TooLong = escape (codes "No input may be longer: check that this is the right one.") ++ 10 ∷ []
other_advice kinds.Write = escape (codes "Name a FILE in an existing, writable folder on a disk with free space.") ++ 10 ∷ []
other_advice kinds.NotUtf8 = escape (codes "Rename the files whose names are not UTF-8, or leave them out.") ++ 10 ∷ []
other_advice kind = []

-- What to do about an error, as the table says.
abbrev pub advice_in : FaultKind → Option SentenceData → List ℕ
advice_in kind None = other_advice kind
advice_in kind (Some sentence) = escape sentence.action ++ 10 ∷ []

abbrev pub advice_of : RunFault → List ℕ
advice_of fault = advice_in (fault_head fault).kind (row_of (fault_head fault))

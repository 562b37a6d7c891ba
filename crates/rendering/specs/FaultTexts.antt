-- The line of a fault, and the exit status after it.
use Rattle.std.specs.Prelude.{ℕ, Bool, true, false, List, [], ◌∷◌, ◌++◌, codes, decimal, Option, Some, None, string_bytes, ◌≡◌, ◌⊎◌}
use Rattle.agent_inputs.specs.declared.fault.FaultKind.{FaultKind}
use Rattle.agent_inputs.specs.declared.fault.FaultKind.TheVariants as kinds
use Rattle.agent_inputs.specs.declared.fault.RunFault.{RunFault}
use Rattle.agent_inputs.specs.declared.fault.RunFault.TheVariants as runs
use Rattle.agent_inputs.specs.Faults.{fault_head}
use Rattle.cells.specs.Cells.{Cell, beside, if_some, in_order, number_member, object_at, rendered, text, when, word, word_member}
use Rattle.cells.specs.Values.{Member}
use Rattle.cells.specs.declared.writer.Form.{Form}
use Rattle.cells.specs.declared.writer.Form.TheVariants as forms

-- How a fault of each kind is said: the words that begin its line, its kind in JSON, and the exit status after it: 2 for refused input, 3 if
-- memory ran out, outcomes do not account for the book, or a device failed, and 4 for a refused quote or signature.
abbrev pub said_of : FaultKind → List ℕ × List ℕ × ℕ
said_of kinds.Usage = (codes "refused: command line", codes "command_line", 2)
said_of kinds.NotHex = (codes "refused: not hexadecimal", codes "not_hexadecimal", 2)
said_of kinds.Log = (codes "refused: log fault ", codes "log", 2)
said_of kinds.List = (codes "refused: list fault ", codes "list", 2)
said_of kinds.Replay = (codes "refused: replay fault ", codes "replay", 2)
said_of kinds.ListText = (codes "refused: text list fault ", codes "text_list", 2)
said_of kinds.LogForm = (codes "refused: log form fault ", codes "log_form", 2)
said_of kinds.Expect = (codes "refused: expected fault ", codes "expected", 2)
said_of kinds.Quote = (codes "refused: quote fault ", codes "quote", 4)
said_of kinds.Signature = (codes "refused: signature fault ", codes "signature", 4)
said_of kinds.Key = (codes "refused: key fault ", codes "key", 2)
said_of kinds.Known = (codes "refused: known fault ", codes "known", 2)
said_of kinds.Checkpoint = (codes "refused: checkpoint fault ", codes "checkpoint", 2)
said_of kinds.Book = (codes "refused: book fault ", codes "book", 2)
said_of kinds.Outcome = (codes "refused: job ", codes "job", 2)
said_of kinds.TooLong = (codes "refused: too long ", codes "too_long", 2)
said_of kinds.Read = (codes "failed: read ", codes "read", 3)
said_of kinds.Write = (codes "failed: write ", codes "write", 3)
said_of kinds.NotUtf8 = (codes "refused: not UTF-8 ", codes "not_utf8", 2)
said_of kinds.Gather = (codes "failed: gather fault ", codes "gather", 3)
said_of kinds.Memory = (codes "failed: memory", codes "memory", 3)

-- The words before the second number of a line, if there is one.
abbrev pub place_words : FaultKind → Option ℕ → List ℕ
place_words kind None = []
place_words kinds.Log (Some event) = codes " at event "
place_words kinds.LogForm (Some event) = codes " at event "
place_words kinds.ListText (Some line) = codes " at line "
place_words kinds.Expect (Some line) = codes " at line "
place_words kinds.Known (Some line) = codes " at line "
place_words kinds.Outcome (Some number) = codes " book fault "
place_words kind (Some entry) = codes " at entry "

-- The numbers in a line, in their order: of a refused job that of its file comes first.
abbrev pub numbers_in : FaultKind → Option ℕ → Option ℕ → Option ℕ × Option ℕ
numbers_in kinds.Outcome number job = (job, number)
numbers_in kind number place = (number, place)

-- The name of the file that a fault names, if it names one.
abbrev pub name_in : RunFault → List ℕ
name_in (runs.TooLong name) = string_bytes name
name_in (runs.Read name) = string_bytes name
name_in (runs.Write name) = string_bytes name
name_in (runs.NotUtf8 name) = string_bytes name
name_in fault = []

abbrev pub digits_of : Option ℕ → List ℕ
digits_of None = []
digits_of (Some number) = decimal number

-- What is said of a fault of this kind, with this name and these numbers.
abbrev pub message_with : FaultKind → List ℕ → Option ℕ × Option ℕ → List ℕ
message_with kind name numbers =
    (said_of kind).0 ++ (name ++ (digits_of numbers.0 ++ (place_words kind numbers.1 ++ digits_of numbers.1)))

-- What is said of a fault.
abbrev pub message_of : RunFault → List ℕ
message_of fault =
    let head = fault_head fault in message_with head.kind (name_in fault) (numbers_in head.kind head.number head.place)

-- The line that says why the program failed.
abbrev pub fault_line : RunFault → List ℕ
fault_line fault = message_of fault ++ codes "\n"

-- The exit status after a fault.
abbrev pub fault_status : RunFault → ℕ
fault_status fault = (said_of (fault_head fault).kind).2

-- ---- the cell of a fault

-- Whether the place of a fault of this kind is an event of a log.
abbrev pub names_event : FaultKind → Bool
names_event kinds.Log = true
names_event kinds.LogForm = true
names_event kind = false

-- Whether it is an entry of a list. The line of expected registers, of known files or of a list as text stands in the message alone.
abbrev pub names_entry : FaultKind → Bool
names_entry kinds.List = true
names_entry kinds.Replay = true
names_entry kind = false

-- The event or the entry that a fault of this kind names by this place.
abbrev pub place_cell : FaultKind → Option ℕ → Cell Member
place_cell kind place =
    beside (when (names_event kind) (if_some place (number_member (codes "event"))))
    (when (names_entry kind) (if_some place (number_member (codes "entry"))))

-- What is told of a fault: its kind, in one word; where it has them, its number, and the event or the entry that it names; and what is said.
abbrev pub told_cell : RunFault → Cell Member
told_cell fault =
    let head = fault_head fault in in_order (
    word_member (codes "kind") (said_of head.kind).1
    ∷ if_some head.number (number_member (codes "number"))
    ∷ place_cell head.kind head.place
    ∷ word [] (codes "message") (message_of fault)
    ∷ text (codes "\n")
    ∷ [])

-- A fault: its line; as JSON an object of its own. A law says that no other value has a member `fault`.
abbrev pub fault_cell : RunFault → Cell Member
fault_cell fault = object_at (codes "fault") (told_cell fault)

abbrev pub json_fault_line : RunFault → List ℕ
json_fault_line fault = rendered forms.Json (fault_cell fault)

-- The text is the fault as a line of JSON, and this is the status after the fault.
abbrev pub IsReportedAsJson : RunFault → List ℕ → ℕ → Type 0
IsReportedAsJson fault text status = (text ≡ json_fault_line fault) × (status ≡ fault_status fault)

-- What is written for a fault in this form, and the status: its plain line; or the line of JSON, or that of `Memory` if memory runs out for
-- it.
abbrev pub IsFailure : Form → RunFault → List ℕ → ℕ → Type 0
IsFailure forms.Text fault text status = (text ≡ fault_line fault) × (status ≡ fault_status fault)
IsFailure forms.Json fault text status = IsReportedAsJson fault text status ⊎ IsReportedAsJson runs.Memory text status

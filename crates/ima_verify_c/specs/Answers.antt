-- What a call gives.
use Rattle.std.specs.Prelude.{ℕ, ◌==◌, if◌then◌else◌, ◌&&◌, nat_le, List, length, Option, None, Some, ◌≡◌, ℤ, pos, ◌<◌, ◌≤◌, ◌⊎◌, false, [], ◌++◌, drop, Result, Ok, Err, unwrap_or}
use Rattle.cells.specs.declared.writer.Form.{Form}
use Rattle.cells.specs.declared.writer.Form.TheVariants.{Json, Text}
use Rattle.judging.specs.Requests.{Requested}
use Rattle.agent_inputs.specs.declared.fault.FaultKind.{FaultKind}
use Rattle.agent_inputs.specs.declared.fault.FaultKind.TheVariants as kinds
use Rattle.agent_inputs.specs.declared.fault.RunFault.{RunFault}
use Rattle.agent_inputs.specs.declared.fault.RunFault.TheVariants.{Memory, Usage}
use Rattle.agent_inputs.specs.Faults.{fault_head}
use Rattle.agent_inputs.specs.Loading.{unknown}
use Rattle.rendering.specs.Rendering.{GivesAnswer, IsRefusalOn}
use Rattle.rendering.specs.Summaries.{no_summary}
use Rattle.rendering.specs.declared.summary.Summary.{Summary}
use Rattle.line_chunks.specs.declared.piece.PieceEnd.{PieceEnd}
use Rattle.line_chunks.specs.declared.piece.PieceEnd.TheVariants.{Last, Longer, More}
use Rattle.line_chunks.specs.declared.piece.Piece.{Piece}
use Rattle.line_chunks.specs.declared.piece.LineOffset.{LineOffset}
use Rattle.line_chunks.specs.Pieces.{AreEntriesBefore, FailsAfterEntries, IsEntryPiece, AreEventsBefore, FailsAfterEvents, IsEventPiece, end_in, is_within}
use Rattle.measured_data.specs.declared.confirmed.Pcr.{Pcr}
use Rattle.rendering.specs.FaultTexts.{fault_line, json_fault_line, said_of}
use Rattle.ima_verify_c.specs.Numbers.{numbers_if}
use Rattle.ima_verify_c.specs.Requests.{Asked, AsksFor, Misused, NotHexadecimal}
use Rattle.ima_verify_c.specs.declared.text_info.TextInfo.{TextInfo}

abbrev pub interface_version : ℕ
interface_version = 1

-- ---- what is reported of a text

-- The size of the text; and of its error the kind, the number, or 0, and the place: 2^64 - 1 where it names none.
abbrev pub info_with : ℕ → ℕ → Option ℕ → Option ℕ → TextInfo
info_with size kind number place = record {
  size = size;
  error_kind = kind;
  error_number = unwrap_or number 0;
  error_place = unwrap_or place 18446744073709551615;
}

-- The other faults are those of files, which a caller in C does not name.
abbrev pub head_info : ℕ → FaultKind → Option ℕ → Option ℕ → TextInfo
head_info size kinds.Usage number place = info_with size 1 number place
head_info size kinds.Log number place = info_with size 2 number place
head_info size kinds.List number place = info_with size 3 number place
head_info size kinds.Replay number place = info_with size 4 number place
head_info size kinds.Expect number place = info_with size 5 number place
head_info size kinds.Checkpoint number place = info_with size 6 number place
head_info size kinds.Memory number place = info_with size 7 number place
head_info size kinds.Quote number place = info_with size 8 number place
head_info size kinds.Key number place = info_with size 9 number place
head_info size kinds.Known number place = info_with size 10 number place
head_info size kinds.Signature number place = info_with size 11 number place
head_info size kinds.ListText number place = info_with size 12 number place
head_info size kinds.LogForm number place = info_with size 13 number place
head_info size kind number place = info_with size 0 None None

-- What is reported of a text of this size, which is the line of the fault, if there is one.
abbrev pub info_of : ℕ → Option RunFault → TextInfo
info_of size None = info_with size 0 None None
info_of size (Some fault) = head_info size (fault_head fault).kind (fault_head fault).number (fault_head fault).place

-- ---- what the caller's buffer has

-- The capacity is too small for the text: the call returns 4, reports the size and no error, and wrote nothing.
pub record IsTooShort (size : ℕ) (answer : ℤ) (info : TextInfo) (old new : List ℕ) : Type 0 where
  pub answer_is : answer ≡ pos 4
  pub info_is : info ≡ info_of size None
  pub same : new ≡ old

-- The text is at the start of the buffer, the rest of which is as it was. The call returns the status, and reports the size of the text and its
-- error, if it is the line of one.
pub record IsWritten (text : List ℕ) (status : ℕ) (fault : Option RunFault) (answer : ℤ) (info : TextInfo) (old new : List ℕ) : Type 0 where
  pub answer_is : answer ≡ pos status
  pub info_is : info ≡ info_of (length text) fault
  pub written : new ≡ text ++ drop (length text) old

-- The text was given: written if it fits.
pub record IsGiven (text : List ℕ) (status : ℕ) (fault : Option RunFault) (answer : ℤ) (info : TextInfo) (old new : List ℕ) : Type 0 where
  pub fits : length text ≤ length old → IsWritten text status fault answer info old new
  pub short : length old < length text → IsTooShort (length text) answer info old new

-- A text with a status and a fault that are an answer to what was asked was given.
pub record Answers (IsAnswer : List ℕ → ℕ → Option RunFault → Type 0) (answer : ℤ) (info : TextInfo) (old new : List ℕ) : Type 0 where
  pub text : List ℕ
  pub status : ℕ
  pub fault : Option RunFault
  pub is_answer : IsAnswer text status fault
  pub given : IsGiven text status fault answer info old new

-- So was a text, with the numbers of what it says.
pub record AnswersCounted (IsAnswer : List ℕ → ℕ → Option RunFault → Summary → Type 0) (answer : ℤ) (info : TextInfo) (old new : List ℕ)
    (numbers_old numbers_new : List ℕ) : Type 0 where
  pub text : List ℕ
  pub status : ℕ
  pub fault : Option RunFault
  pub summary : Summary
  pub is_answer : IsAnswer text status fault summary
  pub given : IsGiven text status fault answer info old new
  pub numbers_are : numbers_new ≡ numbers_if (nat_le (length text) (length old)) summary numbers_old

-- A text and that of a checkpoint were given, each in a buffer of its own: both are written if both fit, else neither is. Both sizes are reported.
pub record AreGiven (text : List ℕ) (status : ℕ) (fault : Option RunFault) (state : List ℕ) (answer : ℤ) (info : TextInfo) (old new : List ℕ)
    (next_size : ℕ) (next_old next_new : List ℕ) : Type 0 where
  pub next_size_is : next_size ≡ length state
  pub fits : length text ≤ length old → length state ≤ length next_old
      → IsWritten text status fault answer info old new × (next_new ≡ state ++ drop (length state) next_old)
  pub short : (length old < length text) ⊎ (length next_old < length state)
      → IsTooShort (length text) answer info old new × (next_new ≡ next_old)

-- So they were, with the numbers of what the text says.
pub record AnswersMore (IsAnswer : List ℕ → ℕ → Option RunFault → List ℕ → Summary → Type 0) (answer : ℤ) (info : TextInfo) (old new : List ℕ)
    (numbers_old numbers_new : List ℕ) (next_size : ℕ) (next_old next_new : List ℕ) : Type 0 where
  pub text : List ℕ
  pub status : ℕ
  pub fault : Option RunFault
  pub state : List ℕ
  pub summary : Summary
  pub is_answer : IsAnswer text status fault state summary
  pub given : AreGiven text status fault state answer info old new next_size next_old next_new
  pub numbers_are : numbers_new ≡ numbers_if (nat_le (length text) (length old) && nat_le (length state) (length next_old)) summary numbers_old

-- ---- answers

-- What a call returns after a fault of this kind: as the program's exit status 2 if an input is refused, and 3 if memory ran out; but 2 also of
-- a refused quote or signature, where the program has 4, since a call returns that where the capacity is too small.
abbrev pub kind_answer : FaultKind → ℕ
kind_answer kinds.Quote = 2
kind_answer kinds.Signature = 2
kind_answer kind = (said_of kind).2

abbrev pub fault_answer : RunFault → ℕ
fault_answer fault = kind_answer (fault_head fault).kind

-- The text is the line of the fault in this form, and the status is what a call returns after it.
abbrev pub IsLineOf : Form → RunFault → List ℕ → ℕ → Type 0
IsLineOf Text fault text status = (text ≡ fault_line fault) × (status ≡ fault_answer fault)
IsLineOf Json fault text status = (text ≡ json_fault_line fault) × (status ≡ fault_answer fault)

-- It is that of a fault with this reason, which is reported.
abbrev pub IsRefusal : (RunFault → Type 0) → Form → List ℕ → ℕ → Option RunFault → Type 0
IsRefusal HasReason form text status fault = (reason : RunFault) × (fault ≡ Some reason) × HasReason reason × IsLineOf form reason text status

-- Why there is no answer to what is asked, or memory ran out for what is to be given.
abbrev pub HasNoAnswerOn : Requested → RunFault → Type 0
HasNoAnswerOn request fault = IsRefusalOn unknown request fault ⊎ (fault ≡ Memory)

-- What a call returns for an answer with this exit status: 0 if all is well, else 1.
abbrev pub answer_of_status : ℕ → ℕ
answer_of_status status = if status == 0 then 0 else 1

-- It is the line of a fault with this reason: there is no checkpoint, and no verdict.
abbrev pub IsNoReport : (RunFault → Type 0) → Form → List ℕ → ℕ → Option RunFault → List ℕ → Summary → Type 0
IsNoReport HasReason form text status fault state summary =
    IsRefusal HasReason form text status fault × (state ≡ []) × (summary ≡ no_summary)

-- The answer to what is asked, in this form, with what a call returns for it, the text of the checkpoint of what it is on, which has no bytes unless
-- all is well, and its summary; or why there is no answer.
abbrev pub IsAnswerAndNext : Requested → Form → List ℕ → ℕ → Option RunFault → List ℕ → Summary → Type 0
IsAnswerAndNext request form text status fault state summary =
    ((fault ≡ None) × ((exit : ℕ) × GivesAnswer unknown request form text exit state summary × (status ≡ answer_of_status exit)))
    ⊎ IsNoReport (HasNoAnswerOn request) form text status fault state summary

-- The answer and its summary, whatever checkpoint there is.
abbrev pub IsAnswerWith : Requested → Form → List ℕ → ℕ → Option RunFault → Summary → Type 0
IsAnswerWith request form text status fault summary = (state : List ℕ) × IsAnswerAndNext request form text status fault state summary

-- The answer, whatever its summary.
abbrev pub IsAnswerTo : Requested → Form → List ℕ → ℕ → Option RunFault → Type 0
IsAnswerTo request form text status fault = (summary : Summary) × IsAnswerWith request form text status fault summary

-- Nothing can be asked for so: nothing was read or written, and there is no checkpoint.
pub record IsUnasked (answer : ℤ) (info : TextInfo) (old new numbers_old numbers_new : List ℕ) (next_size : ℕ) (next_old next_new : List ℕ) : Type 0 where
  pub answer_is : answer ≡ pos 6
  pub info_is : info ≡ info_of 0 None
  pub same : new ≡ old
  pub numbers_same : numbers_new ≡ numbers_old
  pub next_size_is : next_size ≡ 0
  pub next_same : next_new ≡ next_old

-- Why there is no nonce: its text is not hexadecimal, or memory ran out.
abbrev pub HasNoNonce : RunFault → Type 0
HasNoNonce fault = (fault ≡ Usage) ⊎ (fault ≡ Memory)

-- Why what is given is no nonce.
abbrev pub IsNoNonce : Asked (List ℕ) → RunFault → Type 0
IsNoNonce Misused fault = ⊥
IsNoNonce NotHexadecimal fault = HasNoNonce fault
IsNoNonce (AsksFor nonce) fault = fault ≡ Memory

-- The answer to what is asked for, if something is.
abbrev pub AnswersAsked : Asked Requested → Form → ℤ → TextInfo → List ℕ → List ℕ → List ℕ → List ℕ → ℕ → List ℕ → List ℕ → Type 0
AnswersAsked Misused form answer info old new numbers_old numbers_new next_size next_old next_new =
    IsUnasked answer info old new numbers_old numbers_new next_size next_old next_new
AnswersAsked NotHexadecimal form answer info old new numbers_old numbers_new next_size next_old next_new =
    AnswersMore (IsNoReport HasNoNonce form) answer info old new numbers_old numbers_new next_size next_old next_new
AnswersAsked (AsksFor request) form answer info old new numbers_old numbers_new next_size next_old next_new =
    AnswersMore (IsAnswerAndNext request form) answer info old new numbers_old numbers_new next_size next_old next_new

-- ---- lines

-- A piece that ends so was given: its text is written, and the position is where the next lines begin, with 0 if these are the last lines and 5 if
-- there are more; or the capacity is too small for its one line, and the position is as it was.
abbrev pub GivesText : PieceEnd → List ℕ → LineOffset → LineOffset → LineOffset → ℤ → TextInfo → List ℕ → List ℕ → Type 0
GivesText Last text next position after answer info old new = (after ≡ next) × IsWritten text 0 None answer info old new
GivesText More text next position after answer info old new = (after ≡ next) × IsWritten text 5 None answer info old new
GivesText (Longer size) text next position after answer info old new = (after ≡ position) × IsTooShort size answer info old new

abbrev pub GivesPiece : Piece → LineOffset → LineOffset → ℤ → TextInfo → List ℕ → List ℕ → Type 0
GivesPiece piece position after answer info old new = GivesText piece.end piece.text.items piece.next position after answer info old new

-- The position is none: nothing was read or written.
pub record IsMisused (position after : LineOffset) (answer : ℤ) (info : TextInfo) (old new : List ℕ) : Type 0 where
  pub answer_is : answer ≡ pos 6
  pub info_is : info ≡ info_of 0 None
  pub position_is : after ≡ position
  pub same : new ≡ old

-- What was found was given: a piece; nothing, since the position is none; or the line of the fault.
abbrev pub GivesFound : Form → Result (Option Piece) RunFault → LineOffset → LineOffset → ℤ → TextInfo → List ℕ → List ℕ → Type 0
GivesFound form (Ok (Some piece)) position after answer info old new = GivesPiece piece position after answer info old new
GivesFound form (Ok None) position after answer info old new = IsMisused position after answer info old new
GivesFound form (Err fault) position after answer info old new =
    (after ≡ position) × Answers (IsRefusal (λ reason. (reason ≡ fault) ⊎ (reason ≡ Memory)) form) answer info old new

-- What the call gives of so many bytes, from a position on. Where the lines before it have the text `before`: a piece of what comes then, or
-- the line of the fault that comes, or that memory ran out.
pub record GivesLines (AreBefore : LineOffset → List ℕ → Type 0) (IsPiece : ℕ → List ℕ → Piece → Type 0) (FailsAfter : List ℕ → RunFault → Type 0)
    (form : Form) (size : ℕ) (position after : LineOffset) (answer : ℤ) (info : TextInfo) (old new : List ℕ) : Type 0 where
  pub misused : is_within position size ≡ false → IsMisused position after answer info old new
  pub gives : (before : List ℕ) → AreBefore position before
      → ((piece : Piece) × IsPiece (length old) before piece × GivesPiece piece position after answer info old new)
      ⊎ ((after ≡ position) × Answers (IsRefusal (λ fault. FailsAfter before fault ⊎ (fault ≡ Memory)) form) answer info old new)

abbrev pub GivesEntries : Form → List ℕ → LineOffset → LineOffset → ℤ → TextInfo → List ℕ → List ℕ → Type 0
GivesEntries form list position after answer info old new =
    GivesLines (AreEntriesBefore form list) (IsEntryPiece form list) (FailsAfterEntries form list) form (end_in form list) position after answer info
    old new

abbrev pub GivesEvents : Option (List Pcr) → List ℕ → LineOffset → LineOffset → ℤ → TextInfo → List ℕ → List ℕ → Type 0
GivesEvents matched log position after answer info old new =
    GivesLines (AreEventsBefore matched log) (IsEventPiece matched log) (FailsAfterEvents matched log) Json (length log) position after answer info old
    new

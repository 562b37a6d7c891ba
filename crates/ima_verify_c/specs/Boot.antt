-- What a call requests of the PCRs that match, of events and of a boot, and what it gives.
use Rattle.std.specs.Prelude.{ℕ, ◌==◌, ◌&&◌, not, if◌then◌else◌, Bool, true, false, List, [], length, Option, None, Some, option_map, IsSomeAnd, Result, Ok, Err, ◌≡◌, ◌⊎◌, ℤ, pos}
use Rattle.agent_inputs.specs.declared.fault.RunFault.{RunFault}
use Rattle.agent_inputs.specs.declared.fault.RunFault.TheVariants.{Memory, Usage}
use Rattle.agent_inputs.specs.Loading.{unknown}
use Rattle.agent_plans.specs.declared.plan.Scope.TheVariants.{Whole}
use Rattle.cells.specs.declared.writer.Form.{Form}
use Rattle.cells.specs.declared.writer.Form.TheVariants.{Json}
use Rattle.confirming.specs.Boot.{IsNoBoot, ShowsBoot, places_of}
use Rattle.confirming.specs.Matching.{AreMatched, AreNotMatched, ByExpected, ByNothing, ByQuote, Confirmation}
use Rattle.confirming.specs.Places.{SpellsPlaces, matching_text}
use Rattle.judging.specs.Inputs.{BytesOf, Where}
use Rattle.judging.specs.Requests.{AttestRequested, Signing}
use Rattle.line_chunks.specs.declared.piece.LineOffset.{LineOffset}
use Rattle.line_chunks.specs.Pieces.{is_within}
use Rattle.measured_data.specs.declared.confirmed.Pcr.{Pcr}
use Rattle.rendering.specs.declared.outputs.Output.{Output}
use Rattle.ima_verify_c.specs.declared.evidence.Evidence.{Evidence}
use Rattle.ima_verify_c.specs.declared.text_info.TextInfo.{TextInfo}
use Rattle.ima_verify_c.specs.Answers.{Answers, GivesEvents, HasNoNonce, IsGiven, IsMisused, IsRefusal, answer_of_status, info_of}
use Rattle.ima_verify_c.specs.Requests.{Asked, AsksFor, Misused, NotHexadecimal, nonce_in, signing_in}

-- ---- what tells which PCRs match

-- Whether these bytes are none.
abbrev pub is_none : List ℕ → Bool
is_none bytes = length bytes == 0

-- What the caller gives: which tells it, the text of expected PCRs, and of a quote the list, the message, the key, the signature, the nonce as bytes
-- or as digits, the PCRs that must be quoted, whether one may be in the SHA-1 bank alone, whether an older kernel's boot aggregate is taken, and
-- whether the signature was verified.
pub record Given : Type 0 where
  pub by : ℕ
  pub expected : List ℕ
  pub list : List ℕ
  pub message : List ℕ
  pub key : List ℕ
  pub signature : List ℕ
  pub nonce : List ℕ
  pub nonce_hex : List ℕ
  pub require : List ℕ
  pub allow_sha1 : Bool
  pub old_kernel : Bool
  pub signature_checked : Bool

abbrev pub given_of : Evidence → Given
given_of evidence = record {
  by = evidence.by;
  expected = evidence.expected.now;
  list = evidence.list.now;
  message = evidence.message.now;
  key = evidence.key.now;
  signature = evidence.signature.now;
  nonce = evidence.nonce.now;
  nonce_hex = evidence.nonce_hex.now;
  require = evidence.require.now;
  allow_sha1 = evidence.allow_sha1;
  old_kernel = evidence.old_kernel;
  signature_checked = evidence.signature_checked;
}

-- Whether nothing is given of a quote.
abbrev pub has_no_quote : Given → Bool
has_no_quote given =
    is_none given.list && is_none given.message && is_none given.key && is_none given.signature && is_none given.nonce && is_none given.nonce_hex
    && is_none given.require && not given.allow_sha1 && not given.old_kernel && not given.signature_checked

-- The quote, and what it must be, without its nonce. Its log is given apart.
abbrev pub quote_in : Given → Signing → AttestRequested
quote_in given signing = record {
  log = BytesOf [];
  list = BytesOf given.list;
  message = BytesOf given.message;
  nonce = [];
  required = given.require;
  takes_sha1 = given.allow_sha1;
  old_kernel = given.old_kernel;
  signing = signing;
  expected = None;
  scope = Whole;
  resume = None;
  saves = false;
  known = [];
}

-- The quote, if what tells that it is signed belongs together.
abbrev pub by_quote : Given → Option Confirmation
by_quote given = option_map (λ signing. ByQuote (quote_in given signing)) (signing_in given.key given.signature given.signature_checked)

-- What tells which PCRs match, but for a quote's nonce: 0 nothing, 1 the text of expected PCRs, 2 the quote. There is no such thing where anything is
-- given that does not belong to it.
abbrev pub confirmation_in : Given → Option Confirmation
confirmation_in given =
    if given.by == 0 then (if is_none given.expected && has_no_quote given then Some ByNothing else None)
    else if given.by == 1 then (if has_no_quote given then Some (ByExpected (BytesOf given.expected)) else None)
    else if given.by == 2 then (if is_none given.expected then by_quote given else None)
    else None

-- This, unless nothing tells it.
abbrev pub some_confirmation : Option Confirmation → Option Confirmation
some_confirmation None = None
some_confirmation (Some ByNothing) = None
some_confirmation (Some (ByExpected place)) = Some (ByExpected place)
some_confirmation (Some (ByQuote asked)) = Some (ByQuote asked)

-- The same with this nonce of a quote.
abbrev pub with_nonce : Confirmation → List ℕ → Confirmation
with_nonce ByNothing nonce = ByNothing
with_nonce (ByExpected place) nonce = ByExpected place
with_nonce (ByQuote asked) nonce = ByQuote (record asked { nonce = nonce })

abbrev pub asked_with_nonce : Option Confirmation → Asked (List ℕ) → Asked Confirmation
asked_with_nonce None nonce = Misused
asked_with_nonce (Some confirmation) Misused = Misused
asked_with_nonce (Some confirmation) NotHexadecimal = NotHexadecimal
asked_with_nonce (Some confirmation) (AsksFor nonce) = AsksFor (with_nonce confirmation nonce)

-- What tells which PCRs match: nothing may for a boot, and something must for the PCRs themselves.
abbrev pub asked_of_boot : Given → Asked Confirmation
asked_of_boot given = asked_with_nonce (confirmation_in given) (nonce_in given.nonce given.nonce_hex)

abbrev pub asked_of_matching : Given → Asked Confirmation
asked_of_matching given = asked_with_nonce (some_confirmation (confirmation_in given)) (nonce_in given.nonce given.nonce_hex)

-- The log of an earlier boot, if this one is compared.
abbrev pub earlier_in : Bool → List ℕ → Option Where
earlier_in compares before = if compares then Some (BytesOf before) else None

-- ---- outputs

-- What was made was given: an output, with what a call returns for its exit status; or the line of a fault.
abbrev pub GivesOutput : Form → Result Output RunFault → ℤ → TextInfo → List ℕ → List ℕ → Type 0
GivesOutput form (Ok output) answer info old new = IsGiven output.text.items (answer_of_status output.status) None answer info old new
GivesOutput form (Err fault) answer info old new = Answers (IsRefusal (λ reason. (reason ≡ fault) ⊎ (reason ≡ Memory)) form) answer info old new

-- It is the output that is wanted; or the line of a fault with this reason, or of memory that ran out.
abbrev pub IsOutputOr : (List ℕ → ℕ → Type 0) → (RunFault → Type 0) → Form → List ℕ → ℕ → Option RunFault → Type 0
IsOutputOr IsWanted HasReason form text status fault =
    ((fault ≡ None) × ((exit : ℕ) × IsWanted text exit × (status ≡ answer_of_status exit)))
    ⊎ IsRefusal (λ reason. HasReason reason ⊎ (reason ≡ Memory)) form text status fault

-- Nothing can be asked for so: nothing was read or written.
pub record IsNotAsked (answer : ℤ) (info : TextInfo) (old new : List ℕ) : Type 0 where
  pub answer_is : answer ≡ pos 6
  pub info_is : info ≡ info_of 0 None
  pub same : new ≡ old

-- The answer to what is asked for, if something is.
abbrev pub AnswersTo : Asked Confirmation → Form → (Confirmation → List ℕ → ℕ → Option RunFault → Type 0) → ℤ → TextInfo → List ℕ → List ℕ → Type 0
AnswersTo Misused form IsAnswer answer info old new = IsNotAsked answer info old new
AnswersTo NotHexadecimal form IsAnswer answer info old new = Answers (IsRefusal HasNoNonce form) answer info old new
AnswersTo (AsksFor confirmation) form IsAnswer answer info old new = Answers (IsAnswer confirmation) answer info old new

-- ---- the PCRs that match

-- The text is of the PCRs that match after the log, and the status is that of what they match by.
abbrev pub IsMatching : List ℕ → Confirmation → List ℕ → ℕ → Type 0
IsMatching log confirmation text exit =
    (matched : Option (List Pcr)) × AreMatched unknown confirmation log matched exit × (text ≡ matching_text (places_of matched))

abbrev pub IsMatchingAnswer : List ℕ → Confirmation → List ℕ → ℕ → Option RunFault → Type 0
IsMatchingAnswer log confirmation = IsOutputOr (IsMatching log confirmation) (AreNotMatched unknown confirmation log) Json

-- ---- a boot

abbrev pub IsBootAnswer : Form → Option Where → List ℕ → Confirmation → List ℕ → ℕ → Option RunFault → Type 0
IsBootAnswer form before log confirmation =
    IsOutputOr (ShowsBoot unknown form confirmation before log) (IsNoBoot unknown confirmation before log) form

-- ---- events

-- The PCRs that the text spells, if it is given.
abbrev pub AreGivenPlaces : Bool → List ℕ → Option (List Pcr) → Type 0
AreGivenPlaces false text matched = matched ≡ None
AreGivenPlaces true text matched = IsSomeAnd matched (SpellsPlaces text)

-- Why they are not known: the text is given, and spells none so; or memory ran out.
abbrev pub AreNoPlaces : Bool → List ℕ → RunFault → Type 0
AreNoPlaces given text fault =
    ((fault ≡ Usage) × ((matched : Option (List Pcr)) → AreGivenPlaces given text matched → ⊥)) ⊎ (fault ≡ Memory)

-- What a call gives of a log's events, with the PCRs that match: nothing, if the position is none; the lines from there on; or the line of the
-- fault, if these PCRs are not known.
abbrev pub GivesEventsBy : Bool → List ℕ → List ℕ → LineOffset → LineOffset → ℤ → TextInfo → List ℕ → List ℕ → Type 0
GivesEventsBy given text log position after answer info old new =
    ((is_within position (length log) ≡ false) × IsMisused position after answer info old new)
    ⊎ ((matched : Option (List Pcr)) × AreGivenPlaces given text matched × GivesEvents matched log position after answer info old new)
    ⊎ ((is_within position (length log) ≡ true) × (after ≡ position)
    × Answers (IsRefusal (AreNoPlaces given text) Json) answer info old new)

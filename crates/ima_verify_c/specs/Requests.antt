-- What a call with these bytes requests.
use Rattle.std.specs.Prelude.{ℕ, ◌==◌, ◌-◌, if◌then◌else◌, Bool, false, true, List, [], ◌∷◌, bytes_eq, codes, drop, length, take, Option, None, Some, option_map, Result, Ok, Err}
use Rattle.agent_plans.specs.declared.plan.Scope.{Scope}
use Rattle.agent_plans.specs.declared.plan.Scope.TheVariants.{Prefix, Whole}
use Rattle.cells.specs.declared.writer.Form.{Form}
use Rattle.cells.specs.declared.writer.Form.TheVariants.{Json, Text}
use Rattle.growing_lists.specs.declared.saved_state.SavedState.{SavedState}
use Rattle.hex.specs.Hex.{decode_of}
use Rattle.hex.specs.declared.error.FromHexError.{FromHexError}
use Rattle.agent_inputs.specs.Loading.{unknown}
use Rattle.judging.specs.Answering.{IsResumedState, IsTaken, checkpoint_of}
use Rattle.judging.specs.Requests.{Any, Attests, ByCaller, ByKey, Requested, Compared, Compares, Judgement, KeyOf, ListRegistersOf, ListVerdictOf, LogRegistersOf, NotChecked, PositionsOf, Requires, Signing, These, VerdictOf, WholeVerdictOf}
use Rattle.judging.specs.Inputs.{BytesOf, Where}
use Rattle.tpm_keys.specs.declared.kinds.KeyPart.TheVariants.{All}
use Rattle.tpm_keys.specs.declared.kinds.Purpose.{Purpose}
use Rattle.tpm_keys.specs.declared.kinds.Purpose.TheVariants.{Attestation, Endorsement}
use Rattle.ima_verify_c.specs.declared.nonce.Nonce.{Nonce}
use Rattle.ima_verify_c.specs.declared.nonce.Nonce.TheVariants.{Decoded, Given}
use Rattle.ima_verify_c.specs.declared.replayed.Replayed.{Replayed}
use Rattle.ima_verify_c.specs.declared.replayed.Replayed.TheVariants as logs

abbrev pub form_of : Bool → Form
form_of json = if json then Json else Text

-- These bytes, if there are any.
abbrev pub given_bytes : List ℕ → Option (List ℕ)
given_bytes bytes = if length bytes == 0 then None else Some bytes

-- What has to be among the expected PCRs: any, if the text is the word `none`; otherwise those that it spells. Without bytes it spells none, and is
-- refused.
abbrev pub required_by : List ℕ → Requires
required_by text = if bytes_eq text (codes "none") then Any else These text

-- The text of known files, if it is given.
abbrev pub known_in : Bool → List ℕ → List Where
known_in given text = if given then BytesOf text ∷ [] else []

-- What a list is worth against expected PCRs, with these texts of known files; whether an older kernel's boot aggregate is taken, which counts only
-- where the text names PCRs that have to be among the expected ones.
abbrev pub compared_by : Judgement → Bool → List ℕ → List ℕ → List ℕ → List Where → Compared
compared_by judgement old_kernel list expected require known = record {
  judgement = judgement;
  list = BytesOf list;
  expected = BytesOf expected;
  required = required_by require;
  old_kernel = old_kernel;
  known = known;
}

abbrev pub requested_by : Judgement → Bool → List ℕ → List ℕ → List ℕ → List Where → Requested
requested_by judgement old_kernel list expected require known = Compares (compared_by judgement old_kernel list expected require known)

-- The whole list, or its confirmed prefix.
abbrev pub scope_of : Bool → Scope
scope_of prefix = if prefix then Prefix else Whole

-- Where the checkpoint is that is gone on from, if it has bytes.
abbrev pub resume_of : List ℕ → Option Where
resume_of state = option_map BytesOf (given_bytes state)

-- What is gone on from, if anything, is the checkpoint of some list.
abbrev pub IsOfSomeList : Option Where → Type 0
IsOfSomeList resume = (known : Option SavedState) → IsResumedState unknown resume known → (taken : List ℕ) × IsTaken (checkpoint_of known) taken

-- The verdict on a log and a list, or on its confirmed prefix, from a checkpoint on, if there is one.
abbrev pub verdict_of : List ℕ → List ℕ → Bool → Judgement
verdict_of log state prefix = VerdictOf (BytesOf log) (scope_of prefix) (resume_of state)

-- The verdict on a log and a list; and, where no boot aggregate is looked at, where the PCRs have their values, and the verdict on a list alone.
abbrev pub requested_of_verdict : List ℕ → Bool → List ℕ → List ℕ → List ℕ → List Where → Requested
requested_of_verdict log old_kernel list expected require known =
    requested_by (WholeVerdictOf (BytesOf log)) old_kernel list expected require known

abbrev pub requested_of_positions : List ℕ → List ℕ → List ℕ → List ℕ → Requested
requested_of_positions log list expected require = requested_by (PositionsOf (BytesOf log)) false list expected require []

abbrev pub requested_of_list : List ℕ → List ℕ → List ℕ → List Where → Requested
requested_of_list list expected require known = requested_by ListVerdictOf false list expected require known

-- The verdict on a list that grows.
abbrev pub requested_of_more : List ℕ → Bool → List ℕ → List ℕ → List ℕ → List ℕ → List Where → Bool → Requested
requested_of_more log old_kernel state more expected require known prefix =
    requested_by (verdict_of log state prefix) old_kernel more expected require known

-- By what a message is known to be signed: by the key and the signature, if both have bytes; else by the word of the caller, if he gives it; else
-- by nothing. There is no such thing where one of both has bytes alone, or the caller gives his word beside them: so he asks for nothing.
abbrev pub signing_by : Option (List ℕ) → Option (List ℕ) → Bool → Option Signing
signing_by None None false = Some NotChecked
signing_by None None true = Some ByCaller
signing_by (Some key) (Some signature) false = Some (ByKey (BytesOf key) (BytesOf signature))
signing_by (Some key) (Some signature) true = None
signing_by (Some key) None signature_checked = None
signing_by None (Some signature) signature_checked = None

abbrev pub signing_in : List ℕ → List ℕ → Bool → Option Signing
signing_in key signature signature_checked = signing_by (given_bytes key) (given_bytes signature) signature_checked

-- What inputs ask for: nothing, since they do not belong together; nothing, since the text of a nonce is not hexadecimal; or this.
pub data Asked (A : Type 0) : Type 0 where
  Misused : Asked A
  NotHexadecimal : Asked A
  AsksFor : A → Asked A

-- The text without the line feed at its end, if it has one.
abbrev pub without_line_feed : List ℕ → List ℕ
without_line_feed text = if bytes_eq (drop (length text - 1) text) (codes "\n") then take (length text - 1) text else text

abbrev pub nonce_spelled : Result (List ℕ) FromHexError → Asked (List ℕ)
nonce_spelled (Ok nonce) = AsksFor nonce
nonce_spelled (Err fault) = NotHexadecimal

-- The nonce, of which bytes are given, or a text of hexadecimal digits: not both.
abbrev pub nonce_by : Option (List ℕ) → Option (List ℕ) → Asked (List ℕ)
nonce_by None None = AsksFor []
nonce_by (Some nonce) None = AsksFor nonce
nonce_by None (Some digits) = nonce_spelled (decode_of (without_line_feed digits))
nonce_by (Some nonce) (Some digits) = Misused

abbrev pub nonce_in : List ℕ → List ℕ → Asked (List ℕ)
nonce_in nonce digits = nonce_by (given_bytes nonce) (given_bytes digits)

-- The bytes of a log that is replayed.
abbrev pub replayed_bytes : Replayed → List ℕ
replayed_bytes (logs.Given bytes) = bytes.now
replayed_bytes (logs.Told bytes) = bytes.items

-- The bytes of a nonce.
abbrev pub nonce_bytes : Nonce → List ℕ
nonce_bytes (Given bytes) = bytes.now
nonce_bytes (Decoded bytes) = bytes.items

-- What is asked for with what tells that the message is signed, and with the nonce.
abbrev pub asked_with : {A : Type 0} → Option Signing → Asked (List ℕ) → (Signing → List ℕ → A) → Asked A
asked_with None nonce asks = Misused
asked_with (Some signing) Misused asks = Misused
asked_with (Some signing) NotHexadecimal asks = NotHexadecimal
asked_with (Some signing) (AsksFor nonce) asks = AsksFor (asks signing nonce)

-- Whether a quote is of a log and a list, or of its confirmed prefix, from a checkpoint on, if there is one; if something is asked for.
abbrev pub requested_of_attestation : List ℕ → Bool → List ℕ → List ℕ → List ℕ → List ℕ → List ℕ → List ℕ → List ℕ → List ℕ → List Where → Bool → Bool
    → Bool → Asked Requested
requested_of_attestation log old_kernel state more message key signature nonce nonce_hex require known allow_sha1 signature_checked prefix =
    asked_with (signing_in key signature signature_checked) (nonce_in nonce nonce_hex) (λ signing nonce. Attests (record {
      log = BytesOf log;
      list = BytesOf more;
      message = BytesOf message;
      nonce = nonce;
      required = require;
      takes_sha1 = allow_sha1;
      old_kernel = old_kernel;
      signing = signing;
      expected = None;
      scope = scope_of prefix;
      resume = resume_of state;
      saves = true;
      known = known;
    }))

-- The registers after a list alone, or after a log.
abbrev pub requested_of_registers : Bool → List ℕ → Requested
requested_of_registers of_list bytes = if of_list then ListRegistersOf (BytesOf bytes) else LogRegistersOf (BytesOf bytes)

-- What the key must be for.
abbrev pub purpose_of : Bool → Purpose
purpose_of endorsement = if endorsement then Endorsement else Attestation

-- All that is reported of the key of this public area, if it is an endorsement key, or an attestation key.
abbrev pub requested_of_key : List ℕ → Bool → Requested
requested_of_key area endorsement = KeyOf (BytesOf area) (purpose_of endorsement) All

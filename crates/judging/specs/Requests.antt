-- What is asked for: what is judged, and what the answer says of it.
use Rattle.std.specs.Prelude.{ℕ, Bool, true, false, List, [], ◌∷◌, Option, None, Some, map, option_map}
use Rattle.boot_verdict.specs.declared.aggregate_rule.AggregateRule.{AggregateRule}
use Rattle.boot_verdict.specs.Names.{plain_rule, wide_rule}
use Rattle.tpm_keys.specs.declared.kinds.KeyPart.{KeyPart}
use Rattle.tpm_keys.specs.declared.kinds.Purpose.{Purpose}
use Rattle.agent_plans.specs.declared.plan.Scope.{Scope}
use Rattle.agent_plans.specs.declared.plan.Scope.TheVariants.{Whole, Prefix}
use Rattle.judging.specs.Inputs.{Where, FileOf, HcrtmLogOf, StandardInput, BytesOf}
use Rattle.judging.specs.declared.inputs.Input.{Input}
use Rattle.judging.specs.declared.inputs.Input.TheVariants as inputs
use Rattle.judging.specs.declared.inputs.Held.{Held}
use Rattle.judging.specs.declared.inputs.Held.TheVariants as helds
use Rattle.judging.specs.declared.request.AttestRequest.{AttestRequest}
use Rattle.judging.specs.declared.request.Comparison.{Comparison}
use Rattle.judging.specs.declared.request.Request.{Request}
use Rattle.judging.specs.declared.request.Request.TheVariants as requests
use Rattle.judging.specs.declared.request.Required.{Required}
use Rattle.judging.specs.declared.request.Required.TheVariants as required
use Rattle.judging.specs.declared.request.Signing.{Signing as HeldSigning}
use Rattle.judging.specs.declared.request.Signing.TheVariants as signings
use Rattle.judging.specs.declared.request.ReportKind.{ReportKind}
use Rattle.judging.specs.declared.request.ReportKind.TheVariants as wanted

-- What the answer is: the verdict on a log and a list, or on a prefix of it, which may go on from a checkpoint, and from which another may go on;
-- the verdict on a log and a whole list, from which nobody goes on; where the registers have their values in a log and a list; or the verdict on a
-- list alone.
pub data Judgement : Type 0 where
  VerdictOf : Where → Scope → Option Where → Judgement
  WholeVerdictOf : Where → Judgement
  PositionsOf : Where → Judgement
  ListVerdictOf : Judgement

-- What has to be among the expected registers: nothing; some register; or those that a text spells.
pub data Requires : Type 0 where
  Nothing : Requires
  Any : Requires
  These : List ℕ → Requires

-- By which rule the boot aggregate is taken, where this has to be among the expected registers, and an older kernel's is taken or not: by the
-- plain one, unless a text spells what is required.
abbrev pub rule_by : Requires → Bool → AggregateRule
rule_by (These text) old_kernel = wide_rule old_kernel
rule_by requires old_kernel = plain_rule

-- What is compared: the result, with what only it is of; where the list is, or what follows the checkpoint, and the text of expected
-- registers; what has to be among these, and whether an older kernel's boot aggregate is taken beside a text of that; and where the texts of known
-- files are, if files have to be known.
pub record Compared : Type 0 where
  pub judgement : Judgement
  pub list : Where
  pub expected : Where
  pub required : Requires
  pub old_kernel : Bool
  pub known : List Where

-- What tells that a quote's message is signed by the right key: nothing; the caller says so; or the key and the signature that are there.
pub data Signing : Type 0 where
  NotChecked : Signing
  ByCaller : Signing
  ByKey : Where → Where → Signing

-- What is judged by a quote: where the log is, the list, or what follows the checkpoint, and the quote's message; the nonce, the text of the
-- registers that must be quoted, whether one may be in the SHA-1 bank alone, and whether an older kernel's boot aggregate is taken; what tells that
-- the message is signed; where the text of expected registers is, if there is one; which part of the list; where the checkpoint is that is gone on
-- from, if there is one; whether somebody saves where to go on; and where the texts of known files are, if files have to be known.
pub record AttestRequested : Type 0 where
  pub log : Where
  pub list : Where
  pub message : Where
  pub nonce : List ℕ
  pub required : List ℕ
  pub takes_sha1 : Bool
  pub old_kernel : Bool
  pub signing : Signing
  pub expected : Option Where
  pub scope : Scope
  pub resume : Option Where
  pub saves : Bool
  pub known : List Where

-- What is asked for: whether a quote is of a log and a list; what a list is worth against expected registers; the registers after a log, or after
-- a list alone; the expected registers that a text has, as tpm2-tools printed it, of those that another text selects, if there is
-- one; or what is told of a key of a TPM, if it is one for this purpose, and what of that is wanted.
pub data Requested : Type 0 where
  Attests : AttestRequested → Requested
  Compares : Compared → Requested
  LogRegistersOf : Where → Requested
  ListRegistersOf : Where → Requested
  ExpectedOf : Where → Option (List ℕ) → Requested
  KeyOf : Where → Purpose → KeyPart → Requested

-- The verdict that is asked for so: nobody goes on from one on a whole list that goes on from nothing, unless somebody saves where to go on.
abbrev pub verdict_for : Bool → Where → Scope → Option Where → Judgement
verdict_for false log Whole None = WholeVerdictOf log
verdict_for saves log scope resume = VerdictOf log scope resume

-- The verdict that is wanted of what is judged by a quote.
abbrev pub verdict_asked : AttestRequested → Judgement
verdict_asked asked = verdict_for asked.saves asked.log asked.scope asked.resume

-- Where the log is, if there is one.
abbrev pub log_of : Judgement → Option Where
log_of (VerdictOf log scope resume) = Some log
log_of (WholeVerdictOf log) = Some log
log_of (PositionsOf log) = Some log
log_of ListVerdictOf = None

-- Where the checkpoint is that is gone on from, if there is one.
abbrev pub resume_of : Judgement → Option Where
resume_of (VerdictOf log scope resume) = resume
resume_of (WholeVerdictOf log) = None
resume_of (PositionsOf log) = None
resume_of ListVerdictOf = None

-- Whether the texts of known files can be asked for so: for a verdict alone, and only beside a text of required registers.
abbrev pub takes_known : Judgement → Requires → List Where → Bool
takes_known judgement requires [] = true
takes_known (PositionsOf log) requires (place ∷ places) = false
takes_known judgement (These text) (place ∷ places) = true
takes_known judgement requires (place ∷ places) = false

-- ---- what contracts see of a request

abbrev pub location_of : Input → Where
location_of (inputs.File name) = FileOf name.now
location_of inputs.StandardInput = StandardInput
location_of (inputs.HcrtmLog name) = HcrtmLogOf name.now
location_of (inputs.Bytes content) = BytesOf content.now

abbrev pub held_bytes : Held → List ℕ
held_bytes (helds.File content) = content.items
held_bytes (helds.Bytes content) = content.now

abbrev pub judgement_of : ReportKind → Judgement
judgement_of (wanted.Verdict log scope resume) = VerdictOf (location_of log) scope (option_map location_of resume)
judgement_of (wanted.WholeVerdict log) = WholeVerdictOf (location_of log)
judgement_of (wanted.Positions log) = PositionsOf (location_of log)
judgement_of wanted.ListVerdict = ListVerdictOf

abbrev pub requires_of : Required → Requires
requires_of required.Nothing = Nothing
requires_of required.Any = Any
requires_of (required.These text) = These text.now

abbrev pub signing_of : HeldSigning → Signing
signing_of signings.NotChecked = NotChecked
signing_of signings.ByCaller = ByCaller
signing_of (signings.ByKey key signature) = ByKey (location_of key) (location_of signature)

abbrev pub compared_of : Comparison → Compared
compared_of comparison = record {
  judgement = judgement_of comparison.wanted;
  list = location_of comparison.list;
  expected = location_of comparison.expected;
  required = requires_of comparison.required;
  old_kernel = comparison.old_kernel;
  known = map location_of comparison.known.now;
}

abbrev pub attested_of : AttestRequest → AttestRequested
attested_of asked = record {
  log = location_of asked.log;
  list = location_of asked.list;
  message = location_of asked.message;
  nonce = asked.nonce.now;
  required = asked.required.now;
  takes_sha1 = asked.takes_sha1;
  old_kernel = asked.old_kernel;
  signing = signing_of asked.signing;
  expected = option_map location_of asked.expected;
  scope = asked.scope;
  resume = option_map location_of asked.resume;
  saves = asked.saves;
  known = map location_of asked.known.now;
}

abbrev pub requested_of : Request → Requested
requested_of (requests.Attestation asked) = Attests (attested_of asked)
requested_of (requests.Comparison comparison) = Compares (compared_of comparison)
requested_of (requests.LogRegisters log) = LogRegistersOf (location_of log)
requested_of (requests.ListRegisters list) = ListRegistersOf (location_of list)
requested_of (requests.Expected printed registers) = ExpectedOf (location_of printed) (option_map (λ text. text.now) registers)
requested_of (requests.Key area purpose part) = KeyOf (location_of area) purpose part

-- What asks the same of the shortest prefix of the list that matches, where it is asked of a whole list.
abbrev pub compared_on_prefix : Judgement → Option Judgement
compared_on_prefix (VerdictOf log Whole resume) = Some (VerdictOf log Prefix resume)
compared_on_prefix (WholeVerdictOf log) = Some (VerdictOf log Prefix None)
compared_on_prefix judgement = None

abbrev pub attested_on_prefix : AttestRequested → Scope → Option Requested
attested_on_prefix asked Whole = Some (Attests (record asked { scope = Prefix }))
attested_on_prefix asked Prefix = None

abbrev pub on_prefix : Requested → Option Requested
on_prefix (Compares request) =
    option_map (λ judgement. Compares (record request { judgement = judgement })) (compared_on_prefix request.judgement)
on_prefix (Attests asked) = attested_on_prefix asked asked.scope
on_prefix request = None

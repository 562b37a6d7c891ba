-- What queries of the command line ask of their inputs.
use Rattle.std.specs.Prelude.{ℕ, Bool, true, false, List, [], map, string_bytes, Option, None, Some, is_some, option_map, String}
use Rattle.std.specs.Global.{Global, Vec}
use Rattle.agent_plans.specs.declared.plan.Scope.TheVariants.{Whole}
use Rattle.agent_plans.specs.declared.plan.AttestOptions.{AttestOptions}
use Rattle.agent_plans.specs.declared.plan.ComparisonOptions.{ComparisonOptions}
use Rattle.agent_plans.specs.declared.plan.ComparisonKind.{ComparisonKind}
use Rattle.agent_plans.specs.declared.plan.ComparisonKind.TheVariants as kinds
use Rattle.agent_plans.specs.declared.plan.LogFile.{LogFile}
use Rattle.agent_plans.specs.declared.plan.Query.{Query}
use Rattle.agent_plans.specs.declared.plan.Query.TheVariants as queries
use Rattle.agent_plans.specs.declared.plan.Quoting.{Quoting}
use Rattle.agent_plans.specs.declared.plan.SigningOptions.{SigningOptions}
use Rattle.agent_plans.specs.declared.plan.SigningOptions.TheVariants as signings
use Rattle.judging.specs.Requests.{Any, AttestRequested, Attests, ByCaller, ByKey, NotChecked, Requested, Signing, Compared, Compares, ExpectedOf, Judgement, KeyOf, ListRegistersOf, ListVerdictOf, LogRegistersOf, Nothing, PositionsOf, Requires, These, verdict_for}
use Rattle.agent_inputs.specs.Opening.{opened_name}
use Rattle.judging.specs.Inputs.{FileOf, HcrtmLogOf, StandardInput, Where}

-- The file of this name.
abbrev pub file_of : String Global → Where
file_of name = FileOf (string_bytes name)

-- The file of this name, or standard input without a name.
abbrev pub place_of : Option (List ℕ) → Where
place_of None = StandardInput
place_of (Some name) = FileOf name

-- The input that an argument names, where `-` is standard input.
abbrev pub input_named : List ℕ → Where
input_named argument = place_of (opened_name argument)

-- The log in the file of this name: its H-CRTM event tells where the machine started, or it is replayed as it stands.
abbrev pub log_place : Bool → List ℕ → Where
log_place true name = HcrtmLogOf name
log_place false name = FileOf name

abbrev pub log_named : LogFile → Where
log_named log = log_place log.hcrtm (string_bytes log.name)

-- The files of these names; none without names.
abbrev pub files_of : Option (Vec (String Global)) → List Where
files_of None = []
files_of (Some names) = map file_of names.items

abbrev pub judgement_by : ComparisonKind → Judgement
judgement_by (kinds.Verdict log scope resume save) = verdict_for (is_some save) (log_named log) scope (option_map file_of resume)
judgement_by (kinds.Positions log) = PositionsOf (log_named log)
judgement_by kinds.ListVerdict = ListVerdictOf

-- What has to be among the expected registers: those that the text spells, if it is given; else some register, if the verdict is on a list
-- that grows.
abbrev pub requires_by : ComparisonKind → Option (String Global) → Requires
requires_by kind (Some text) = These (string_bytes text)
requires_by (kinds.Verdict log Whole None None) None = Nothing
requires_by (kinds.Verdict log scope resume save) None = Any
requires_by (kinds.Positions log) None = Nothing
requires_by kinds.ListVerdict None = Nothing

abbrev pub compared_by : ComparisonOptions → Compared
compared_by judge = record {
  judgement = judgement_by judge.kind;
  list = file_of judge.list;
  expected = file_of judge.expected;
  required = requires_by judge.kind judge.required;
  old_kernel = judge.old_kernel;
  known = files_of judge.known;
}

abbrev pub signing_by : SigningOptions → Signing
signing_by signings.NotChecked = NotChecked
signing_by signings.ByCaller = ByCaller
signing_by (signings.ByKey key signature) = ByKey (file_of key) (file_of signature)

-- What is judged by a quote of this log, and of a whole list: it goes on from nothing, and nobody goes on from it.
abbrev pub attested_with : Where → Quoting → AttestRequested
attested_with log quoting = record {
  log = log;
  list = FileOf (string_bytes quoting.list);
  message = FileOf (string_bytes quoting.quote);
  nonce = quoting.nonce.items;
  required = string_bytes quoting.required;
  takes_sha1 = quoting.takes_sha1;
  old_kernel = quoting.old_kernel;
  signing = signing_by quoting.signing;
  expected = None;
  scope = Whole;
  resume = None;
  saves = false;
  known = [];
}

-- What is judged by a quote.
abbrev pub attested_by : AttestOptions → AttestRequested
attested_by attest = record (attested_with (log_named attest.log) attest.quoting) {
  expected = option_map file_of attest.expected;
  scope = attest.scope;
  resume = option_map file_of attest.resume;
  saves = is_some attest.save;
  known = files_of attest.known;
}

-- What a question asks. Only what is converted, printed text and keys, comes from standard input if its argument is `-`.
abbrev pub requested_by : Query → Requested
requested_by (queries.LogRegisters log) = LogRegistersOf (log_named log)
requested_by (queries.ListRegisters list) = ListRegistersOf (file_of list)
requested_by (queries.Comparison judge) = Compares (compared_by judge)
requested_by (queries.Attestation attest) = Attests (attested_by attest)
requested_by (queries.Expected printed registers) = ExpectedOf (input_named (string_bytes printed)) (option_map string_bytes registers)
requested_by (queries.Key area purpose part) = KeyOf (input_named (string_bytes area)) purpose part

-- The same with these texts of known files.
abbrev pub with_known : List Where → Requested → Requested
with_known known (Compares request) = Compares (record request { known = known })
with_known known (Attests asked) = Attests (record asked { known = known })
with_known known request = request

-- The texts of known files that a question names.
abbrev pub known_by : Query → List Where
known_by (queries.Comparison judge) = files_of judge.known
known_by (queries.Attestation attest) = files_of attest.known
known_by question = []

-- The name under which the checkpoint is saved, if it is.
abbrev pub save_of : ComparisonKind → Option (List ℕ)
save_of (kinds.Verdict log scope resume save) = option_map string_bytes save
save_of kind = None

abbrev pub save_by : Query → Option (List ℕ)
save_by (queries.Comparison judge) = save_of judge.kind
save_by (queries.Attestation attest) = option_map string_bytes attest.save
save_by question = None

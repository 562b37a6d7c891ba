-- The registers that match: those that have their expected values after a log, before any list; or those that are required of a quote, which the
-- list does not extend.
use Rattle.std.specs.Prelude.{◌≡◌, ◌⊎◌, ℕ, ◌==◌, ◌&&◌, Bool, true, false, not, List, [], map, flat_map, filter, Option, None, Some, IsSomeAnd}
use Rattle.std.specs.List.{AllByRecursion, Contains, list_any}
use Rattle.std.specs.Option.{option_map_or}
use Rattle.pcr_banks.specs.declared.alg.Alg.{Alg}
use Rattle.pcr_banks.specs.declared.alg.Alg.TheVariants.{Sha1}
use Rattle.pcr_banks.specs.declared.sets.AlgSet.{AlgSet}
use Rattle.pcr_banks.specs.Names.{alg_of, bytes_of, same_alg}
use Rattle.pcr_values.specs.Names.{IsExpectedText, names}
use Rattle.pcr_values.specs.declared.expected.Expected.{Expected}
use Rattle.pcr_values.specs.declared.selection.BankRange.{BankRange}
use Rattle.tpm_quotes.specs.Spelling.{BankSelection, all_registers, is_selected}
use Rattle.attestations.specs.Quoted.{stated_of}
use Rattle.boot_log.specs.declared.header.DeclaredAlgorithm.{DeclaredAlgorithm}
use Rattle.boot_log.specs.Names.{IsLog, LogEvent, algs_in}
use Rattle.boot_verdict.specs.Names.{IsRequirementText, ReadsAsLog, is_value, list_register, pcr_after_log}
use Rattle.measured_data.specs.declared.confirmed.Pcr.{Pcr}
use Rattle.agent_plans.specs.declared.plan.Scope.TheVariants.{Whole}
use Rattle.judging.specs.declared.request.Answer.{Answer}
use Rattle.judging.specs.declared.request.Answer.TheVariants as answers
use Rattle.judging.specs.declared.request.Answered.{Answered}
use Rattle.judging.specs.Answering.{IsAttestation, IsNotExpected}
use Rattle.judging.specs.Inputs.{BytesOf, IsInputFault, OfInput, Where}
use Rattle.judging.specs.Requests.{AttestRequested, Attests, attested_of, location_of}
use Rattle.rendering.specs.Rendering.{IsRefusalOn, answer_status}
use Rattle.agent_inputs.specs.declared.fault.RunFault.{RunFault}
use Rattle.agent_inputs.specs.declared.fault.RunFault.TheVariants as runs
use Rattle.agent_inputs.specs.Faults.{HasLogFault}
use Rattle.agent_inputs.specs.Loading.{Inputs}
use Rattle.confirming.specs.declared.confirmation.Confirming.{Confirming}
use Rattle.confirming.specs.declared.confirmation.Confirming.TheVariants as tells

-- The register that is expected to have a value.
abbrev pub place_of : Expected → Pcr
place_of expected = record { alg = expected.alg; register = expected.register }

-- The value of each register of each bank; none of one that is not there.
abbrev pub Values : Type 0
Values = Alg → ℕ → Option (List ℕ)

-- Whether the register has the value that is expected. A register that is not there never has.
abbrev pub has_value : Values → Expected → Bool
has_value value expected = option_map_or (is_value expected) (value expected.alg expected.register) false

-- Whether it refutes what is said of the register: it is of a bank other than SHA-1, and has not the value that is expected.
abbrev pub refutes : Values → ℕ → Expected → Bool
refutes value register expected =
    not (same_alg expected.alg Sha1) && ((expected.register == register) && not (has_value value expected))

abbrev pub is_refuted : Values → List Expected → ℕ → Bool
is_refuted value expected register = list_any (refutes value register) expected

-- Whether the register counts as one that matches: it has the value that is expected of it in this bank, and no other bank refutes it. (A
-- bank that the firmware does not extend is root's to extend: it must not outweigh another.)
abbrev pub counts : Values → List Expected → Expected → Bool
counts value expected row = has_value value row && not (is_refuted value expected row.register)

-- Those of the rows that count, in their order.
abbrev pub matched_among : Values → List Expected → List Expected → List Pcr
matched_among value expected rows = map place_of (filter (counts value expected) rows)

-- Those of the expected registers that match after the log's events: a register that none extends has its reset value.
abbrev pub matched_places : AlgSet → List LogEvent → List Expected → List Pcr
matched_places algs events expected = matched_among (pcr_after_log algs events) expected expected

-- After the log the expected register has its value, of its bank.
pub record HasExpected (algs : AlgSet) (events : List LogEvent) (row : Expected) : Type 0 where
  pub bank_is : alg_of row.value ≡ row.alg
  pub value_is : pcr_after_log algs events row.alg row.register ≡ Some (bytes_of row.value)

-- Some value is expected of the register, and it is the one that the register has after the log; and so it is in each bank other than
-- SHA-1 in which one is expected of the register.
pub record IsMatched (algs : AlgSet) (events : List LogEvent) (expected : List Expected) (place : Pcr) : Type 0 where
  pub row : Expected
  pub among : Contains expected row
  pub place_is : place ≡ place_of row
  pub has : HasExpected algs events row
  pub agreed : (other : Expected) → Contains expected other → other.register ≡ row.register → (other.alg ≡ Sha1 → ⊥)
      → HasExpected algs events other

-- ---- by a quote

-- Whether the quote is of the register's value, which the log alone gives it: it selects the register, and the list extends another.
abbrev pub is_of_log : List ℕ → ℕ → Bool
is_of_log bits register = not (register == list_register) && is_selected bits register

-- The register of the bank of this algorithm.
abbrev pub place_at : Alg → ℕ → Pcr
place_at alg register = record { alg = alg; register = register }

-- Whether the quote confirms the register in its bank: it is required there, and the quote is of the value that the log alone gives it. (Root chooses
-- what else the quote selects: it may be a bank that the firmware does not extend, which is root's to extend.)
abbrev pub is_confirmed : List BankRange → List ℕ → Pcr → Bool
is_confirmed required bits place = names required place.alg place.register && is_of_log bits place.register

-- Those of a bank, ascending.
abbrev pub places_in : List BankRange → BankSelection → List Pcr
places_in required selection = filter (is_confirmed required selection.bits) (map (place_at selection.alg) all_registers)

-- Those of all banks that are selected from.
abbrev pub quoted_places : List BankRange → List BankSelection → List Pcr
quoted_places required selections = flat_map (places_in required) selections

-- The registers that match by an answer: none, unless all is well with it.
abbrev pub places_by : List BankRange → Bool → Answer → List Pcr
places_by required true (answers.Attestation report) = quoted_places required (stated_of report.quoted).selections
places_by required is_success answer = []

-- These match by the answer to what is asked of a quote, whose text requires these registers; and the status is that of the answer.
pub record AreMatchedByQuote (inputs : Inputs) (asked : AttestRequested) (places : List Pcr) (status : ℕ) : Type 0 where
  pub required : List BankRange
  pub given : Answered
  pub required_are : IsRequirementText asked.required required
  pub answer_is : IsAttestation inputs asked given
  pub places_are : places ≡ places_by required given.is_success given.answer
  pub status_is : status ≡ answer_status given.is_success given.answer

-- The text requires each of these registers, in its bank.
pub record AreRequiredBy (text : List ℕ) (places : List Pcr) : Type 0 where
  pub required : List BankRange
  pub required_are : IsRequirementText text required
  pub named : AllByRecursion (λ place. names required place.alg place.register ≡ true) places

-- ---- what tells it

-- What tells which registers match after a log: nothing; the text of expected registers, which is there; or a quote of the log and a list.
pub data Confirmation : Type 0 where
  ByNothing : Confirmation
  ByExpected : Where → Confirmation
  ByQuote : AttestRequested → Confirmation

abbrev pub confirmation_of : Confirming → Confirmation
confirmation_of tells.Nothing = ByNothing
confirmation_of (tells.Expected text) = ByExpected (location_of text)
confirmation_of (tells.Quote asked) = ByQuote (attested_of asked)

-- What is asked of a quote on the log in these bytes, and on a whole list: nobody goes on from anything.
abbrev pub asked_on : List ℕ → AttestRequested → AttestRequested
asked_on log asked = record asked { log = BytesOf log; scope = Whole; resume = None }

-- The bytes are a log, the text states expected registers, and these of them match.
pub record MatchIn (log text : List ℕ) (places : List Pcr) : Type 0 where
  pub table : List DeclaredAlgorithm
  pub events : List LogEvent
  pub expected : List Expected
  pub log_is : IsLog log table events
  pub text_is : IsExpectedText text expected
  pub places_are : places ≡ matched_places (algs_in table) events expected

-- The registers that match after the log, if something tells it; none are compared if nothing does. And the status once all is told.
abbrev pub AreMatched : Inputs → Confirmation → List ℕ → Option (List Pcr) → ℕ → Type 0
AreMatched inputs ByNothing log matched status = (matched ≡ None) × (status ≡ 0)
AreMatched inputs (ByExpected place) log matched status =
    IsSomeAnd matched (λ places. OfInput inputs place (λ text. MatchIn log text places)) × (status ≡ 0)
AreMatched inputs (ByQuote asked) log matched status =
    IsSomeAnd matched (λ places. AreMatchedByQuote inputs (asked_on log asked) places status)

-- If registers are compared, the bytes are a log.
abbrev pub IsComparedLog : Confirmation → List ℕ → Type 0
IsComparedLog ByNothing log = Unit {0}
IsComparedLog (ByExpected place) log = ReadsAsLog log
IsComparedLog (ByQuote asked) log = ReadsAsLog log

-- ---- why it is not known

-- Why nothing is said of a log: the bytes are none; or they are one, and memory ran out.
abbrev pub IsLogFaultOf : List ℕ → RunFault → Type 0
IsLogFaultOf log fault = HasLogFault log fault ⊎ ((fault ≡ runs.Memory) × ReadsAsLog log)

-- Why the text tells of none: it states no expected registers; or it does, and the bytes are no log, or are one and memory ran out.
abbrev pub AreNotStated : List ℕ → List ℕ → RunFault → Type 0
AreNotStated log text fault = IsNotExpected text fault ⊎ (((expected : List Expected) × IsExpectedText text expected) × IsLogFaultOf log fault)

-- Why the input tells of none: it is not loaded; or its text tells of none.
abbrev pub AreNotExpected : Inputs → Where → List ℕ → RunFault → Type 0
AreNotExpected inputs place log fault = IsInputFault inputs place fault ⊎ OfInput inputs place (λ text. AreNotStated log text fault)

-- Why they are not known.
abbrev pub AreNotMatched : Inputs → Confirmation → List ℕ → RunFault → Type 0
AreNotMatched inputs ByNothing log fault = ⊥
AreNotMatched inputs (ByExpected place) log fault = AreNotExpected inputs place log fault
AreNotMatched inputs (ByQuote asked) log fault = IsRefusalOn inputs (Attests (asked_on log asked)) fault

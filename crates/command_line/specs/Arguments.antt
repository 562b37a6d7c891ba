-- The commands as clap takes them, and the plan that comes from the arguments.
use Rattle.std.specs.Prelude.{◌≡◌, Bool, true, false, Option, None, String, List, [], ◌∷◌, codes, Ok, Some, ℕ, ◌⊎◌, ◌||◌, ◌&&◌, ◌==◌, IsTrue, bytes_eq, drop, find, if◌then◌else◌, insert, length, map, nat_le, not, option_map, slice_get, unwrap_or, string_bytes}
use Rattle.std.specs.Global.{Global, Vec}
use Rattle.std.specs.List.{fold, list_any, position_or_len, starts_with}
use Rattle.std.specs.Option.{option_map_or}
use Rattle.clap.specs.Words.{App, Rule, Text, new_app, new_rule, with_rule, with_subcommand, Row, all_of, first_of, subcommand_of}
use Rattle.clap.specs.Lexer.{usize_max}
use Rattle.clap.specs.declared.builder.ArgAction.TheVariants.{Append, SetTrue, Version as show_version}
use Rattle.clap.specs.declared.builder.ValueParser.{ValueParser}
use Rattle.std.specs.Str.Parse.{IsNumeral, digits_value, without_leading_plus}
use Rattle.clap.specs.Takes.{takes}
use Rattle.pcr_banks.specs.Names.{name_of}
use Rattle.ima_list.specs.Names.{template_name}
use Rattle.agent_plans.specs.Plans.{IsOneOf, task_of}
use Rattle.hex.specs.Hex.{decode_of}
use Rattle.agent_plans.specs.declared.plan.AttestOptions.{AttestOptions}
use Rattle.agent_plans.specs.declared.plan.ConfirmedBy.{ConfirmedBy}
use Rattle.agent_plans.specs.declared.plan.ConfirmedBy.TheVariants.{Expected, Nothing, Quote}
use Rattle.agent_plans.specs.declared.plan.Conversion.{Conversion}
use Rattle.agent_plans.specs.declared.plan.Conversion.TheVariants as conversions
use Rattle.agent_plans.specs.declared.plan.DataShown.{DataShown}
use Rattle.agent_plans.specs.declared.plan.DataShown.TheVariants.{Bytes, Meaning}
use Rattle.cells.specs.declared.writer.Form.{Form}
use Rattle.cells.specs.declared.writer.Form.TheVariants as forms
use Rattle.agent_plans.specs.declared.plan.ComparisonKind.{ComparisonKind}
use Rattle.agent_plans.specs.declared.plan.ComparisonKind.TheVariants as kinds
use Rattle.agent_plans.specs.declared.plan.LogFile.{LogFile}
use Rattle.agent_plans.specs.declared.plan.Look.{Look}
use Rattle.agent_plans.specs.declared.plan.Look.TheVariants.{Plain, Terminal, Summary}
use Rattle.agent_plans.specs.declared.plan.Measurement.{Measurement}
use Rattle.agent_plans.specs.declared.plan.NameEnd.TheVariants.{LineFeed, Nul}
use Rattle.agent_plans.specs.declared.plan.Names.{Names}
use Rattle.agent_plans.specs.declared.plan.Plan.{Plan}
use Rattle.agent_plans.specs.declared.plan.Plan.TheVariants as plans
use Rattle.agent_plans.specs.declared.plan.Print.{Print}
use Rattle.agent_plans.specs.declared.plan.Print.TheVariants as prints
use Rattle.agent_plans.specs.declared.plan.Query.{Query}
use Rattle.agent_plans.specs.declared.plan.Query.TheVariants as queries
use Rattle.agent_plans.specs.declared.plan.Quoting.{Quoting}
use Rattle.agent_plans.specs.declared.plan.Scope.TheVariants.{Whole, Prefix}
use Rattle.agent_plans.specs.declared.plan.SigningOptions.{SigningOptions}
use Rattle.agent_plans.specs.declared.plan.SigningOptions.TheVariants.{NotChecked, ByCaller, ByKey}
use Rattle.agent_plans.specs.declared.plan.Task.{Task}
use Rattle.agent_plans.specs.declared.plan.Task.TheVariants as tasks
use Rattle.terminal_colors.specs.declared.choice.ColorChoice.{ColorChoice}
use Rattle.terminal_colors.specs.declared.choice.ColorChoice.TheVariants.{Auto, Always, Never}
use Rattle.tpm_keys.specs.declared.kinds.KeyPart.{KeyPart}
use Rattle.tpm_keys.specs.declared.kinds.KeyPart.TheVariants as parts
use Rattle.tpm_keys.specs.declared.kinds.Purpose.{Purpose}
use Rattle.tpm_keys.specs.declared.kinds.Purpose.TheVariants.{Attestation, Endorsement}

-- ---- the commands

-- clap's parsers of the values of options. They are left open: a plan says what the values are.
pub record Parsers : Type 0 where
  pub algs : ValueParser
  pub templates : ValueParser
  pub workers : ValueParser
  pub limit : ValueParser
  pub prints : ValueParser
  pub parts : ValueParser
  pub colors : ValueParser

-- A required argument. (The rule of one that may be left out is `new_rule`.)
abbrev pub required : Text → Rule
required id = record (new_rule id) { required = true }

-- An option without a default value.
abbrev pub without_default : Text → Rule
without_default id = record (new_rule id) { long = Some id; value_names = 1 }

-- An option without a default value, which may be there several times.
abbrev pub several : Text → Rule
several id = record (without_default id) { action = Some Append }

-- An option that has to be there.
abbrev pub required_option : Text → Rule
required_option id = record (without_default id) { required = true }

-- An option with this default value.
abbrev pub optional : Text → Text → ValueParser → Rule
optional id default parser = record (without_default id) { defaults = default ∷ []; parser = Some parser }

-- A flag.
abbrev pub flag : Text → Rule
flag id = record (new_rule id) { long = Some id; action = Some SetTrue }

-- A flag that has a letter, too.
abbrev pub short_flag : ℕ → Text → Rule
short_flag letter id = record (flag id) { short = Some letter }

-- An option or a flag that requires another argument. Which one that is, a plan says (`HasValues`).
abbrev pub beside : Rule → Rule
beside rule = record rule { is_free = false }

-- An argument with any number of values.
abbrev pub repeated : Text → Rule
repeated id = record (new_rule id) {
  action = Some Append;
  range = Some (record { start_inclusive = 0; end_inclusive = usize_max });
}

-- The commands: their names and arguments.
abbrev pub table : Parsers → List (Text × List Rule)
table parsers = (
  codes "verify",
  without_default (codes "require")
      ∷ flag (codes "old-kernel")
      ∷ several (codes "known")
      ∷ flag (codes "prefix")
      ∷ without_default (codes "save")
      ∷ without_default (codes "resume")
      ∷ flag (codes "hcrtm")
      ∷ flag (codes "explain")
      ∷ flag (codes "summary")
      ∷ flag (codes "terminal")
      ∷ optional (codes "color") (codes "auto") parsers.colors
      ∷ flag (codes "json")
      ∷ short_flag 113 (codes "quiet")  -- (`-q`)
      ∷ required (codes "LOG")
      ∷ required (codes "LIST")
      ∷ required (codes "EXPECTED")
      ∷ [],
)
    ∷ (
      codes "attest",
      required_option (codes "nonce")
          ∷ required_option (codes "require")
          ∷ several (codes "known")
          ∷ flag (codes "sha1")
          ∷ flag (codes "old-kernel")
          ∷ without_default (codes "key")
          ∷ without_default (codes "signature")
          ∷ flag (codes "signature-checked")
          ∷ flag (codes "prefix")
          ∷ without_default (codes "save")
          ∷ without_default (codes "resume")
          ∷ flag (codes "hcrtm")
          ∷ flag (codes "explain")
          ∷ flag (codes "summary")
          ∷ flag (codes "terminal")
          ∷ optional (codes "color") (codes "auto") parsers.colors
          ∷ flag (codes "json")
          ∷ short_flag 113 (codes "quiet")
          ∷ required (codes "LOG")
          ∷ required (codes "LIST")
          ∷ required (codes "QUOTE")
          ∷ new_rule (codes "EXPECTED")
          ∷ [],
    )
    ∷ (
      codes "replay",
      beside (without_default (codes "require"))
          ∷ several (codes "known")
          ∷ beside (flag (codes "explain"))
          ∷ beside (flag (codes "summary"))
          ∷ flag (codes "terminal")
          ∷ optional (codes "color") (codes "auto") parsers.colors
          ∷ flag (codes "json")
          ∷ short_flag 113 (codes "quiet")
          ∷ required (codes "LIST")
          ∷ new_rule (codes "EXPECTED")
          ∷ [],
    )
    ∷ (
      codes "locate",
      without_default (codes "require")
          ∷ flag (codes "hcrtm")
          ∷ flag (codes "explain")
          ∷ optional (codes "color") (codes "auto") parsers.colors
          ∷ flag (codes "json")
          ∷ short_flag 113 (codes "quiet")
          ∷ required (codes "LOG")
          ∷ required (codes "LIST")
          ∷ required (codes "EXPECTED")
          ∷ [],
    )
    ∷ (
      codes "boot",
      without_default (codes "expected")
          ∷ without_default (codes "quote")
          ∷ without_default (codes "list")
          ∷ without_default (codes "nonce")
          ∷ without_default (codes "require")
          ∷ flag (codes "sha1")
          ∷ flag (codes "old-kernel")
          ∷ without_default (codes "key")
          ∷ without_default (codes "signature")
          ∷ flag (codes "signature-checked")
          ∷ without_default (codes "before")
          ∷ flag (codes "hcrtm")
          ∷ flag (codes "json")
          ∷ short_flag 113 (codes "quiet")
          ∷ required (codes "LOG")
          ∷ [],
    )
    ∷ (
      codes "events",
      flag (codes "data")
          ∷ flag (codes "explain")
          ∷ without_default (codes "expected")
          ∷ without_default (codes "quote")
          ∷ without_default (codes "list")
          ∷ without_default (codes "nonce")
          ∷ without_default (codes "require")
          ∷ flag (codes "sha1")
          ∷ flag (codes "old-kernel")
          ∷ without_default (codes "key")
          ∷ without_default (codes "signature")
          ∷ flag (codes "signature-checked")
          ∷ flag (codes "hcrtm")
          ∷ flag (codes "json")
          ∷ short_flag 113 (codes "quiet")
          ∷ required (codes "LOG")
          ∷ [],
    )
    ∷ (codes "show", flag (codes "partial") ∷ flag (codes "json") ∷ short_flag 113 (codes "quiet") ∷ required (codes "LIST") ∷ [])
    ∷ (codes "registers", flag (codes "hcrtm") ∷ flag (codes "json") ∷ short_flag 113 (codes "quiet") ∷ required (codes "LOG") ∷ [])
    ∷ (codes "expected", without_default (codes "registers") ∷ flag (codes "json") ∷ short_flag 113 (codes "quiet") ∷ required (codes "PCRREAD") ∷ [])
    ∷ (codes "key", flag (codes "endorsement") ∷ optional (codes "print") (codes "all") parsers.parts ∷ flag (codes "json") ∷ short_flag 113 (codes "quiet") ∷ required (codes "FILE") ∷ [])
    ∷ (codes "list", short_flag 113 (codes "quiet") ∷ required (codes "FILE") ∷ [])
    ∷ (codes "log", short_flag 113 (codes "quiet") ∷ required (codes "FILE") ∷ [])
    ∷ (
      codes "measure",
      optional (codes "alg") (codes "sha256") parsers.algs
          ∷ optional (codes "template") (codes "ima-ng") parsers.templates
          ∷ optional (codes "workers") (codes "2") parsers.workers
          ∷ optional (codes "limit") (codes "100000") parsers.limit
          ∷ optional (codes "print") (codes "ascii") parsers.prints
          ∷ without_default (codes "files-from")
          ∷ beside (short_flag 48 (codes "null"))  -- (`-0`)
          ∷ flag (codes "hcrtm")
          ∷ flag (codes "json")
          ∷ short_flag 113 (codes "quiet")
          ∷ required (codes "LOG")
          ∷ repeated (codes "FILE")
          ∷ [],
    )
    ∷ []

-- The program, whose first argument is a command's name or the flag that asks for the version.
abbrev pub program_app : App
program_app = with_rule
    (record { top = record (new_app (codes "ima-agent")).top { no_binary_name = true; disable_help_subcommand = true; subcommand_required = true }; subs = [] })
    (record (new_rule (codes "version")) { long = Some (codes "version"); short = Some 86; action = Some show_version })  -- (`-V`)

-- The program with all commands.
abbrev pub commands : Parsers → App
commands parsers = fold (λ app row. with_subcommand app (fold with_rule (new_app row.0) row.1).top) program_app (table parsers)

-- ---- the values of arguments

-- The argument of this name has this first value, or it is not present.
abbrev pub IsGivenAs : Text → List Row → Option (String Global) → Type 0
IsGivenAs id rows None = all_of id rows ≡ None
IsGivenAs id rows (Some text) = first_of id rows ≡ Some (string_bytes text)

-- The argument of this name has these values, or it is not present.
abbrev pub AreGivenAs : Text → List Row → Option (Vec (String Global)) → Type 0
AreGivenAs id rows None = all_of id rows ≡ None
AreGivenAs id rows (Some texts) = all_of id rows ≡ Some (map string_bytes texts.items)

-- The flag of this name says this: the second of two if it is present, else the first. clap gives it the value `true` or `false`.
abbrev pub IsFlag : {A : Type 0} → Text → List Row → A → A → A → Type 0
IsFlag id rows absent present it =
    ((first_of id rows ≡ Some (codes "true")) × (it ≡ present)) ⊎ ((first_of id rows ≡ Some (codes "false")) × (it ≡ absent))

-- The matches name this log, and say whether the H-CRTM's event tells that PCR 0 began at 4.
pub record HasLog (rows : List Row) (log : LogFile) : Type 0 where
  pub name_is : IsGivenAs (codes "LOG") rows (Some log.name)
  pub hcrtm_is : IsFlag (codes "hcrtm") rows false true log.hcrtm

-- The first value of this name is a number in decimal.
pub record HasNumber (id : Text) (rows : List Row) (number : ℕ) : Type 0 where
  pub text : Text
  pub has : first_of id rows ≡ Some text
  pub numeral : IsNumeral 10 (without_leading_plus text)
  pub number_is : digits_value 10 (without_leading_plus text) ≡ number

abbrev pub print_name : Print → Text
print_name prints.Ascii = codes "ascii"
print_name prints.Binary = codes "binary"
print_name prints.Registers = codes "registers"

-- The text of further names has this name, and this ends each in it; or neither `--files-from` nor `--null` is present.
abbrev pub AreFurtherNames : List Row → Option Names → Type 0
AreFurtherNames rows None = IsGivenAs (codes "files-from") rows None × IsFlag (codes "null") rows LineFeed Nul LineFeed
AreFurtherNames rows (Some names) =
    IsGivenAs (codes "files-from") rows (Some names.text) × IsFlag (codes "null") rows LineFeed Nul names.ends

-- The matches have the options and names of this measurement.
pub record HasMeasure (rows : List Row) (request : Measurement) : Type 0 where
  pub alg_is : first_of (codes "alg") rows ≡ Some (name_of request.alg)
  pub template_is : first_of (codes "template") rows ≡ Some (template_name request.template)
  pub workers_is : HasNumber (codes "workers") rows request.workers
  pub limit_is : HasNumber (codes "limit") rows request.limit
  pub print_is : first_of (codes "print") rows ≡ Some (print_name request.print)
  pub log_is : HasLog rows request.log
  pub files_are : unwrap_or (all_of (codes "FILE") rows) [] ≡ map string_bytes request.files.items
  pub names_are : AreFurtherNames rows request.names

-- The first value of this name spells these bytes, two hexadecimal digits of either case for each.
pub record HasBytes (id : Text) (rows : List Row) (bytes : List ℕ) : Type 0 where
  pub text : Text
  pub has : first_of id rows ≡ Some text
  pub spells : decode_of text ≡ Ok bytes

-- This tells that a quote's message is signed: the caller does, only if he says that he has verified the signature, and names neither key nor
-- signature; a key and a signature do, only if both are named, and nothing is said of them.
abbrev pub IsSignedAs : List Row → SigningOptions → Type 0
IsSignedAs rows NotChecked =
    IsGivenAs (codes "key") rows None × IsGivenAs (codes "signature") rows None × IsFlag (codes "signature-checked") rows false true false
IsSignedAs rows ByCaller =
    IsGivenAs (codes "key") rows None × IsGivenAs (codes "signature") rows None × IsFlag (codes "signature-checked") rows false true true
IsSignedAs rows (ByKey key signature) =
    IsGivenAs (codes "key") rows (Some key)
    × IsGivenAs (codes "signature") rows (Some signature)
    × IsFlag (codes "signature-checked") rows false true false

-- The matches have what is asked of the quote in the file of this name, and the list, which the argument of this name has.
pub record HasQuoting (list : Text) (rows : List Row) (quote : String Global) (quoting : Quoting) : Type 0 where
  pub list_is : IsGivenAs list rows (Some quoting.list)
  pub quote_is : quoting.quote ≡ quote
  pub nonce_is : HasBytes (codes "nonce") rows quoting.nonce.items
  pub required_is : IsGivenAs (codes "require") rows (Some quoting.required)
  pub takes_sha1_is : IsFlag (codes "sha1") rows false true quoting.takes_sha1
  pub old_kernel_is : IsFlag (codes "old-kernel") rows false true quoting.old_kernel
  pub signing_is : IsSignedAs rows quoting.signing

-- A look is that on a terminal; and it is one line.
abbrev pub is_terminal : Look → Bool
is_terminal Terminal = true
is_terminal look = false

abbrev pub is_summary : Look → Bool
is_summary Summary = true
is_summary look = false

-- A verdict has this look: the flags say so, of which no more than one is present.
abbrev pub IsLook : List Row → Look → Type 0
IsLook rows look =
    IsFlag (codes "terminal") rows false true (is_terminal look) × IsFlag (codes "summary") rows false true (is_summary look)

-- The matches have the options and names of this attestation.
pub record HasAttestOptions (rows : List Row) (attest : AttestOptions) : Type 0 where
  pub log_is : HasLog rows attest.log
  pub quote_is : IsGivenAs (codes "QUOTE") rows (Some attest.quoting.quote)
  pub quoting_is : HasQuoting (codes "LIST") rows attest.quoting.quote attest.quoting
  pub expected_is : IsGivenAs (codes "EXPECTED") rows attest.expected
  pub known_are : AreGivenAs (codes "known") rows attest.known
  pub scope_is : IsFlag (codes "prefix") rows Whole Prefix attest.scope
  pub resume_is : IsGivenAs (codes "resume") rows attest.resume
  pub save_is : IsGivenAs (codes "save") rows attest.save
  pub explained_is : IsFlag (codes "explain") rows false true attest.explained
  pub look_is : IsLook rows attest.look

abbrev pub part_name : KeyPart → Text
part_name parts.All = codes "all"
part_name parts.Name = codes "name"
part_name parts.Pem = codes "pem"

-- The matches have the name and the options of this question of a key: its public area's file, what it must be for, and what is shown of it.
pub record HasKey (rows : List Row) (area : String Global) (purpose : Purpose) (part : KeyPart) : Type 0 where
  pub area_is : IsGivenAs (codes "FILE") rows (Some area)
  pub purpose_is : IsFlag (codes "endorsement") rows Attestation Endorsement purpose
  pub part_is : first_of (codes "print") rows ≡ Some (part_name part)

-- The bytes of an event's data are shown; and what they say is.
abbrev pub shows_bytes : DataShown → Bool
shows_bytes Bytes = true
shows_bytes shown = false

abbrev pub explains : DataShown → Bool
explains Meaning = true
explains shown = false

-- This is shown of the data of events: the flags say so, of which no more than one is present.
abbrev pub IsDataShown : List Row → DataShown → Type 0
IsDataShown rows shown =
    IsFlag (codes "data") rows false true (shows_bytes shown) × IsFlag (codes "explain") rows false true (explains shown)

-- The matches have nothing that is asked of a quote beside its name.
pub record HasNoQuoting (rows : List Row) : Type 0 where
  pub list_is : IsGivenAs (codes "list") rows None
  pub nonce_is : IsGivenAs (codes "nonce") rows None
  pub required_is : IsGivenAs (codes "require") rows None
  pub takes_sha1_is : IsFlag (codes "sha1") rows false true false
  pub old_kernel_is : IsFlag (codes "old-kernel") rows false true false
  pub signing_is : IsSignedAs rows NotChecked

-- This tells which data is confirmed: of `--expected` and `--quote`, no more than one is present.
abbrev pub IsConfirmedBy : List Row → ConfirmedBy → Type 0
IsConfirmedBy rows Nothing =
    IsGivenAs (codes "expected") rows None × IsGivenAs (codes "quote") rows None × HasNoQuoting rows
IsConfirmedBy rows (Expected name) =
    IsGivenAs (codes "expected") rows (Some name) × IsGivenAs (codes "quote") rows None × HasNoQuoting rows
IsConfirmedBy rows (Quote quoting) =
    IsGivenAs (codes "expected") rows None × IsGivenAs (codes "quote") rows (Some quoting.quote)
    × HasQuoting (codes "list") rows quoting.quote quoting

-- ---- commands and their tasks

-- The command of this name judges this, and the matches have the options and names that only this has.
abbrev pub HasComparison : Text → List Row → ComparisonKind → Type 0
HasComparison command rows (kinds.Verdict log scope resume save) =
    (command ≡ codes "verify")
    × HasLog rows log
    × IsFlag (codes "prefix") rows Whole Prefix scope
    × IsGivenAs (codes "resume") rows resume
    × IsGivenAs (codes "save") rows save
HasComparison command rows (kinds.Positions log) = (command ≡ codes "locate") × HasLog rows log
HasComparison command rows kinds.ListVerdict = command ≡ codes "replay"

-- An older kernel's boot aggregate is taken, or not: the flag says so, for a verdict on a log, and only beside a text of required registers.
abbrev pub TakesOld : List Row → ComparisonKind → Option (String Global) → Bool → Type 0
TakesOld rows (kinds.Verdict log scope resume save) (Some text) old_kernel = IsFlag (codes "old-kernel") rows false true old_kernel
TakesOld rows (kinds.Verdict log scope resume save) None old_kernel =
    IsFlag (codes "old-kernel") rows false true false × (old_kernel ≡ false)
TakesOld rows kind required old_kernel = old_kernel ≡ false

-- A comparison has this look: positions have no other than the plain one.
abbrev pub TakesLook : List Row → ComparisonKind → Look → Type 0
TakesLook rows (kinds.Positions log) look = look ≡ Plain
TakesLook rows kind look = IsLook rows look

-- The command of this name asks this, and the matches have its options and names. `ListRegisters` requires that none of EXPECTED,
-- `--require`, `--known`, `--explain` and `--summary` is present.
abbrev pub HasQuery : Text → List Row → Query → Type 0
HasQuery command rows (queries.LogRegisters log) = (command ≡ codes "registers") × HasLog rows log
HasQuery command rows (queries.ListRegisters list) =
    (command ≡ codes "replay")
    × IsGivenAs (codes "LIST") rows (Some list)
    × IsGivenAs (codes "EXPECTED") rows None
    × IsGivenAs (codes "require") rows None
    × AreGivenAs (codes "known") rows None
    × IsFlag (codes "explain") rows false true false
    × IsFlag (codes "summary") rows false true false
HasQuery command rows (queries.Comparison judge) =
    HasComparison command rows judge.kind
    × IsGivenAs (codes "LIST") rows (Some judge.list)
    × IsGivenAs (codes "EXPECTED") rows (Some judge.expected)
    × IsGivenAs (codes "require") rows judge.required
    × AreGivenAs (codes "known") rows judge.known
    × TakesOld rows judge.kind judge.required judge.old_kernel
    × IsFlag (codes "explain") rows false true judge.explained
    × TakesLook rows judge.kind judge.look
HasQuery command rows (queries.Attestation attest) = (command ≡ codes "attest") × HasAttestOptions rows attest
HasQuery command rows (queries.Expected printed registers) =
    (command ≡ codes "expected") × IsGivenAs (codes "PCRREAD") rows (Some printed) × IsGivenAs (codes "registers") rows registers
HasQuery command rows (queries.Key area purpose part) = (command ≡ codes "key") × HasKey rows area purpose part

-- This argument is standard input, where a command takes it.
abbrev pub is_dash : String Global → Bool
is_dash argument = bytes_eq (string_bytes argument) (codes "-")

-- Log and expected registers are both standard input, which has one of them; and the log of an earlier boot is, which is in a file.
abbrev pub reads_twice : LogFile → ConfirmedBy → Bool
reads_twice log (Expected name) = is_dash log.name && is_dash name
reads_twice log confirmed_by = false

abbrev pub reads_earlier : Option (String Global) → Bool
reads_earlier before = option_map_or is_dash before false

-- The command that converts from this form.
abbrev pub conversion_name : Conversion → Text
conversion_name conversions.List = codes "list"
conversion_name conversions.Log = codes "log"

-- The command of this name does this, and the matches have its options and names.
abbrev pub HasValues : Text → List Row → Task → Type 0
HasValues command rows (tasks.Answer question) = HasQuery command rows question
HasValues command rows (tasks.Measure request) = (command ≡ codes "measure") × HasMeasure rows request
HasValues command rows (tasks.Events log shown confirmed_by) =
    (command ≡ codes "events") × HasLog rows log × IsDataShown rows shown × IsConfirmedBy rows confirmed_by × (reads_twice log confirmed_by ≡ false)
HasValues command rows (tasks.Boot log confirmed_by before) =
    (command ≡ codes "boot")
    × HasLog rows log
    × IsConfirmedBy rows confirmed_by
    × IsGivenAs (codes "before") rows before
    × (reads_twice log confirmed_by ≡ false)
    × (reads_earlier before ≡ false)
HasValues command rows (tasks.Convert input conversion) = (command ≡ conversion_name conversion) × IsGivenAs (codes "FILE") rows (Some input)
HasValues command rows (tasks.Entries list partial) =
    (command ≡ codes "show") × IsGivenAs (codes "LIST") rows (Some list) × IsFlag (codes "partial") rows false true partial
HasValues command rows task = ⊥

-- The command of this name shows its result in this form: with `--json` as JSON, and without it as text. A command that converts has no such
-- flag.
abbrev pub IsShownAs : Text → List Row → Form → Type 0
IsShownAs command rows form =
    IsFlag (codes "json") rows forms.Text forms.Json form
    ⊎ (((command ≡ conversion_name conversions.List) ⊎ (command ≡ conversion_name conversions.Log)) × (form ≡ forms.Text))

-- The matches of the command of this name, which was found, have the options and names of the task, and its form.
pub record HasValuesIn (command : Text) (found : Option (Text × List Row)) (request : Task × Form) : Type 0 where
  pub rows : List Row
  pub rows_are : option_map (λ match. match.1) found ≡ Some rows
  pub form_is : IsShownAs command rows request.1
  pub values : HasValues command rows request.0

-- ---- plans

-- The plan is of the command of this name, and has the options and names that the arguments match.
pub record IsMatched (command : Text) (arguments : List Text) (plan : Plan) : Type 0 where
  pub parsers : Parsers
  pub values : HasValuesIn command (subcommand_of (commands parsers) arguments) (task_of plan)
  pub one : IsOneOf plan

-- By its own definition clap does not take the arguments. (Of `measure` and `replay`, some of whose options go only with others, that
-- says nothing.)
abbrev pub AreNotTaken : List Text → Type 0
AreNotTaken arguments = (parsers : Parsers) × (takes (commands parsers) arguments ≡ true → ⊥)

-- The argument begins with these short options.
abbrev pub begins_with : Text → List ℕ → Bool
begins_with options word = starts_with (λ a b. a == b) word options

-- Short options that ask for help.
abbrev pub help_options : List (List ℕ)
help_options = codes "-h" ∷ codes "-0h" ∷ codes "-qh" ∷ codes "-0qh" ∷ codes "-q0h" ∷ []

-- The argument requests help: it is `--help`, or short options of which `h` is the first, or follows no others than `0` and `q`.
abbrev pub asks_help : List ℕ → Bool
asks_help word = bytes_eq word (codes "--help") || list_any (λ options. begins_with options word) help_options

-- The argument is `--quiet`, or short options of which one is `q`.
abbrev pub is_quiet_word : List ℕ → Bool
is_quiet_word word =
    bytes_eq word (codes "--quiet")
    || (begins_with (codes "-") word && (not (begins_with (codes "--") word) && list_any (λ letter. letter == 113) word))

-- No option follows this argument.
abbrev pub ends_options : List ℕ → Bool
ends_options word = bytes_eq word (codes "--")

-- The first of these arguments that is `--` or asks for silence asks for silence.
abbrev pub asks_first : List (String Global) → Bool
asks_first words =
    option_map_or (λ word. is_quiet_word (string_bytes word))
    (find (λ word. ends_options (string_bytes word) || is_quiet_word (string_bytes word)) words) false

-- The arguments ask for silence: one after the command does, and no `--` comes before it.
abbrev pub asks_quiet : List (String Global) → Bool
asks_quiet arguments = nat_le 1 (length arguments) && asks_first (drop 1 arguments)

-- ---- colours

-- The command prints a report, which may have colours.
abbrev pub may_color : List ℕ → Bool
may_color word = bytes_eq word (codes "verify") || bytes_eq word (codes "attest") || bytes_eq word (codes "replay") || bytes_eq word (codes "locate")

-- The arguments are those of such a command.
abbrev pub reports : List (String Global) → Bool
reports [] = false
reports (word ∷ words) = may_color (string_bytes word)

-- The argument is `--json`.
abbrev pub is_json_word : List ℕ → Bool
is_json_word word = bytes_eq word (codes "--json")

-- The first of these arguments that is `--` or `--json` is `--json`.
abbrev pub asks_json : List (String Global) → Bool
asks_json words =
    option_map_or (λ word. is_json_word (string_bytes word))
    (find (λ word. ends_options (string_bytes word) || is_json_word (string_bytes word)) words) false

-- The argument is `--color`, alone or with its value.
abbrev pub is_color_word : List ℕ → Bool
is_color_word word = bytes_eq word (codes "--color") || begins_with (codes "--color=") word

-- The choice of this name. (Arguments with another name are refused.)
abbrev pub choice_of : List ℕ → ColorChoice
choice_of name =
    if bytes_eq name (codes "always") then Always else if bytes_eq name (codes "never") then Never else Auto

-- What follows `--color`.
abbrev pub choice_next : List (String Global) → ColorChoice
choice_next [] = Auto
choice_next (word ∷ words) = choice_of (string_bytes word)

-- What this argument says of colours, before these.
abbrev pub choice_by : List ℕ → List (String Global) → ColorChoice
choice_by word rest =
    if bytes_eq word (codes "--color=always") then Always
    else if bytes_eq word (codes "--color=never") then Never
    else if bytes_eq word (codes "--color") then choice_next rest
    else Auto

-- What the first of these arguments says of colours.
abbrev pub choice_at : List (String Global) → ColorChoice
choice_at [] = Auto
choice_at (word ∷ rest) = choice_by (string_bytes word) rest

-- What the first `--color` says, unless `--` comes before it.
abbrev pub choice_asked : List (String Global) → ColorChoice
choice_asked words =
    choice_at (drop (position_or_len (λ word. ends_options (string_bytes word) || is_color_word (string_bytes word)) words) words)

-- When the output has colours: what `--color` says, for a report that is no JSON; otherwise never.
abbrev pub color_choice : List (String Global) → ColorChoice
color_choice arguments = if reports arguments && not (asks_json arguments) then choice_asked arguments else Never

-- The command judges, so that its result can be shown as on a terminal.
abbrev pub judges : List ℕ → Bool
judges word = bytes_eq word (codes "verify") || bytes_eq word (codes "attest") || bytes_eq word (codes "replay")

-- The argument says how a verdict is shown.
abbrev pub says_look : List ℕ → Bool
says_look word = bytes_eq word (codes "--json") || bytes_eq word (codes "--summary") || bytes_eq word (codes "--terminal")

-- The first argument is a command that judges, and none says how the verdict is shown.
abbrev pub takes_terminal : List (String Global) → Bool
takes_terminal arguments =
    option_map_or (λ word. judges (string_bytes word)) (slice_get arguments 0) false
    && not (list_any (λ word. says_look (string_bytes word)) arguments)

-- The arguments as on a terminal: `--terminal` follows such a command. Nothing else changes.
abbrev pub as_on_terminal : List (String Global) → List Text
as_on_terminal arguments =
    if takes_terminal arguments then insert (map string_bytes arguments) 1 (codes "--terminal") else map string_bytes arguments

-- Some argument requests help.
abbrev pub HasHelpWord : List (String Global) → Type 0
HasHelpWord arguments = IsTrue (list_any (λ word. asks_help (string_bytes word)) arguments)

-- The plan is help.
abbrev pub IsHelp : Plan → Type 0
IsHelp plan = (text : String Global) × (plan ≡ plans.Help text)

-- The argument requests the version: it is `--version`, or short options of which the first is `-V`.
abbrev pub asks_version : List ℕ → Bool
asks_version word = bytes_eq word (codes "--version") || begins_with (codes "-V") word

-- The first argument requests the version.
abbrev pub BeginsWithVersion : List (String Global) → Type 0
BeginsWithVersion [] = ⊥
BeginsWithVersion (word ∷ arguments) = IsTrue (asks_version (string_bytes word))

-- The plan is of the command of this name, and all arguments match its options and names; or they are not taken, and one of them requests
-- help.
abbrev pub IsPlanOrHelp : List (String Global) → Text → Plan → Type 0
IsPlanOrHelp arguments command plan =
    IsMatched command (map string_bytes arguments) plan ⊎ (HasHelpWord arguments × IsHelp plan × AreNotTaken (map string_bytes arguments))

-- Without arguments the plan is `Registers`: the log on standard input. Otherwise the first argument is the command; or it requests the
-- version.
abbrev pub IsRequestedBy : List (String Global) → Plan → Type 0
IsRequestedBy [] plan = plan ≡ plans.Registers
IsRequestedBy (word ∷ arguments) plan =
    IsPlanOrHelp (word ∷ arguments) (string_bytes word) plan ⊎ (BeginsWithVersion (word ∷ arguments) × (plan ≡ plans.Task tasks.Version forms.Text))

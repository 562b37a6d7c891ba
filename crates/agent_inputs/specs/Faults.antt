-- How the faults of the parts become faults of the program. Out of memory is one fault, wherever it happens.
use Rattle.std.specs.Prelude.{◌≡◌, ℕ, ◌⊎◌, List, Option, Some, None}
use Rattle.pcr_values.specs.declared.expected.ExpectFault.{ExpectFault}
use Rattle.pcr_values.specs.declared.expected.ExpectFault.TheVariants as expects
use Rattle.pcr_values.specs.Names.{expect_fault_line, expect_fault_number}
use Rattle.agent_plans.specs.declared.plan.ArgumentsFault.{ArgumentsFault}
use Rattle.agent_plans.specs.declared.plan.ArgumentsFault.TheVariants as arguments
use Rattle.boot_log.specs.declared.fault.LogFault.{LogFault}
use Rattle.boot_log.specs.declared.fault.LogFault.TheVariants as logs
use Rattle.boot_log.specs.Names.{log_fault, log_fault_event, log_fault_number}
use Rattle.ima_list.specs.declared.fault.ListFault.{ListFault}
use Rattle.ima_list.specs.declared.fault.ListFault.TheVariants as lists
use Rattle.ima_list.specs.Names.{list_fault_entry, list_fault_number, replay_fault_entry, replay_fault_number}
use Rattle.list_imports.specs.declared.fault.ListImportFault.{ListImportFault}
use Rattle.list_imports.specs.declared.fault.ListImportFault.TheVariants as texts
use Rattle.list_imports.specs.Names.{list_import_fault_line, list_import_fault_number}
use Rattle.log_imports.specs.declared.fault.LogImportFault.{LogImportFault}
use Rattle.log_imports.specs.declared.fault.LogImportFault.TheVariants as forms
use Rattle.log_imports.specs.Names.{import_fault_event, import_fault_number}
use Rattle.measure_book.specs.declared.fault.BookFault.{BookFault}
use Rattle.measure_book.specs.declared.fault.BookFault.TheVariants as books
use Rattle.measure_book.specs.declared.gathers.GatherFault.TheVariants as gathers
use Rattle.measure_book.specs.Names.{fault_number, gather_fault_number}
use Rattle.known_files.specs.declared.fault.KnownFault.{KnownFault}
use Rattle.known_files.specs.declared.fault.KnownFault.TheVariants as known
use Rattle.attestations.specs.Judging.{quote_refusal_number}
use Rattle.tpm_keys.specs.Faults.{key_fault_number}
use Rattle.signed_messages.specs.Refusals.{signature_refusal_number}
use Rattle.signed_messages.specs.declared.check_fault.CheckFault.{CheckFault}
use Rattle.signed_messages.specs.declared.check_fault.CheckFault.TheVariants as checks
use Rattle.agent_inputs.specs.declared.fault.FaultHead.{FaultHead}
use Rattle.agent_inputs.specs.declared.fault.FaultKind.{FaultKind}
use Rattle.agent_inputs.specs.declared.fault.FaultKind.TheVariants as kinds
use Rattle.agent_inputs.specs.declared.fault.NotResumed.{NotResumed}
use Rattle.agent_inputs.specs.declared.fault.NotResumed.TheVariants as resumes
use Rattle.agent_inputs.specs.declared.fault.RunFault.{RunFault}
use Rattle.agent_inputs.specs.declared.fault.RunFault.TheVariants as runs

-- The numbers of why there is no going on from a checkpoint.
abbrev pub not_resumed_number : NotResumed → ℕ
not_resumed_number resumes.Damaged = 1
not_resumed_number resumes.Version = 2
not_resumed_number resumes.OtherBoot = 3
not_resumed_number resumes.OtherCounts = 4

abbrev pub fault_of_arguments : ArgumentsFault → RunFault
fault_of_arguments arguments.Usage = runs.Usage
fault_of_arguments arguments.Memory = runs.Memory

abbrev pub fault_of_log : LogFault → RunFault
fault_of_log logs.Memory = runs.Memory
fault_of_log fault = runs.Log fault

-- The bytes are no log, and the fault is their first.
pub record HasLogFault (content : List ℕ) (fault : RunFault) : Type 0 where
  pub first : LogFault
  pub first_is : log_fault content ≡ Some first
  pub says : fault ≡ fault_of_log first

abbrev pub fault_of_list : ListFault → RunFault
fault_of_list lists.Memory = runs.Memory
fault_of_list fault = runs.List fault

-- Why a text is not a list as text.
abbrev pub fault_of_list_text : ListImportFault → RunFault
fault_of_list_text texts.Memory = runs.Memory
fault_of_list_text fault = runs.ListText fault

-- Why bytes are no log in a form that is converted.
abbrev pub fault_of_log_form : LogImportFault → RunFault
fault_of_log_form forms.Memory = runs.Memory
fault_of_log_form fault = runs.LogForm fault

abbrev pub fault_of_expected : ExpectFault → RunFault
fault_of_expected expects.Memory = runs.Memory
fault_of_expected fault = runs.Expect fault

-- Why a message is not signed by a key.
abbrev pub fault_of_check : CheckFault → RunFault
fault_of_check (checks.Key fault) = runs.Key fault
fault_of_check (checks.Signature refusal) = runs.Signature refusal
fault_of_check checks.Memory = runs.Memory

-- Of the files by which others are known, the text of the one of this number was refused for this reason.
abbrev pub fault_of_known : ℕ → KnownFault → RunFault
fault_of_known file known.Memory = runs.Memory
fault_of_known file fault = runs.Known file fault

-- The file of this number was refused for this reason.
abbrev pub fault_of_job : ℕ → BookFault → RunFault
fault_of_job job books.Memory = runs.Memory
fault_of_job job fault = runs.Outcome job fault

-- The arguments are not those of a command, or memory ran out.
abbrev pub IsArgumentsFault : RunFault → Type 0
IsArgumentsFault fault = (fault ≡ runs.Usage) ⊎ (fault ≡ runs.Memory)

-- ---- what a fault is, beside a name in it

abbrev pub head_with : FaultKind → Option ℕ → Option ℕ → FaultHead
head_with kind number place = record { kind = kind; number = number; place = place }

-- A fault's kind, its number among the faults of its kind, and the event, the entry or the line that it names; of a file that the book
-- refused the file's number.
abbrev pub fault_head : RunFault → FaultHead
fault_head (runs.Log logs.Memory) = head_with kinds.Memory None None
fault_head (runs.List lists.Memory) = head_with kinds.Memory None None
fault_head (runs.ListText texts.Memory) = head_with kinds.Memory None None
fault_head (runs.LogForm forms.Memory) = head_with kinds.Memory None None
fault_head (runs.LogForm (forms.Log logs.Memory)) = head_with kinds.Memory None None
fault_head (runs.Expect expects.Memory) = head_with kinds.Memory None None
fault_head (runs.Book books.Memory) = head_with kinds.Memory None None
fault_head (runs.Outcome job books.Memory) = head_with kinds.Memory None None
fault_head (runs.Known file known.Memory) = head_with kinds.Memory None None
fault_head (runs.Gather gathers.Memory) = head_with kinds.Memory None None
fault_head runs.Memory = head_with kinds.Memory None None
fault_head runs.Usage = head_with kinds.Usage None None
fault_head runs.NotHex = head_with kinds.NotHex None None
fault_head (runs.Log fault) = head_with kinds.Log (Some (log_fault_number fault)) (log_fault_event fault)
fault_head (runs.List fault) = head_with kinds.List (Some (list_fault_number fault)) (list_fault_entry fault)
fault_head (runs.Replay fault) = head_with kinds.Replay (Some (replay_fault_number fault)) (Some (replay_fault_entry fault))
fault_head (runs.ListText fault) = head_with kinds.ListText (Some (list_import_fault_number fault)) (list_import_fault_line fault)
fault_head (runs.LogForm fault) = head_with kinds.LogForm (Some (import_fault_number fault)) (import_fault_event fault)
fault_head (runs.Expect fault) = head_with kinds.Expect (Some (expect_fault_number fault)) (expect_fault_line fault)
fault_head (runs.Quote refusal) = head_with kinds.Quote (Some (quote_refusal_number refusal)) None
fault_head (runs.Signature refusal) = head_with kinds.Signature (Some (signature_refusal_number refusal)) None
fault_head (runs.Key fault) = head_with kinds.Key (Some (key_fault_number fault)) None
fault_head (runs.Known file (known.WeakHash line)) = head_with kinds.Known (Some 1) (Some line)
fault_head (runs.Known file (known.Malformed line)) = head_with kinds.Known (Some 2) (Some line)
fault_head (runs.Checkpoint fault) = head_with kinds.Checkpoint (Some (not_resumed_number fault)) None
fault_head (runs.Book fault) = head_with kinds.Book (Some (fault_number fault)) None
fault_head (runs.Outcome job fault) = head_with kinds.Outcome (Some (fault_number fault)) (Some job)
fault_head (runs.TooLong name) = head_with kinds.TooLong None None
fault_head (runs.Read name) = head_with kinds.Read None None
fault_head (runs.Write name) = head_with kinds.Write None None
fault_head (runs.NotUtf8 name) = head_with kinds.NotUtf8 None None
fault_head (runs.Gather fault) = head_with kinds.Gather (Some (gather_fault_number fault)) None

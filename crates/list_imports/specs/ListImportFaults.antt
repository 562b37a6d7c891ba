-- The number of a fault of a list as text (this project's choice), and the line that it names.
use Rattle.std.specs.Prelude.{ℕ, Option, Some, None}
use Rattle.list_imports.specs.declared.fault.ListImportFault.{ListImportFault}
use Rattle.list_imports.specs.declared.fault.ListImportFault.TheVariants.{Malformed, UnknownTemplate, WrongDigest, TooLong, Memory}

abbrev pub list_import_fault_number : ListImportFault → ℕ
list_import_fault_number (Malformed line) = 1
list_import_fault_number (UnknownTemplate line) = 2
list_import_fault_number (WrongDigest line) = 3
list_import_fault_number (TooLong line) = 4
list_import_fault_number Memory = 5

abbrev pub list_import_fault_line : ListImportFault → Option ℕ
list_import_fault_line (Malformed line) = Some line
list_import_fault_line (UnknownTemplate line) = Some line
list_import_fault_line (WrongDigest line) = Some line
list_import_fault_line (TooLong line) = Some line
list_import_fault_line Memory = None

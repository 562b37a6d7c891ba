-- The number of each fault of a signature.
use Rattle.std.specs.Prelude.{ℕ}
use Rattle.tpm_signatures.specs.declared.fault.SignatureFault.{SignatureFault}
use Rattle.tpm_signatures.specs.declared.fault.SignatureFault.TheVariants.{Truncated, UnknownScheme, UnknownHash, Trailing}

-- A fault's number (this project's choice).
abbrev pub signature_fault_number : SignatureFault → ℕ
signature_fault_number Truncated = 1
signature_fault_number UnknownScheme = 2
signature_fault_number UnknownHash = 3
signature_fault_number Trailing = 4

-- The number of each fault of a public area.
use Rattle.std.specs.Prelude.{ℕ}
use Rattle.tpm_keys.specs.declared.fault.KeyFault.{KeyFault}
use Rattle.tpm_keys.specs.declared.fault.KeyFault.TheVariants.{Truncated, OtherType, UnknownHash, OtherSymmetric, UnknownScheme, OtherExponent, UnknownCurve, KeyDerivation, KeySize, Trailing, WeakName, LeavesTpm, LeavesParent, NotMadeByTpm, Unrestricted, ShortKey, DoesNotSign, Decrypts, NoSigningScheme, WeakHash, Signs, DoesNotDecrypt}

-- A fault's number (this project's choice).
abbrev pub key_fault_number : KeyFault → ℕ
key_fault_number Truncated = 1
key_fault_number OtherType = 2
key_fault_number UnknownHash = 3
key_fault_number OtherSymmetric = 4
key_fault_number UnknownScheme = 5
key_fault_number OtherExponent = 6
key_fault_number UnknownCurve = 7
key_fault_number KeyDerivation = 8
key_fault_number KeySize = 9
key_fault_number Trailing = 10
key_fault_number WeakName = 11
key_fault_number LeavesTpm = 12
key_fault_number LeavesParent = 13
key_fault_number NotMadeByTpm = 14
key_fault_number Unrestricted = 15
key_fault_number ShortKey = 16
key_fault_number DoesNotSign = 17
key_fault_number Decrypts = 18
key_fault_number NoSigningScheme = 19
key_fault_number WeakHash = 20
key_fault_number Signs = 21
key_fault_number DoesNotDecrypt = 22

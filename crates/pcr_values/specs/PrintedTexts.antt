-- What tpm2-tools print of registers: tpm2_pcrread, and tpm2_checkquote, which prints those that were quoted as tpm2_pcrread does,
-- between a line `pcrs:` and the line of the signature. Which lines are taken is this project's choice.
use Rattle.std.specs.Prelude.{◌≡◌, ◌⊎◌, ℕ, ◌<◌, IsTrue, List, [], ◌++◌, length, codes, Option, None}
use Rattle.std.specs.Char.{is_ascii_hexdigit}
use Rattle.std.specs.List.{list_all}
use Rattle.pcr_values.specs.declared.expected.Expected.{Expected}
use Rattle.pcr_values.specs.declared.expected.ExpectFault.{ExpectFault}
use Rattle.pcr_values.specs.declared.expected.ExpectFault.TheVariants.{BadLine, NoRegister, NotChecked, NotSigned}
use Rattle.pcr_values.specs.declared.printed.PrintedPart.{PrintedPart}
use Rattle.pcr_values.specs.declared.printed.PrintedPart.TheVariants.{Printed, Quoted, Signed}
use Rattle.pcr_values.specs.StatedRegisters.{AreStated, BeginsWithStated, HasFaultOfFirst, lines_of}
use Rattle.pcr_values.specs.PcrReadTexts.{Position, Says}

-- ---- lines

-- The line of a signature: `sig: ` and hexadecimal digits of either case, at least one.
pub record IsSignatureLine (line : List ℕ) : Type 0 where
  pub digits : List ℕ
  pub some : 0 < length digits
  pub all_digits : IsTrue (list_all is_ascii_hexdigit digits)
  pub spelled : line ≡ codes "sig: " ++ digits

-- The line leads from this position of one part of a text to the next part: before any bank `pcrs:` begins what was quoted, and the line
-- of the signature ends it.
abbrev pub Turns : PrintedPart → Position → List ℕ → PrintedPart → Type 0
Turns Printed None line Quoted = line ≡ codes "pcrs:"
Turns Quoted bank line Signed = IsSignatureLine line
Turns part bank line next = ⊥

-- A position between lines: the part of the text, and the bank that it is in.
abbrev pub PrintedPosition : Type 0
PrintedPosition = PrintedPart × Position

-- A line at this position of this part leads to the position `after` and states at most one register. After the signature it is empty. Before,
-- it leads to the next part, or says what a line of tpm2_pcrread says.
abbrev pub PrintsIn : PrintedPart → Position → List ℕ → PrintedPosition → Option Expected → Type 0
PrintsIn Signed bank line after stated = (line ≡ []) × (after.0 ≡ Signed) × (after.1 ≡ bank) × (stated ≡ None)
PrintsIn part bank line after stated =
    (Turns part bank line after.0 × (after.1 ≡ None) × (stated ≡ None)) ⊎ ((after.0 ≡ part) × Says bank line after.1 stated)

abbrev pub Prints : PrintedPosition → List ℕ → PrintedPosition → Option Expected → Type 0
Prints before line after stated = PrintsIn before.0 before.1 line after stated

-- ---- a whole text

-- The lines lead to the end of this part, and state these registers, no register of a bank twice.
abbrev pub ArePrinted : List ℕ → PrintedPart → List Expected → Type 0
ArePrinted text part expected = (bank : Position) × AreStated Prints (Printed, None) (lines_of text) (part, bank) expected

-- The text may end in this part: not before the signature of what was quoted.
abbrev pub MayEnd : PrintedPart → Type 0
MayEnd Quoted = ⊥
MayEnd part = Unit {0}

-- The text states these registers, at least one.
pub record IsPrintedText (text : List ℕ) (expected : List Expected) : Type 0 where
  pub part : PrintedPart
  pub ends : MayEnd part
  pub printed : ArePrinted text part expected
  pub some : 0 < length expected

-- The text begins with lines that state at least one register.
abbrev pub PrintsRegister : List ℕ → Type 0
PrintsRegister text = BeginsWithStated Prints (Printed, None) text

-- ---- faults

-- The text begins as what tpm2_quote prints, which nobody has checked.
abbrev pub IsQuoteOutput : List ℕ → Type 0
IsQuoteOutput text = (rest : List ℕ) × (text ≡ codes "quoted:" ++ rest)

-- The fault is that of the first wrong line. Lines count from 1.
abbrev pub HasWrongLine : List ℕ → ExpectFault → Type 0
HasWrongLine text fault = HasFaultOfFirst Prints (Printed, None) text fault

-- The fault of a text that is not one of these. A wrong line comes first; the first line of what tpm2_quote prints has a fault of its
-- own. Else the line of the signature is missing, or no line states a register.
abbrev pub HasPrintedFault : List ℕ → ExpectFault → Type 0
HasPrintedFault text NotChecked = HasWrongLine text (BadLine 1) × IsQuoteOutput text
HasPrintedFault text NotSigned = (expected : List Expected) × ArePrinted text Quoted expected
HasPrintedFault text NoRegister = (part : PrintedPart) × MayEnd part × ArePrinted text part []
HasPrintedFault text (BadLine line) = HasWrongLine text (BadLine line) × (line ≡ 1 → IsQuoteOutput text → ⊥)
HasPrintedFault text fault = HasWrongLine text fault

-- What other crates name of the definitions of `pcr_values`.
pub use Rattle.pcr_values.specs.ExpectFaults.{expect_fault_line, expect_fault_number}
pub use Rattle.pcr_values.specs.ExpectedTexts.{BeginsWithRegister, HasFirstFault, IsExpectedText, IsRegisterLine, Spells}
pub use Rattle.pcr_values.specs.Lines.{IsSplitOnce}
pub use Rattle.pcr_values.specs.PcrReadTexts.{Begins, GivesValue, IsBankLine, IsSkipped, IsValueLine, Position, Says, is_name_byte, two_columns}
pub use Rattle.pcr_values.specs.PrintedTexts.{ArePrinted, HasPrintedFault, IsPrintedText, MayEnd, PrintedPosition, Prints, PrintsIn, PrintsRegister, Turns}
pub use Rattle.pcr_values.specs.RegisterRanges.{IsNumberedRange, IsRangeText, is_within}
pub use Rattle.pcr_values.specs.RegisterTexts.{change_line, differs, register_change, register_line, registers_text}
unfoldable pub use Rattle.pcr_values.specs.RegisterTexts.{all_registers, every_register}
pub use Rattle.pcr_values.specs.Selections.{AreBankRanges, BeginsWithBankRange, IsBankRangeText, IsFirstWrong, IsNamedRange, SpellsRanges, are_of_banks, bank_after, is_bank, is_in, is_separator, names, parts_length, split_at_separators, those_selected}
pub use Rattle.pcr_values.specs.StatedRegisters.{AreStated, BeginsWithStated, HasFaultOfFirst, IsFaultOfLine, SayAll, Saying, States, lines_of, same_register, split_at_feeds, without_return}
pub use Rattle.pcr_values.specs.WrittenTexts.{expected_line, expected_text}
pub use Rattle.pcr_values.specs.parts.RangeEnds.{AreEnds}
pub use Rattle.pcr_values.specs.parts.SelectionParts.{parts_left}
pub use Rattle.pcr_values.specs.parts.StatedLines.{AddsStated, IsAdded, SaysOnce, StatesAnother, lines_left}

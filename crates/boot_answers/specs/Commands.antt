-- The texts that boot loaders measure: GRUB's commands in register 8 (GRUB, grub-core/commands/tpm.c; RHEL 8's GRUB), and the kernel's
-- command line that systemd-stub hands over in register 12 (systemd-stub, PCR 12, a text in units of two bytes).
--
-- What is told is what was hashed. A GRUB command's kind is claimed: root can pass any command of GRUB off as the kernel's command line. Root
-- can append texts after those of the boot, and can extend a register that the boot loader left empty. For a text that was hashed root can
-- show other data, also the text alone without the command's start. Such an event tells no text.
use Rattle.std.specs.Prelude.{ℕ, List, Option, Some, None, option_map}
use Rattle.pcr_banks.specs.declared.alg.Alg.{Alg}
use Rattle.boot_log.specs.Names.{LogEvent}
use Rattle.event_data.specs.Names.{CommandData, IsCommand, IsWideText, command_in, command_of, wide_text_in}
use Rattle.measured_data.specs.declared.measured.Part.{Part}
use Rattle.measured_data.specs.declared.measured.Part.TheVariants as parts
use Rattle.measured_data.specs.declared.confirmed.Pcr.{Pcr}
use Rattle.measured_data.specs.Confirming.{confirmed_part}
use Rattle.measured_data.specs.Measuring.{IsMeasured}
use Rattle.boot_answers.specs.declared.commands.CommandText.{CommandText}
use Rattle.boot_answers.specs.declared.commands.CommandText.TheVariants as texts

pub data CommandSaid : Type 0 where
  grub : CommandData → CommandSaid
  wide : List ℕ → CommandSaid

-- The event's data is a command of GRUB whose text is measured; or a text in units of two bytes that is measured whole.
abbrev pub IsCommandText : Alg → LogEvent → CommandSaid → Type 0
IsCommandText alg event (grub command) = IsMeasured alg event parts.Command × IsCommand event.payload command
IsCommandText alg event (wide text) = IsMeasured alg event parts.Whole × IsWideText event.payload text

-- The text of data of which this part is confirmed: a command of GRUB, whose text is; or a text in units of two bytes, all of which is.
abbrev pub text_by : Option Part → List ℕ → Option CommandSaid
text_by (Some parts.Command) payload = option_map grub (command_in payload)
text_by (Some parts.Whole) payload = option_map wide (wide_text_in payload)
text_by part payload = None

-- The text that the event tells: one that is measured in each bank that answers for its register.
abbrev pub told_text : List Pcr → LogEvent → Option CommandSaid
told_text matched event = text_by (confirmed_part matched event) event.payload

-- ---- what contracts see of the code's values

abbrev pub said_of : CommandText → CommandSaid
said_of (texts.Grub command) = grub (command_of command)
said_of (texts.Wide text) = wide text.now

-- What one bank tells of the firmware's version.
use Rattle.std.specs.Prelude.{List}
use Rattle.pcr_banks.specs.declared.alg.Alg.{Alg}
use Rattle.boot_log.specs.Names.{LogEvent}
use Rattle.event_data.specs.Names.{Content}
use Rattle.measured_data.specs.declared.confirmed.Pcr.{Pcr}
use Rattle.measured_data.specs.Confirming.{IsAnswering}
use Rattle.boot_answers.specs.FirmwareVersion.{TellsVersion, firmware_register}

-- The bank tells a version.
abbrev pub TellsAny : Alg → List LogEvent → Type 0
TellsAny alg events = (content : Content) × TellsVersion alg events content

-- The bank tells one, if it answers for register 0.
abbrev pub Agrees : List Pcr → List LogEvent → Alg → Type 0
Agrees matched events alg = IsAnswering matched alg firmware_register → TellsAny alg events

-- Each bank that answers tells a version. They tell one, since it is what one event's data says.
abbrev pub AllAgree : List Pcr → List LogEvent → Type 0
AllAgree matched events = (alg : Alg) → Agrees matched events alg

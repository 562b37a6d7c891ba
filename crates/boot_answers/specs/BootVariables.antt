-- The variables that say what the firmware was to start (PC Client Platform Firmware Profile, PCR 1, EV_EFI_VARIABLE_BOOT and _BOOT2; UEFI
-- 2.10, chapter 'Boot Manager').
--
-- Told are those of register 1 before its first event that may be a separator: after it root can append what it likes. A firmware hashes a
-- variable's value alone, or all of the data. Root sets variables, also to a value that is itself the data of another variable, and then can
-- show this other variable with all of its data measured. So vendor and name are claimed, whichever part is measured. Other events of the
-- register have data that is not measured, so that an event between may be another variable that is hidden.
use Rattle.std.specs.Prelude.{◌⊎◌}
use Rattle.pcr_banks.specs.declared.alg.Alg.{Alg}
use Rattle.boot_log.specs.Names.{LogEvent}
use Rattle.event_data.specs.Names.{IsVariable, VariableData}
use Rattle.measured_data.specs.declared.measured.Part.TheVariants.{Value, Whole}
use Rattle.measured_data.specs.Measuring.{IsMeasured}

-- All of the event's data is measured, or its value.
abbrev pub IsMeasuredVariable : Alg → LogEvent → Type 0
IsMeasuredVariable alg event = IsMeasured alg event Whole ⊎ IsMeasured alg event Value

-- The event's data is this variable, and is measured so.
pub record IsBootVariable (alg : Alg) (event : LogEvent) (variable : VariableData) : Type 0 where
  pub measured : IsMeasuredVariable alg event
  pub is : IsVariable event.payload variable

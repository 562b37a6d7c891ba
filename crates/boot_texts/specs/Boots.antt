-- The variables that say what the firmware was to start, by their names (UEFI 2.10, section 3.3).
use Rattle.std.specs.Prelude.{Bool, true, false}
use Rattle.event_data.specs.declared.value_reader.ValueForm.{ValueForm}
use Rattle.event_data.specs.declared.value_reader.ValueForm.TheVariants as forms
use Rattle.event_data.specs.Names.{VariableData, value_form}

-- The forms of the values of BootOrder and of Boot####.
abbrev pub is_boot_form : ValueForm → Bool
is_boot_form forms.Order = true
is_boot_form forms.LoadOption = true
is_boot_form form = false

-- Whether the variable is claimed to be BootOrder or a Boot####, of EFI_GLOBAL_VARIABLE.
abbrev pub is_boot_variable : VariableData → Bool
is_boot_variable variable = is_boot_form (value_form 0 variable)

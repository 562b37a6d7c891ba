-- What a call converts, and what it gives.
use Rattle.std.specs.Prelude.{ℕ, ℤ, ◌==◌, if◌then◌else◌, ◌≡◌, ◌⊎◌, List, Option, None, Some}
use Rattle.agent_inputs.specs.declared.fault.RunFault.{RunFault}
use Rattle.agent_inputs.specs.declared.fault.RunFault.TheVariants.{Memory}
use Rattle.agent_inputs.specs.Faults.{fault_of_list_text, fault_of_log_form}
use Rattle.agent_plans.specs.declared.plan.Conversion.{Conversion}
use Rattle.agent_plans.specs.declared.plan.Conversion.TheVariants as conversions
use Rattle.cells.specs.declared.writer.Form.TheVariants.{Text}
use Rattle.list_imports.specs.declared.fault.ListImportFault.{ListImportFault}
use Rattle.list_imports.specs.Names.{IsListImportFault, IsListOf}
use Rattle.log_imports.specs.declared.fault.LogImportFault.{LogImportFault}
use Rattle.log_imports.specs.Names.{IsFormOf, IsLogImportFault}
use Rattle.ima_verify_c.specs.Answers.{Answers, IsRefusal}
use Rattle.ima_verify_c.specs.Boot.{IsNotAsked}
use Rattle.ima_verify_c.specs.declared.text_info.TextInfo.{TextInfo}

-- The conversion that has this number, if one has it.
abbrev pub conversion_of : ℕ → Option Conversion
conversion_of number = if number == 1 then Some conversions.List else if number == 2 then Some conversions.Log else None

-- The input is this one in the form that the other calls read, which lost so many bytes of padding.
abbrev pub IsConverted : Conversion → List ℕ → List ℕ → ℕ → Type 0
IsConverted conversions.List text list padding = IsListOf text list × (padding ≡ 0)
IsConverted conversions.Log bytes log padding = IsFormOf bytes log padding

-- Why it is none.
abbrev pub IsNotConverted : Conversion → List ℕ → RunFault → Type 0
IsNotConverted conversions.List text fault = (first : ListImportFault) × IsListImportFault text first × (fault ≡ fault_of_list_text first)
IsNotConverted conversions.Log bytes fault = (first : LogImportFault) × IsLogImportFault bytes first × (fault ≡ fault_of_log_form first)

-- The input was given with 0, and what padding it lost; or the line of the fault.
abbrev pub IsConversionAnswer : Conversion → List ℕ → ℕ → List ℕ → ℕ → Option RunFault → Type 0
IsConversionAnswer conversion bytes padding text status fault =
    (IsConverted conversion bytes text padding × (status ≡ 0) × (fault ≡ None))
    ⊎ ((padding ≡ 0) × IsRefusal (λ reason. IsNotConverted conversion bytes reason ⊎ (reason ≡ Memory)) Text text status fault)

-- What a call gives: nothing, if there is no such conversion.
abbrev pub GivesConverted : Option Conversion → List ℕ → ℕ → ℤ → TextInfo → List ℕ → List ℕ → Type 0
GivesConverted None bytes padding answer info old new = (padding ≡ 0) × IsNotAsked answer info old new
GivesConverted (Some conversion) bytes padding answer info old new = Answers (IsConversionAnswer conversion bytes padding) answer info old new

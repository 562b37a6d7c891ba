-- What a file is in the form that the other commands read.
use Rattle.std.specs.Prelude.{◌≡◌, ℕ, List}
use Rattle.list_imports.specs.declared.fault.ListImportFault.{ListImportFault}
use Rattle.list_imports.specs.Names.{IsListImportFault, IsListOf}
use Rattle.log_imports.specs.declared.fault.LogImportFault.{LogImportFault}
use Rattle.log_imports.specs.Names.{IsFormOf, IsLogImportFault}
use Rattle.agent_plans.specs.declared.plan.Conversion.{Conversion}
use Rattle.agent_plans.specs.declared.plan.Conversion.TheVariants as conversions
use Rattle.agent_inputs.specs.declared.fault.RunFault.{RunFault}
use Rattle.agent_inputs.specs.Faults.{fault_of_list_text, fault_of_log_form}

-- The text is the binary list that the bytes show as text; or the crypto-agile log of which the bytes are another form, perhaps with padding.
abbrev pub IsConverted : Conversion → List ℕ → List ℕ → Type 0
IsConverted conversions.List content text = IsListOf content text
IsConverted conversions.Log content text = (padding : ℕ) × IsFormOf content text padding

-- Why there is none: the bytes are no list as text, and this is the fault of the first line that is none; or they are a log in no form.
abbrev pub IsNotConverted : Conversion → List ℕ → RunFault → Type 0
IsNotConverted conversions.List content fault =
    (first : ListImportFault) × IsListImportFault content first × (fault ≡ fault_of_list_text first)
IsNotConverted conversions.Log content fault =
    (first : LogImportFault) × IsLogImportFault content first × (fault ≡ fault_of_log_form first)

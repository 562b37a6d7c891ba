-- What other crates name of the definitions of `log_imports`.
pub use Rattle.log_imports.specs.Sha1Form.{HasRegister, HasSha1Fields, IsSha1Event, Sha1Event, agile_spelling, in_sha1_bank, sha1_log, sha1_spelling, sha1_table}
pub use Rattle.log_imports.specs.LogForms.{AreAll, BeginsWithSha1, IsFormOf, IsNotAgile, IsPaddedLog, IsPadding, IsSha1Log}
pub use Rattle.log_imports.specs.ImportFaults.{FailsAsLog, FailsAtSha1Event, IsLogImportFault, IsNoLog, import_fault_event, import_fault_number}
pub use Rattle.log_imports.specs.Imports.{IsImportOf}
pub use Rattle.log_imports.specs.Starts.{is_hcrtm, machine_locality, machine_value, starts_after_hcrtm, told_events, told_log}

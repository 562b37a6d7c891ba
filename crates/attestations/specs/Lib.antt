pub mod Policies
pub mod Kept
pub mod Judging
pub mod Attesting
pub mod Quoted
pub mod Confirming
pub mod Reports

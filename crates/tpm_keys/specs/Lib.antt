pub mod Faults
pub mod Kinds
pub mod Spelling
pub mod Purposes
pub mod Reading
pub mod KeyInfo
pub mod Reports

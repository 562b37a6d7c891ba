pub mod Faults
pub mod Spelling
pub mod Reading
pub mod Quoting
pub mod parts

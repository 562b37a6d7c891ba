pub mod Matching
pub mod Boot
pub mod Places

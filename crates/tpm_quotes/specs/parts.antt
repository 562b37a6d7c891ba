pub mod Reading
pub mod Hashing

pub mod Modular
pub mod Points
pub mod Curves
pub mod Signing
pub mod parts

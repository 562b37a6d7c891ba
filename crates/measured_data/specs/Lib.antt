pub mod Measuring
pub mod Confirming

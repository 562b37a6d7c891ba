pub mod Measuring
pub mod parts

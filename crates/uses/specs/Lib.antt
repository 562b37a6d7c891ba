pub mod Faults
pub mod Uses

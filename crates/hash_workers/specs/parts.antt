pub mod ClaimRule
pub mod Ending
pub mod Faults
pub mod Scattering
pub mod Seats
pub mod Settling
pub mod Taking
pub mod Working

pub mod Jobs
pub mod Faults
pub mod Batches
pub mod Claims
pub mod Reasons
pub mod Outcomes
pub mod parts
pub mod Names
